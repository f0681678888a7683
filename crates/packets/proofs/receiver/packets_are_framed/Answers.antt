use Rattle.packets.proofs.Framing.{packets_are_framed, check_byte_comes_first, no_packet_without_stx, listed_bytes_are_plain}
use Rattle.packets.proofs.receiver.packets_are_framed.Goals as goal

pub returns : goal.returns
returns c = record { one = packets_are_framed; check = check_byte_comes_first; none = no_packet_without_stx; plain = listed_bytes_are_plain }
