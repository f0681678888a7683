-- What the receiver and the packets of the code hold.
--
--   listed l        the bytes that a list of the code keeps, and its mark
--   in_phase        a receiver in a phase of the code
--   receiver r      the receiver's state
--   packet p        a packet
--   packet_if       the packet that a byte ended, if it ended one
--   parts_if        the address bytes and the body, if a packet has them
use Rattle.std.specs.Prelude.{ℕ, Some, None, Option}
use Rattle.wire.specs.Kept.{Kept}
use Rattle.wire.specs.Lists.{kept}
use Rattle.wire.specs.declared.list.KeptList.{KeptList}
use Rattle.packets.specs.Address.{Parts}
use Rattle.packets.specs.Receiver.{Receiver, idle, collecting, awaiting, Packet}
use Rattle.packets.specs.declared.packet.Packet.{Packet as PacketOfCode}
use Rattle.packets.specs.declared.packet.Parts.{Parts as PartsOfCode}
use Rattle.packets.specs.declared.receiver.Phase.{Phase}
use Rattle.packets.specs.declared.receiver.Phase.TheVariants.{Idle, Collecting, Awaiting}
use Rattle.packets.specs.declared.receiver.Receiver.{Receiver as ReceiverOfCode}

abbrev pub listed : {n : ℕ} → KeptList ℕ n → Kept ℕ
listed l = kept l

abbrev in_phase : Phase → Receiver
in_phase Idle = idle
in_phase (Collecting k x) = collecting (listed k) x
in_phase (Awaiting k x) = awaiting (listed k) x

abbrev pub receiver : ReceiverOfCode → Receiver
receiver r = in_phase r.phase

abbrev pub packet : PacketOfCode → Packet
packet p = record { listed = listed p.list; right = p.right }

abbrev pub packet_if : Option PacketOfCode → Option Packet
packet_if None = None
packet_if (Some p) = Some (packet p)

abbrev pub parts_if : Option PartsOfCode → Option Parts
parts_if None = None
parts_if (Some a) = Some (record { high = a.address.high; low = a.address.low; body = a.body.now })
