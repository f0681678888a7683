-- The bytes of headers, the numbers of refusals, and what the methods of drafts and sealed replies answer.
--
--   header_byte        the byte of a header: ACK is 06, NAK is 15
--   header_of_byte b   the header whose byte is b, or a refusal that says b
--   fault_number       the number of a draft's refusal
--   add_answer f bs    what is answered where bs are to be added to the frame f
--   copy_answer r xs   what is answered where the bytes r are to be copied into a buffer that holds xs: their length, or a refusal
use Rattle.std.specs.Prelude.{ℕ, cond, List, length, Ok, Err, Result, ◌==◌, nat_le}
use Rattle.wire.specs.Frames.{Frame, fits}
use Rattle.wire.specs.declared.reply.Header.{Header}
use Rattle.wire.specs.declared.reply.Header.TheVariants.{Ack, Nak}
use Rattle.wire.specs.declared.reply.UnknownHeader.{UnknownHeader}
use Rattle.wire.specs.declared.reply.DraftFault.{DraftFault}
use Rattle.wire.specs.declared.reply.DraftFault.TheVariants.{BodyFull}
use Rattle.wire.specs.declared.reply.CopyFault.{CopyFault}
use Rattle.wire.specs.declared.reply.CopyFault.TheVariants.{ShortBuffer}

abbrev pub header_byte : Header → ℕ
header_byte Ack = 0x06
header_byte Nak = 0x15

abbrev pub header_of_byte : ℕ → Result Header UnknownHeader
header_of_byte b = cond (b == header_byte Ack) (Ok Ack) (cond (b == header_byte Nak) (Ok Nak) (Err (record { byte = b })))

abbrev pub fault_number : DraftFault → ℕ
fault_number BodyFull = 9

abbrev pub add_answer : Frame → List ℕ → Result (Unit {0}) DraftFault
add_answer f bs = cond (fits f bs) (Ok tt) (Err BodyFull)

abbrev pub copy_answer : List ℕ → List ℕ → Result ℕ CopyFault
copy_answer r xs = cond (nat_le (length r) (length xs)) (Ok (length r)) (Err ShortBuffer)
