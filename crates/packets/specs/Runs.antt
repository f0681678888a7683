-- What a line receiver makes of many bytes.
--
--   Run                  the receiver after some bytes, and the packets that came, in order
--   with_packet          a run that a packet, if there is one, comes before
--   run r bs             the bytes bs at the receiver r
--   Plain b              b is neither STX nor ETX
--   Listens r            r is idle or collecting
--   framed xs            the bytes xs between STX and ETX
--   PacketsAreFramed     where a receiver listens, STX, plain bytes, ETX and a check byte are exactly one packet: the first 29 of the
--                        plain bytes, the mark exactly if there were more, and whether the check byte is the exclusive or of all from
--                        STX to ETX
--   CheckByteComesFirst      a receiver that awaits a check byte takes whatever comes for it
--   NoPacketWithoutSTX       bytes without STX leave an idle receiver idle, and no packet comes
--   ListedBytesArePlain      every packet that comes from an idle receiver lists plain bytes only
use Rattle.std.specs.Prelude.{◌≡◌, ℕ, List, [], ◌∷◌, ◌++◌, Some, None, Option, ◌==◌, ◌≢◌}
use Rattle.std.specs.List.{AllByRecursion}
use Rattle.wire.specs.Kept.{Kept, firsts}
use Rattle.wire.specs.Frames.{check_byte}
use Rattle.packets.specs.Receiver.{stx, etx, Receiver, idle, collecting, awaiting, Packet, hear, most_listed}

pub record Run : Type 0 where
  pub next : Receiver
  pub packets : List Packet

abbrev pub with_packet : Option Packet → Run → Run
with_packet None r = r
with_packet (Some p) r = record { next = r.next; packets = p ∷ r.packets }

abbrev pub run : Receiver → List ℕ → Run
run r [] = record { next = r; packets = [] }
run r (b ∷ bs) = with_packet (hear r b).packet (run (hear r b).next bs)

abbrev pub Plain : ℕ → Type 0
Plain b = (b ≢ stx) × (b ≢ etx)

abbrev pub Listens : Receiver → Type 0
Listens idle = Unit {0}
Listens (collecting k x) = Unit {0}
Listens (awaiting k x) = ⊥

abbrev pub framed : List ℕ → List ℕ
framed xs = stx ∷ xs ++ etx ∷ []

abbrev pub PacketsAreFramed : Type 0
PacketsAreFramed =
    (r : Receiver) (xs : List ℕ) (b : ℕ) → Listens r → AllByRecursion Plain xs
    → run r (framed xs ++ b ∷ []) ≡ record { next = idle; packets = record { listed = firsts most_listed xs; right = (b == check_byte (framed xs)) } ∷ [] }

abbrev pub CheckByteComesFirst : Type 0
CheckByteComesFirst =
    (k : Kept ℕ) (x b : ℕ) (bs : List ℕ) → run (awaiting k x) (b ∷ bs) ≡ with_packet (Some (record { listed = k; right = (b == x) })) (run idle bs)

abbrev pub NoPacketWithoutSTX : Type 0
NoPacketWithoutSTX = (bs : List ℕ) → AllByRecursion (λ b. b ≢ stx) bs → run idle bs ≡ record { next = idle; packets = [] }

abbrev pub ListedBytesArePlain : Type 0
ListedBytesArePlain = (bs : List ℕ) → AllByRecursion (λ p. AllByRecursion Plain p.listed.items) (run idle bs).packets
