-- STX, plain bytes, ETX and a check byte come out of a listening receiver as one packet; nothing comes without STX, and only plain bytes
-- are ever listed.
use Rattle.std.proofs.Common.{◌≡◌, ℕ, Bool, true, false, cond, eqb, ltb, List, [], ◌∷◌, ◌++◌, length, Some, None, fold, Option, refl, ap, ◌∙◌}
use Rattle.std.specs.List.{AllByRecursion}
use Rattle.std.proofs.lemmas.List.Elements.{All-push, All-from_recursion, recursion_from_All}
use Rattle.std.proofs.lemmas.List.{append_assoc}
use Rattle.std.proofs.lemmas.Bool.{ne_eqb, eqb-false, cond_both}
use Rattle.wire.specs.Kept.{Kept, put, put_all, empty, firsts}
use Rattle.wire.specs.Frames.{check_byte}
use Rattle.wire.proofs.Keeping.{keeps_the_first}
use Rattle.packets.specs.Receiver.{stx, etx, Receiver, idle, collecting, awaiting, Packet, hear, most_listed}
use Rattle.packets.specs.Runs.{Run, with_packet, run, Plain, framed, PacketsAreFramed, CheckByteComesFirst, NoPacketWithoutSTX, ListedBytesArePlain}
use lib.Bits.{bit_xor}

-- the run that ends with the packet of the list l and the exclusive or x, where b is the check byte
abbrev one_packet : Kept ℕ → ℕ → ℕ → Run
one_packet l x b = record { next = idle; packets = record { listed = l; right = eqb b x } ∷ [] }

collects : (xs : List ℕ) (l : Kept ℕ) (x b : ℕ) → AllByRecursion Plain xs → run (collecting l x) (xs ++ etx ∷ b ∷ []) ≡ one_packet (put_all most_listed l xs) (fold bit_xor x (xs ++ etx ∷ [])) b
collects [] l x b p = refl
collects (y ∷ ys) l x b p = rw (ne_eqb y stx p.0.0, ne_eqb y etx p.0.1) (collects ys (put most_listed l y) (bit_xor x y) b p.1)

started : (xs : List ℕ) (b : ℕ) → AllByRecursion Plain xs → run (collecting empty stx) ((xs ++ etx ∷ []) ++ b ∷ []) ≡ one_packet (firsts most_listed xs) (check_byte (framed xs)) b
started xs b p =
    ap (run (collecting empty stx)) (append_assoc xs (etx ∷ []) (b ∷ []))
    ∙ collects xs empty stx b p
    ∙ ap (λ (l : Kept ℕ). one_packet l (check_byte (framed xs)) b) (keeps_the_first ℕ most_listed xs)

pub packets_are_framed : PacketsAreFramed
packets_are_framed idle xs b q p = started xs b p
packets_are_framed (collecting k x) xs b q p = started xs b p
packets_are_framed (awaiting k x) xs b q p = absurd q

pub check_byte_comes_first : CheckByteComesFirst
check_byte_comes_first k x b bs = refl

pub no_packet_without_stx : NoPacketWithoutSTX
no_packet_without_stx [] a = refl
no_packet_without_stx (b ∷ bs) a = rw (ne_eqb b stx a.0) (no_packet_without_stx bs a.1)

-- a receiver has listed plain bytes only
abbrev PlainSoFar : Receiver → Type 0
PlainSoFar idle = Unit {0}
PlainSoFar (collecting k x) = AllByRecursion Plain k.items
PlainSoFar (awaiting k x) = AllByRecursion Plain k.items

abbrev PacketIfPlain : Option Packet → Type 0
PacketIfPlain None = Unit {0}
PacketIfPlain (Some p) = AllByRecursion Plain p.listed.items

put_plain : (k : Kept ℕ) (b : ℕ) → Plain b → AllByRecursion Plain k.items → AllByRecursion Plain (put most_listed k b).items
put_plain k b p a = cond_both (ltb (length k.items) most_listed) _ _ (λ (l : Kept ℕ). AllByRecursion Plain l.items) (λ e. recursion_from_All Plain _ (All-push Plain k.items b (All-from_recursion Plain k.items a) p)) (λ e. a)

hear_plain : (r : Receiver) (b : ℕ) → PlainSoFar r → PlainSoFar (hear r b).next
hear_plain idle b a = elim (eqb b stx) as (λ w. PlainSoFar (cond w (collecting empty stx) idle)) [ true ↦ tt | false ↦ tt ]
hear_plain (collecting k x) b a = by_stx (eqb b stx) refl (eqb b etx) refl
  where
    by_stx : (v : Bool) → eqb b stx ≡ v → (w : Bool) → eqb b etx ≡ w → PlainSoFar (cond v (collecting empty stx) (cond w (awaiting k (bit_xor x b)) (collecting (put most_listed k b) (bit_xor x b))))
    by_stx true e w f = tt
    by_stx false e true f = a
    by_stx false e false f = put_plain k b (eqb-false b stx e, eqb-false b etx f) a
hear_plain (awaiting k x) b a = tt

came_plain : (r : Receiver) (b : ℕ) → PlainSoFar r → PacketIfPlain (hear r b).packet
came_plain idle b a = tt
came_plain (collecting k x) b a = tt
came_plain (awaiting k x) b a = a

with_plain : (o : Option Packet) (r : Run) → PacketIfPlain o → AllByRecursion (λ p. AllByRecursion Plain p.listed.items) r.packets → AllByRecursion (λ p. AllByRecursion Plain p.listed.items) (with_packet o r).packets
with_plain None r p a = a
with_plain (Some k) r p a = (p, a)

run_plain : (bs : List ℕ) (r : Receiver) → PlainSoFar r → AllByRecursion (λ p. AllByRecursion Plain p.listed.items) (run r bs).packets
run_plain [] r a = tt
run_plain (b ∷ bs) r a = with_plain (hear r b).packet (run (hear r b).next bs) (came_plain r b a) (run_plain bs (hear r b).next (hear_plain r b a))

pub listed_bytes_are_plain : ListedBytesArePlain
listed_bytes_are_plain bs = run_plain bs idle tt
