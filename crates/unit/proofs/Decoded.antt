-- The password of an ELP that was read has at most ten bytes.
use Rattle.std.proofs.Common.{◌≡◌, ℕ, Bool, true, false, cond, eqb, leb, List, [], ◌∷◌, length, drop, Some, None, Ok, Err, Option, Result, refl, rules}
use Rattle.std.specs.List.{AllByRecursion}
use Rattle.wire.specs.Letters.{begins, Row, looked_up}
use Rattle.packets.specs.declared.packet.PacketFault.{PacketFault}
use Rattle.packets.specs.declared.packet.PacketFault.TheVariants.{Unlisted, WrongCheckByte, ListOverrun}
use Rattle.packets.specs.Receiver.{Packet}
use Rattle.packets.specs.Commands.{Command, set_password, with_data, bare, rows, decode, command_in}
use Rattle.unit.specs.Answering.{fits_outcome}

-- a command that was made of any data
any_data : {D : Type 0} (f : D → Command) (o : Option D) → ((d : D) → fits_outcome (Ok (f d)) ≡ true) → fits_outcome (with_data f o) ≡ true
any_data f None h = refl
any_data f (Some d) h = h d

-- a command without data
no_data : (c : Command) (xs : List ℕ) → fits_outcome (Ok c) ≡ true → fits_outcome (bare c xs) ≡ true
no_data c xs h = by_end (eqb (length xs) 0)
  where
    by_end : (b : Bool) → fits_outcome (with_data (λ x. x) (cond b (Some c) None)) ≡ true
    by_end true = h
    by_end false = refl

-- a password that is short enough
short : (xs : List ℕ) (b : Bool) → leb (length xs) 10 ≡ b → fits_outcome (with_data set_password (cond b (Some xs) None)) ≡ true
short xs true e = e
short xs false e = refl

-- what every row of a table says, the table says
from_rows : (rs : List (Row (Result Command PacketFault))) (xs : List ℕ) → AllByRecursion (λ r. (ys : List ℕ) → fits_outcome (r.says ys) ≡ true) rs → fits_outcome (looked_up (Err Unlisted) rs xs) ≡ true
from_rows [] xs a = refl
from_rows (r ∷ rs) xs a = either (begins r.letters xs) (r.says (drop (length r.letters) xs)) (looked_up (Err Unlisted) rs xs) (a.0 (drop (length r.letters) xs)) (from_rows rs xs a.1)
  where
    either : (b : Bool) (x y : Result Command PacketFault) → fits_outcome x ≡ true → fits_outcome y ≡ true → fits_outcome (cond b x y) ≡ true
    either true x y p q = p
    either false x y p q = q

decoded_fits : (xs : List ℕ) → fits_outcome (decode xs) ≡ true
decoded_fits xs = from_rows rows xs (search (rules, any_data, no_data, short) depth 60)

pub command_fits : (k : Packet) (body : List ℕ) → fits_outcome (command_in k body) ≡ true
command_fits k body = by_tests k.right k.listed.overrun
  where
    by_tests : (r v : Bool) → fits_outcome (cond r (cond v (Err ListOverrun) (decode body)) (Err WrongCheckByte)) ≡ true
    by_tests false v = refl
    by_tests true true = refl
    by_tests true false = decoded_fits body
