-- A reply as bytes: header, two address bytes, body, ETX and check byte.
--
--   Frame                      the header, the address bytes and the body
--   most_body                  the most bytes that a body has
--   fits f bs                  the bytes bs fit behind the body of f
--   with_body f bs             f with bs behind its body
--   added f bs                 f after bs were to be added: with them where they fit, else as it was
--   check_byte bs              the exclusive or of all of bs
--   up_to_etx f                header, address, body and ETX
--   on_line f                  the whole reply: up to ETX, and the check byte of all these
--   written r xs               a buffer that held xs, with r at its front and the bytes beyond r as they were
--   copied r xs                the same where r fits, and xs where it does not
--   WholeReplySumsToZero       the exclusive or of all bytes of a reply, its check byte among them, is 0
use Rattle.std.specs.Prelude.{◌≡◌, ℕ, ◌+◌, Bool, cond, List, [], ◌∷◌, ◌++◌, length, drop, fold, bit_xor, nat_le}

pub record Frame : Type 0 where
  pub header : ℕ
  pub high : ℕ
  pub low : ℕ
  pub body : List ℕ

abbrev pub most_body : ℕ
most_body = 59

abbrev pub fits : Frame → List ℕ → Bool
fits f bs = nat_le (length f.body + length bs) most_body

abbrev pub with_body : Frame → List ℕ → Frame
with_body f bs = record { header = f.header; high = f.high; low = f.low; body = f.body ++ bs }

abbrev pub added : Frame → List ℕ → Frame
added f bs = cond (fits f bs) (with_body f bs) f

abbrev pub check_byte : List ℕ → ℕ
check_byte bs = fold bit_xor 0 bs

abbrev pub up_to_etx : Frame → List ℕ
up_to_etx f = f.header ∷ f.high ∷ f.low ∷ f.body ++ 0x03 ∷ []

abbrev pub on_line : Frame → List ℕ
on_line f = up_to_etx f ++ check_byte (up_to_etx f) ∷ []

abbrev pub written : List ℕ → List ℕ → List ℕ
written r xs = r ++ drop (length r) xs

abbrev pub copied : List ℕ → List ℕ → List ℕ
copied r xs = cond (nat_le (length r) (length xs)) (written r xs) xs

abbrev pub WholeReplySumsToZero : Type 0
WholeReplySumsToZero = (f : Frame) → check_byte (on_line f) ≡ 0
