-- Fields of packets and replies: how each is read from the front of some bytes, and how each is written.
--
--   is_digit b       b is a decimal digit
--   Field V          a value that was read, with the bytes behind it; or nothing
--   read_digit       one decimal digit
--   read_number      three decimal digits
--   hex_value        the value of a hexadecimal digit in capitals
--   hex_pair         the number of two such values
--   read_hex         two hexadecimal digits in capitals
--   read_mark m xs   the byte m at the front of xs: the bytes behind it
--   read_colon       a colon
--   then, past       reads on behind a field; behind a mark
--   ended v xs       v, where no byte is left
--   most_text        how many bytes a name or a password has at the most
--   short_text       all of some bytes, where they are not more
--   same_bytes       two lists are the same bytes
--   one_digit        a number below 10 as a decimal digit
--   three_digits     a number below 1000 as three decimal digits
--   hex_digit        a number below 16 as a hexadecimal digit in capitals
--   two_hex          a number below 256 as two hexadecimal digits in capitals
--   if_below m n v   v, if n is below m
--   field, behind    what a reader of the code returned, with what its slices hold
--   DigitReadsBack, NumberReadsBack, HexReadsBack         what was written is read as the number that it was written for
use Rattle.std.specs.Prelude.{◌≡◌, ℕ, ◌+◌, ◌-◌, ◌*◌, ◌/◌, ◌%◌, ◌<◌, Bool, cond, ◌&&◌, List, [], ◌∷◌, ◌++◌, length, Some, None, Option, ◌==◌, nat_le, nat_lt}
use Rattle.std.specs.Borrow.{Bor}
use Rattle.std.specs.Str.{bytes_eq}

abbrev pub is_digit : ℕ → Bool
is_digit b = nat_le 48 b && nat_le b 57

abbrev pub Field : Type 0 → Type 0
Field V = Option (V × List ℕ)

-- ---- read

abbrev pub read_digit : List ℕ → Field ℕ
read_digit [] = None
read_digit (a ∷ rest) = cond (is_digit a) (Some (a - 48, rest)) None

abbrev pub read_number : List ℕ → Field ℕ
read_number [] = None
read_number (a ∷ []) = None
read_number (a ∷ b ∷ []) = None
read_number (a ∷ b ∷ c ∷ rest) = cond (is_digit a && (is_digit b && is_digit c)) (Some ((a - 48) * 100 + (b - 48) * 10 + (c - 48), rest)) None

abbrev pub hex_value : ℕ → Option ℕ
hex_value b = cond (is_digit b) (Some (b - 48)) (cond (nat_le 65 b && nat_le b 70) (Some (b - 55)) None)

abbrev pub hex_pair : Option ℕ → Option ℕ → List ℕ → Field ℕ
hex_pair None l rest = None
hex_pair (Some h) None rest = None
hex_pair (Some h) (Some l) rest = Some (h * 16 + l, rest)

abbrev pub read_hex : List ℕ → Field ℕ
read_hex [] = None
read_hex (a ∷ []) = None
read_hex (a ∷ b ∷ rest) = hex_pair (hex_value a) (hex_value b) rest

abbrev pub read_mark : ℕ → List ℕ → Option (List ℕ)
read_mark m [] = None
read_mark m (a ∷ rest) = cond (a == m) (Some rest) None

abbrev pub read_colon : List ℕ → Option (List ℕ)
read_colon = read_mark 58

abbrev pub then : {V W : Type 0} → Field V → (V → List ℕ → Option W) → Option W
then None f = None
then (Some p) f = f p.0 p.1

abbrev pub past : {W : Type 0} → Option (List ℕ) → (List ℕ → Option W) → Option W
past None f = None
past (Some xs) f = f xs

abbrev pub ended : {V : Type 0} → V → List ℕ → Option V
ended v xs = cond (length xs == 0) (Some v) None

abbrev pub most_text : ℕ
most_text = 10

abbrev pub short_text : List ℕ → Option (List ℕ)
short_text xs = cond (nat_le (length xs) most_text) (Some xs) None

abbrev pub same_bytes : List ℕ → List ℕ → Bool
same_bytes a b = bytes_eq a b

-- ---- written

abbrev pub one_digit : ℕ → List ℕ
one_digit n = (48 + n) ∷ []

abbrev pub three_digits : ℕ → List ℕ
three_digits n = (48 + n / 100) ∷ (48 + n / 10 % 10) ∷ (48 + n % 10) ∷ []

abbrev pub hex_digit : ℕ → ℕ
hex_digit n = cond (nat_lt n 10) (48 + n) (55 + n)

abbrev pub two_hex : ℕ → List ℕ
two_hex n = hex_digit (n / 16) ∷ hex_digit (n % 16) ∷ []

abbrev pub if_below : {V : Type 0} → ℕ → ℕ → V → Option V
if_below m n v = cond (nat_lt n m) (Some v) None

-- ---- the code's answers

abbrev pub field : {V : Type 0} → Option (V × Bor (List ℕ)) → Field V
field None = None
field (Some p) = Some (p.0, p.1.now)

abbrev pub behind : Option (Bor (List ℕ)) → Option (List ℕ)
behind None = None
behind (Some r) = Some r.now

-- ---- the laws

abbrev pub DigitReadsBack : ℕ → Type 0
DigitReadsBack n = n < 10 → (rest : List ℕ) → read_digit (one_digit n ++ rest) ≡ Some (n, rest)

abbrev pub NumberReadsBack : ℕ → Type 0
NumberReadsBack n = n < 1000 → (rest : List ℕ) → read_number (three_digits n ++ rest) ≡ Some (n, rest)

abbrev pub HexReadsBack : ℕ → Type 0
HexReadsBack n = n < 256 → (rest : List ℕ) → read_hex (two_hex n ++ rest) ≡ Some (n, rest)
