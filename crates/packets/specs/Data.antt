-- The data of a command: what each form of it reads from the bytes behind the letters.
--
--   one_number      three digits
--   two_numbers     three digits, and three more
--   mask_data       colon, digit, colon, digit, colon, three digits
--   colon           the byte of a colon
--   before_colon    how many bytes stand before the first colon
--   at_colon        the bytes before the first colon, and those behind it
--   name_and_text   a pair of texts of which the first has 1 to 10 bytes and the second 0 to 10
--   login_data      colon, a name of 1 to 10 bytes, colon, a password of 0 to 10 bytes
use Rattle.std.specs.Prelude.{ℕ, ◌+◌, cond, not, ◌&&◌, List, length, take, drop, Some, None, Option, ◌==◌, nat_le, nat_lt}
use Rattle.std.specs.List.{prefix_len}
use Rattle.wire.specs.Fields.{read_digit, read_number, read_colon, then, past, ended, most_text}

abbrev pub one_number : List ℕ → Option ℕ
one_number xs = then (read_number xs) (λ n end. ended n end)

abbrev pub two_numbers : List ℕ → Option (ℕ × ℕ)
two_numbers xs = then (read_number xs) (λ n more. then (read_number more) (λ m end. ended (n, m) end))

abbrev pub mask_data : List ℕ → Option (ℕ × ℕ × ℕ)
mask_data xs =
    past (read_colon xs) (λ a. then (read_digit a) (λ g b.
    past (read_colon b) (λ c. then (read_digit c) (λ v d.
    past (read_colon d) (λ e. then (read_number e) (λ o end. ended (g, v, o) end))))))

abbrev pub colon : ℕ
colon = 0x3A

abbrev pub before_colon : List ℕ → ℕ
before_colon xs = prefix_len (λ b. not (b == colon)) xs

abbrev pub at_colon : List ℕ → Option (List ℕ × List ℕ)
at_colon xs = cond (nat_lt (before_colon xs) (length xs)) (Some (take (before_colon xs) xs, drop (before_colon xs + 1) xs)) None

abbrev pub name_and_text : Option (List ℕ × List ℕ) → Option (List ℕ × List ℕ)
name_and_text None = None
name_and_text (Some p) = cond (nat_le 1 (length p.0) && (nat_le (length p.0) most_text && nat_le (length p.1) most_text)) (Some (p.0, p.1)) None

abbrev pub login_data : List ℕ → Option (List ℕ × List ℕ)
login_data xs = past (read_colon xs) (λ a. name_and_text (at_colon a))
