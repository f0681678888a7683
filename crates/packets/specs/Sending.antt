-- The body of each command as it is sent, and what is decoded of a body.
--
--   body_bytes c                   the body of the command c: its letters and its data
--   Name n                         n is a name: 1 to 10 bytes, none of them a colon
--   Password w                     w is a password: 0 to 10 bytes
--   Sendable c                     the fields of c can be sent: numbers below 1000, a group and a bit below 10, names and passwords
--   LongestLettersDecide b         of the rows with whose letters b begins, the one with the most letters says what b is
--   DecodesWhatIsSent              the body of a command that can be sent is decoded as that command
--   OnlySentBodiesAreDecoded       a body that is decoded as a command is the body of that command, which can be sent
use Rattle.std.specs.Prelude.{◌≡◌, ℕ, ◌<◌, ◌≤◌, true, List, ◌∷◌, ◌++◌, length, drop, Ok, codes, Result, ◌≢◌}
use Rattle.std.specs.List.{ContainsAt as Has, AllByRecursion}
use Rattle.wire.specs.Fields.{one_digit, three_digits, most_text}
use Rattle.wire.specs.Letters.{Row, begins}
use Rattle.packets.specs.declared.packet.PacketFault.{PacketFault}
use Rattle.packets.specs.Data.{colon}
use Rattle.packets.specs.Commands.{Command, ask_flags, ask_version, lock_keypad, show_keypad, unlock_keypad, read_queue, lock_ethernet, ask_login, lock_output, set_output, unlock_output, ask_input, ask_status, unlock_ethernet, set_password, set_mask, log_in, rows, decode}

abbrev pub body_bytes : Command → List ℕ
body_bytes ask_flags = codes "C"
body_bytes ask_version = codes "F"
body_bytes lock_keypad = codes "KL"
body_bytes show_keypad = codes "KS"
body_bytes unlock_keypad = codes "KU"
body_bytes read_queue = codes "Q"
body_bytes lock_ethernet = codes "ELE"
body_bytes ask_login = codes "ZC"
body_bytes (lock_output o i) = codes "L" ++ (three_digits o ++ three_digits i)
body_bytes (set_output o i) = codes "S" ++ (three_digits o ++ three_digits i)
body_bytes (unlock_output o i) = codes "U" ++ (three_digits o ++ three_digits i)
body_bytes (ask_input o) = codes "O" ++ three_digits o
body_bytes (ask_status o) = codes "OS" ++ three_digits o
body_bytes (unlock_ethernet w) = codes "ELD" ++ w
body_bytes (set_password w) = codes "ELP" ++ w
body_bytes (set_mask g v o) = codes "ZA" ++ (colon ∷ (one_digit g ++ (colon ∷ (one_digit v ++ (colon ∷ three_digits o)))))
body_bytes (log_in n w) = codes "ZI" ++ (colon ∷ (n ++ (colon ∷ w)))

abbrev pub Name : List ℕ → Type 0
Name n = (1 ≤ length n) × (length n ≤ most_text) × AllByRecursion (λ b. b ≢ colon) n

abbrev pub Password : List ℕ → Type 0
Password w = length w ≤ most_text

abbrev pub Sendable : Command → Type 0
Sendable ask_flags = Unit {0}
Sendable ask_version = Unit {0}
Sendable lock_keypad = Unit {0}
Sendable show_keypad = Unit {0}
Sendable unlock_keypad = Unit {0}
Sendable read_queue = Unit {0}
Sendable lock_ethernet = Unit {0}
Sendable ask_login = Unit {0}
Sendable (lock_output o i) = (o < 1000) × (i < 1000)
Sendable (set_output o i) = (o < 1000) × (i < 1000)
Sendable (unlock_output o i) = (o < 1000) × (i < 1000)
Sendable (ask_input o) = o < 1000
Sendable (ask_status o) = o < 1000
Sendable (unlock_ethernet w) = Password w
Sendable (set_password w) = Password w
Sendable (set_mask g v o) = (g < 10) × (v < 10) × (o < 1000)
Sendable (log_in n w) = Name n × Password w

abbrev pub LongestLettersDecide : List ℕ → Type 0
LongestLettersDecide b =
    (r : Row (Result Command PacketFault)) → Has rows r → begins r.letters b ≡ true
    → ((other : Row (Result Command PacketFault)) → Has rows other → begins other.letters b ≡ true → length other.letters ≤ length r.letters)
    → decode b ≡ r.says (drop (length r.letters) b)

abbrev pub DecodesWhatIsSent : Type 0
DecodesWhatIsSent = (c : Command) → Sendable c → decode (body_bytes c) ≡ Ok c

abbrev pub OnlySentBodiesAreDecoded : Type 0
OnlySentBodiesAreDecoded = (b : List ℕ) (c : Command) → decode b ≡ Ok c → Sendable c × (b ≡ body_bytes c)
