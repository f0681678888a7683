-- The longest letters decide; a command that can be sent is decoded from its body, and no other body is decoded.
use Rattle.std.proofs.Common.{◌≡◌, ℕ, ◌+◌, ◌/◌, ◌<◌, List, ◌++◌, Some, None, Ok, Err, codes, Option, Result, sym, refl, ap, ◌∙◌, subst, arith}
use Rattle.std.specs.List.{AllByRecursion}
use Rattle.std.proofs.lemmas.List.{append-nil}
use Rattle.std.proofs.lemmas.Bool.{ne_eqb, and_left, cond-false}
use Rattle.wire.specs.Fields.{ended, short_text, three_digits}
use Rattle.packets.specs.declared.packet.PacketFault.{PacketFault}
use Rattle.packets.specs.declared.packet.PacketFault.TheVariants.{Unlisted}
use Rattle.packets.specs.Data.{one_number, two_numbers, mask_data, login_data}
use Rattle.packets.specs.Commands.{Command, ask_flags, ask_version, lock_keypad, show_keypad, unlock_keypad, read_queue, lock_ethernet, ask_login, lock_output, set_output, unlock_output, ask_input, ask_status, unlock_ethernet, set_password, set_mask, log_in, with_data, bare, rows, decode}
use Rattle.packets.specs.Sending.{body_bytes, Password, Sendable, LongestLettersDecide, DecodesWhatIsSent, OnlySentBodiesAreDecoded}
use Rattle.packets.proofs.Tables.{longest_decides, from_row}
use Rattle.packets.proofs.Readers.{one_number_back, two_numbers_back, mask_data_back, login_data_back, short_text_back, one_number_read, two_numbers_read, mask_data_read, login_data_read, short_text_read, ended_read}

pub longest_letters_decide : (b : List ℕ) → LongestLettersDecide b
longest_letters_decide b = longest_decides (Err Unlisted) b rows refl

-- O is looked up behind OS, and a digit is no S
pub decodes_what_is_sent : DecodesWhatIsSent
decodes_what_is_sent ask_flags h = refl
decodes_what_is_sent ask_version h = refl
decodes_what_is_sent lock_keypad h = refl
decodes_what_is_sent show_keypad h = refl
decodes_what_is_sent unlock_keypad h = refl
decodes_what_is_sent read_queue h = refl
decodes_what_is_sent lock_ethernet h = refl
decodes_what_is_sent ask_login h = refl
decodes_what_is_sent (lock_output o i) h = ap (with_data (λ d. lock_output d.0 d.1)) (two_numbers_back o i h.0 h.1)
decodes_what_is_sent (set_output o i) h = ap (with_data (λ d. set_output d.0 d.1)) (two_numbers_back o i h.0 h.1)
decodes_what_is_sent (unlock_output o i) h = ap (with_data (λ d. unlock_output d.0 d.1)) (two_numbers_back o i h.0 h.1)
decodes_what_is_sent (ask_input o) h = cond-false _ _ _ (and_left _ _ (ne_eqb (48 + o / 100) 83 (λ e. omega arith))) ∙ ap (with_data ask_input) (one_number_back o h)
decodes_what_is_sent (ask_status o) h = ap (with_data ask_status) (one_number_back o h)
decodes_what_is_sent (unlock_ethernet w) h = ap (with_data unlock_ethernet) (short_text_back w h)
decodes_what_is_sent (set_password w) h = ap (with_data set_password) (short_text_back w h)
decodes_what_is_sent (set_mask g v o) h = ap (with_data (λ d. set_mask d.0 d.1 d.2)) (mask_data_back g v o h.0 h.1 h.2)
decodes_what_is_sent (log_in n w) h = ap (with_data (λ d. log_in d.0 d.1)) (login_data_back n w h.0 h.1)

-- the body b is that of the command c
abbrev Sent : List ℕ → Command → Type 0
Sent b c = Sendable c × (b ≡ body_bytes c)

-- a row with data, by what its data were read from
of_data : {D : Type 0} (ls : List ℕ) (f : D → Command) (read : List ℕ → Option D) → ((ys : List ℕ) (d : D) → read ys ≡ Some d → Sent (ls ++ ys) (f d)) → (c : Command) (ys : List ℕ) → with_data f (read ys) ≡ Ok c → Sent (ls ++ ys) c
of_data {D} ls f read sent c ys = by_data (read ys) refl
  where
    by_data : (o : Option D) → read ys ≡ o → with_data f o ≡ Ok c → Sent (ls ++ ys) c
    by_data None r e = cc
    by_data (Some d) r e = let same : f d ≡ c = cc in subst (Sent (ls ++ ys)) same (sent ys d r)

-- a row without data
of_none : (ls : List ℕ) (k : Command) → Sendable k → ls ≡ body_bytes k → (c : Command) (ys : List ℕ) → bare k ys ≡ Ok c → Sent (ls ++ ys) c
of_none ls k s e =
    of_data ls (λ x. x) (ended k) (λ ys d r. let p = ended_read k d ys r in subst (Sent (ls ++ ys)) p.0 (s, ap (λ (l : List ℕ). ls ++ l) p.1 ∙ append-nil ls ∙ e))

of_two_numbers : (ls : List ℕ) (f : ℕ → ℕ → Command) → ((o i : ℕ) → o < 1000 → i < 1000 → Sent (ls ++ (three_digits o ++ three_digits i)) (f o i)) → (c : Command) (ys : List ℕ) → with_data (λ d. f d.0 d.1) (two_numbers ys) ≡ Ok c → Sent (ls ++ ys) c
of_two_numbers ls f sent =
    of_data ls (λ d. f d.0 d.1) two_numbers (λ ys d e. let r = two_numbers_read ys d e in subst (λ (l : List ℕ). Sent (ls ++ l) (f d.0 d.1)) (sym r.1) (sent d.0 d.1 r.0.0 r.0.1))

of_number : (ls : List ℕ) (f : ℕ → Command) → ((o : ℕ) → o < 1000 → Sent (ls ++ three_digits o) (f o)) → (c : Command) (ys : List ℕ) → with_data f (one_number ys) ≡ Ok c → Sent (ls ++ ys) c
of_number ls f sent = of_data ls f one_number (λ ys d e. let r = one_number_read ys d e in subst (λ (l : List ℕ). Sent (ls ++ l) (f d)) (sym r.1) (sent d r.0))

of_text : (ls : List ℕ) (f : List ℕ → Command) → ((w : List ℕ) → Password w → Sent (ls ++ w) (f w)) → (c : Command) (ys : List ℕ) → with_data f (short_text ys) ≡ Ok c → Sent (ls ++ ys) c
of_text ls f sent = of_data ls f short_text (λ ys d e. let r = short_text_read ys d e in subst (λ (l : List ℕ). Sent (ls ++ l) (f d)) (sym r.1) (sent d r.0))

of_mask : (c : Command) (ys : List ℕ) → with_data (λ d. set_mask d.0 d.1 d.2) (mask_data ys) ≡ Ok c → Sent (codes "ZA" ++ ys) c
of_mask = of_data (codes "ZA") (λ d. set_mask d.0 d.1 d.2) mask_data (λ ys d e. let r = mask_data_read ys d e in (r.0, ap (λ (l : List ℕ). codes "ZA" ++ l) r.1))

of_login : (c : Command) (ys : List ℕ) → with_data (λ d. log_in d.0 d.1) (login_data ys) ≡ Ok c → Sent (codes "ZI" ++ ys) c
of_login = of_data (codes "ZI") (λ d. log_in d.0 d.1) login_data (λ ys d e. let r = login_data_read ys d e in (r.0, ap (λ (l : List ℕ). codes "ZI" ++ l) r.1))

-- the proofs for the rows, one behind the other
infixr 20 ◌also◌
◌also◌ : {P Q : Type 0} → P → Q → P × Q
p also q = (p, q)

each_row : (c : Command) → AllByRecursion (λ r. (ys : List ℕ) → r.says ys ≡ Ok c → Sent (r.letters ++ ys) c) rows
each_row c =
    of_text (codes "ELD") unlock_ethernet (λ w h. (h, refl)) c
    also of_none (codes "ELE") lock_ethernet tt refl c
    also of_text (codes "ELP") set_password (λ w h. (h, refl)) c
    also of_none (codes "KL") lock_keypad tt refl c
    also of_none (codes "KS") show_keypad tt refl c
    also of_none (codes "KU") unlock_keypad tt refl c
    also of_number (codes "OS") ask_status (λ o h. (h, refl)) c
    also of_mask c
    also of_none (codes "ZC") ask_login tt refl c
    also of_login c
    also of_none (codes "C") ask_flags tt refl c
    also of_none (codes "F") ask_version tt refl c
    also of_two_numbers (codes "L") lock_output (λ o i h k. ((h, k), refl)) c
    also of_number (codes "O") ask_input (λ o h. (h, refl)) c
    also of_none (codes "Q") read_queue tt refl c
    also of_two_numbers (codes "S") set_output (λ o i h k. ((h, k), refl)) c
    also of_two_numbers (codes "U") unlock_output (λ o i h k. ((h, k), refl)) c
    also tt

pub only_sent_bodies_are_decoded : OnlySentBodiesAreDecoded
only_sent_bodies_are_decoded b c e = from_row (λ xs. Sent xs c) (Err Unlisted) (Ok c) (λ e. cc) rows (each_row c) b e

-- what is ensured of an outcome that is the one of the table
pub with_laws : (r : Result Command PacketFault) (b : List ℕ) → r ≡ decode b → record { answer : r ≡ decode b; longest : LongestLettersDecide b; sent : DecodesWhatIsSent; only : OnlySentBodiesAreDecoded }
with_laws r b e = record { answer = e; longest = longest_letters_decide b; sent = decodes_what_is_sent; only = only_sent_bodies_are_decoded }
