-- A reply that was written is read as what it was written for.
use Rattle.std.proofs.Common.{◌≡◌, ℕ, ◌+◌, ◌-◌, ◌/◌, ◌<◌, true, false, cond, eqb, leb, List, [], ◌∷◌, ◌++◌, length, get_or, take, Some, None, Ok, refl, ap, ◌∙◌, arith, length-append}
use Rattle.std.specs.List.{AllByRecursion}
use Rattle.std.proofs.Math.Seq.{take-append_seam, get_or-append_seam}
use Rattle.std.proofs.lemmas.List.{append_assoc, get_or-append-add}
use Rattle.std.proofs.lemmas.Bool.{eq-eqb, ne_eqb, le-leb, cond-true}
use Rattle.wire.specs.Fields.{read_digit, read_number, read_hex, read_colon, two_hex, one_digit, three_digits, then, past, ended}
use Rattle.wire.specs.Frames.{check_byte, up_to_etx}
use Rattle.wire.proofs.Digits.{digit_back, number_back, hex_back}
use Rattle.wire.specs.Letters.{looked_up}
use Rattle.replies.specs.declared.change.Change.{Change}
use Rattle.replies.specs.Replies.{Contents, keypad_locked, keypad_unlocked, output_locked, output_set, output_unlocked, ethernet_changed, mask_set, flags, version, keypad_state, feeding_input, status, changes, login, logged_in, Reply, ack, nak, contents_bytes, body_of, header_of, frame_of, entry_digits, read_entries, with_entry, changes_if, login_if_short, read_locked, read_x, answers, acked, or_no_contents, read_body, with_address, if_ended, if_long_enough, SmallChange, FitsContents, Fits, ReplyReadsBack}

-- ---- entries

entries_back : (cs : List Change) → AllByRecursion SmallChange cs → read_entries (length cs) (entry_digits cs) ≡ Some cs
entries_back [] a = refl
entries_back (c ∷ cs) a =
    ap (λ r. then r (λ o a. then (read_number a) (λ i b. with_entry o i (read_entries (length cs) b)))) (number_back c.output a.0.0 (three_digits c.input ++ entry_digits cs))
    ∙ ap (λ r. then r (λ i b. with_entry c.output i (read_entries (length cs) b))) (number_back c.input a.0.1 (entry_digits cs))
    ∙ ap (with_entry c.output c.input) (entries_back cs a.1)

-- ---- bodies

number_first : (i : ℕ) → i < 1000 → eqb (48 + i / 100) 83 ≡ false
number_first i h = ne_eqb (48 + i / 100) 83 (λ e. omega arith)

contents_back : (c : Contents) → FitsContents c → looked_up None answers (contents_bytes c) ≡ Some c
contents_back keypad_locked h = refl
contents_back keypad_unlocked h = refl
contents_back output_locked h = refl
contents_back output_set h = refl
contents_back output_unlocked h = refl
contents_back ethernet_changed h = refl
contents_back mask_set h = refl
contents_back (flags true true true) h = refl
contents_back (flags true true false) h = refl
contents_back (flags true false true) h = refl
contents_back (flags true false false) h = refl
contents_back (flags false true true) h = refl
contents_back (flags false true false) h = refl
contents_back (flags false false true) h = refl
contents_back (flags false false false) h = refl
contents_back (version i o) h =
    ap (λ r. then r (λ i a. past (read_x a) (λ b. then (read_number b) (λ o end. ended (version i o) end)))) (number_back i h.0 (88 ∷ three_digits o))
    ∙ ap (λ r. then r (λ o end. ended (version i o) end)) (number_back o h.1 [])
contents_back (keypad_state true) h = refl
contents_back (keypad_state false) h = refl
contents_back (feeding_input i) h = rw (number_first i h) (ap (λ r. then r (λ i end. ended (feeding_input i) end)) (number_back i h []))
contents_back (status i true m) h =
    ap (λ r. then r (λ i a. then (read_locked a) (λ l b. then (read_hex b) (λ m end. ended (status i l m) end)))) (number_back i h.0 (0x4C ∷ two_hex m))
    ∙ ap (λ r. then r (λ m end. ended (status i true m) end)) (hex_back m h.1 [])
contents_back (status i false m) h =
    ap (λ r. then r (λ i a. then (read_locked a) (λ l b. then (read_hex b) (λ m end. ended (status i l m) end)))) (number_back i h.0 (0x55 ∷ two_hex m))
    ∙ ap (λ r. then r (λ m end. ended (status i false m) end)) (hex_back m h.1 [])
contents_back (changes cs) h =
    ap (λ r. then r (λ n es. cond (leb n 8) (changes_if (read_entries n es)) None)) (digit_back (length cs) (omega arith) (entry_digits cs))
    ∙ cond-true _ _ _ (le-leb (length cs) 8 h.0) ∙ ap changes_if (entries_back cs h.1)
contents_back (login u g n) h =
    ap (λ r. then r (λ u a. past (read_colon a) (λ b. then (read_digit b) (λ g c. past (read_colon c) (λ n. login_if_short u g n))))) (digit_back u h.0 (58 ∷ one_digit g ++ 58 ∷ n))
    ∙ ap (λ r. then r (λ g c. past (read_colon c) (λ n. login_if_short u g n))) (digit_back g h.1 (58 ∷ n))
    ∙ cond-true _ _ _ (le-leb (length n) 10 h.2)
contents_back (logged_in u g) h =
    ap (λ r. then r (λ u a. past (read_colon a) (λ b. then (read_digit b) (λ g end. ended (logged_in u g) end)))) (digit_back u h.0 (58 ∷ one_digit g))
    ∙ ap (λ r. then r (λ g end. ended (logged_in u g) end)) (digit_back g h.1 [])

body_back : (r : Reply) → Fits r → read_body (header_of r) (body_of r) ≡ Ok r
body_back (ack c) f = ap (λ a. or_no_contents (acked a)) (contents_back c f)
body_back (nak x) f = refl

-- ---- whole replies

-- the end that was written is ETX and the right check byte
ended_back : (c h l : ℕ) (b : List ℕ) (k : ℕ) → k ≡ check_byte (c ∷ h ∷ l ∷ b ++ 3 ∷ []) → if_long_enough c h l ((b ++ 3 ∷ []) ++ k ∷ []) ≡ with_address h l (read_body c b)
ended_back c h l b k e =
    let xs = b ++ 3 ∷ k ∷ [] in
    let two : length xs ≡ length b + 2 = length-append b (3 ∷ k ∷ []) in
    let at_etx : length xs - 2 ≡ length b = omega (arith, two) in
    let at_check : length xs - 1 ≡ length b + 1 = omega (arith, two) in
    ap (if_long_enough c h l) (append_assoc b (3 ∷ []) (k ∷ []))
    ∙ cond-true _ _ _ (le-leb 2 (length xs) (omega (arith, two)))
    ∙ (λ i. if_ended c h l (take (at_etx i) xs) (get_or xs (at_etx i) 0) (get_or xs (at_check i) 0))
    ∙ (λ i. if_ended c h l (take-append_seam b (3 ∷ k ∷ []) i) (get_or-append_seam b 3 (k ∷ []) 0 i) (get_or-append-add b (3 ∷ k ∷ []) 1 0 i))
    ∙ cond-true _ _ _ (eq-eqb k (check_byte (c ∷ h ∷ l ∷ b ++ 3 ∷ [])) e)

pub reads_back : (h l : ℕ) (r : Reply) → ReplyReadsBack h l r
reads_back h l r f = ended_back (header_of r) h l (body_of r) (check_byte (up_to_etx (frame_of h l r))) refl ∙ ap (with_address h l) (body_back r f)
