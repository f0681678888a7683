-- Bytes that are read as a reply are what is written for that reply.
use Rattle.std.proofs.Common.{◌≡◌, ℕ, zero, suc, ◌+◌, ◌-◌, ◌<◌, ◌≤◌, Bool, true, false, cond, eqb, leb, List, [], ◌∷◌, ◌++◌, length, get_or, take, Some, None, Ok, Err, codes, Option, Result, sym, refl, ap, ◌∙◌, subst, arith}
use Rattle.std.specs.List.{AllByRecursion}
use Rattle.std.proofs.lemmas.List.{take_more, take_all}
use Rattle.std.proofs.lemmas.Bool.{eqb-true, leb-true}
use Rattle.std.proofs.lemmas.Option.{none-some, cond_some}
use Rattle.wire.specs.Fields.{one_digit, three_digits, two_hex, read_digit, read_number, read_hex, read_colon, then, past, ended}
use Rattle.wire.specs.Frames.{check_byte, on_line}
use Rattle.wire.specs.Letters.{looked_up}
use Rattle.replies.specs.declared.change.Change.{Change}
use Rattle.replies.specs.declared.reply.ReadFault.{ReadFault}
use Rattle.replies.specs.declared.reply.ReadFault.TheVariants.{NoHeader, NoEtx, WrongCheckByte, TooShort}
use Rattle.replies.specs.Replies.{Contents, keypad_locked, keypad_unlocked, output_locked, output_set, output_unlocked, ethernet_changed, mask_set, flags, version, keypad_state, feeding_input, status, changes, login, logged_in, Reply, ack, nak, flag_byte, locked_letter, model_text, entry_digits, contents_bytes, header_of, body_of, reply_bytes, bit, read_locked, read_x, read_model, read_flags, with_entry, read_entries, changes_if, read_changes, read_keypad, read_input, read_status, read_version, login_if_short, read_login, read_logged_in, answers, acked, read_letter, or_no_contents, read_body, Received, with_address, if_ended, SmallChange, FitsContents, Fits, OnlyWrittenRepliesAreRead}
use Rattle.replies.proofs.FieldsRead.{digit_read, number_read, hex_read, colon_read, x_read, locked_read, model_read, end_read, row_read}

-- ---- entries

abbrev EntriesAre : ℕ → List Change → List ℕ → Type 0
EntriesAre n cs xs = (n ≡ length cs) × AllByRecursion SmallChange cs × (xs ≡ entry_digits cs)

with_entry_read : (n o i : ℕ) (cs : List Change) (b : List ℕ) (r : Option (List Change)) → o < 1000 → i < 1000 → ((ds : List Change) → r ≡ Some ds → EntriesAre n ds b) → with_entry o i r ≡ Some cs → EntriesAre (suc n) cs (three_digits o ++ three_digits i ++ b)
with_entry_read n o i cs b None p q f e = absurd (none-some cs e)
with_entry_read n o i cs b (Some ds) p q f e =
    let same : record { output = o; input = i } ∷ ds ≡ cs = cc in
    let rest = f ds refl in
    subst (λ (l : List Change). EntriesAre (suc n) l (three_digits o ++ three_digits i ++ b)) same
    (ap suc rest.0, ((p, q), rest.1), ap (λ (l : List ℕ). three_digits o ++ three_digits i ++ l) rest.2)

entries_read : (n : ℕ) (xs : List ℕ) (cs : List Change) → read_entries n xs ≡ Some cs → EntriesAre n cs xs
entries_read zero xs cs e = end_read (λ (l : List Change) (b : List ℕ). EntriesAre zero l b) [] cs xs e (refl, tt, refl)
entries_read (suc n) xs cs e =
    number_read cs (EntriesAre (suc n) cs) xs (λ o a. then (read_number a) (λ i b. with_entry o i (read_entries n b))) e (λ o a p k.
    number_read cs (λ l. EntriesAre (suc n) cs (three_digits o ++ l)) a (λ i b. with_entry o i (read_entries n b)) k (λ i b q m.
    with_entry_read n o i cs b (read_entries n b) p q (λ ds. entries_read n b ds) m))

-- ---- bodies

-- the bytes xs are the body that is written for c
abbrev Spells : Contents → List ℕ → Type 0
Spells c xs = FitsContents c × (xs ≡ contents_bytes c)

flags_read : (c : Contents) (xs : List ℕ) → read_flags xs ≡ Some c → Spells c (codes "C" ++ xs)
flags_read c [] e = absurd (none-some c e)
flags_read c (b ∷ rest) e = by (eqb b (flag_byte (bit b 1) (bit b 4) (bit b 8))) refl e
  where
    by : (t : Bool) → eqb b (flag_byte (bit b 1) (bit b 4) (bit b 8)) ≡ t → cond t (ended (flags (bit b 1) (bit b 4) (bit b 8)) rest) None ≡ Some c → Spells c (codes "C" ++ b ∷ rest)
    by true p e = end_read (λ (d : Contents) (l : List ℕ). Spells d (codes "C" ++ b ∷ l)) (flags (bit b 1) (bit b 4) (bit b 8)) c rest e (tt, ap (λ (x : ℕ). codes "C" ++ x ∷ []) (eqb-true b _ p))
    by false p e = absurd (none-some c e)

keypad_read : (c : Contents) (xs : List ℕ) → read_keypad xs ≡ Some c → Spells c (codes "KS" ++ xs)
keypad_read c xs e =
    locked_read c (λ a. Spells c (codes "KS" ++ a)) xs (λ l end. ended (keypad_state l) end) e (λ l end k.
    end_read (λ (d : Contents) (a : List ℕ). Spells d (codes "KS" ++ locked_letter l ∷ a)) (keypad_state l) c end k (tt, refl))

input_read : (c : Contents) (xs : List ℕ) → read_input xs ≡ Some c → Spells c (codes "O" ++ xs)
input_read c xs e =
    number_read c (λ a. Spells c (codes "O" ++ a)) xs (λ i end. ended (feeding_input i) end) e (λ i end p k.
    end_read (λ (d : Contents) (a : List ℕ). Spells d (codes "O" ++ three_digits i ++ a)) (feeding_input i) c end k (p, refl))

status_read : (c : Contents) (xs : List ℕ) → read_status xs ≡ Some c → Spells c (codes "OS" ++ xs)
status_read c xs e =
    number_read c (λ a. Spells c (codes "OS" ++ a)) xs (λ i a. then (read_locked a) (λ l b. then (read_hex b) (λ m end. ended (status i l m) end))) e (λ i xs p k.
    locked_read c (λ a. Spells c (codes "OS" ++ three_digits i ++ a)) xs (λ l b. then (read_hex b) (λ m end. ended (status i l m) end)) k (λ l xs k.
    hex_read c (λ a. Spells c (codes "OS" ++ three_digits i ++ locked_letter l ∷ a)) xs (λ m end. ended (status i l m) end) k (λ m end q k.
    end_read (λ (d : Contents) (a : List ℕ). Spells d (codes "OS" ++ three_digits i ++ locked_letter l ∷ two_hex m ++ a)) (status i l m) c end k ((p, q), refl))))

version_read : (c : Contents) (xs : List ℕ) → past (read_model xs) read_version ≡ Some c → Spells c (codes "F" ++ xs)
version_read c xs e =
    model_read c (λ a. Spells c (codes "F" ++ a)) xs read_version e (λ xs k.
    number_read c (λ a. Spells c (codes "F" ++ model_text ++ a)) xs (λ i a. past (read_x a) (λ b. then (read_number b) (λ o end. ended (version i o) end))) k (λ i xs p k.
    x_read c (λ a. Spells c (codes "F" ++ model_text ++ three_digits i ++ a)) xs (λ b. then (read_number b) (λ o end. ended (version i o) end)) k (λ xs k.
    number_read c (λ a. Spells c (codes "F" ++ model_text ++ three_digits i ++ codes "X" ++ a)) xs (λ o end. ended (version i o) end) k (λ o end q k.
    end_read (λ (d : Contents) (a : List ℕ). Spells d (codes "F" ++ model_text ++ three_digits i ++ codes "X" ++ three_digits o ++ a)) (version i o) c end k ((p, q), refl)))))

-- a count of at most eight, and the entries behind it
counted_read : (c : Contents) (n : ℕ) (es : List ℕ) (t : Bool) (r : Option (List Change)) → leb n 8 ≡ t → read_entries n es ≡ r → cond t (changes_if r) None ≡ Some c → Spells c (codes "Q" ++ one_digit n ++ es)
counted_read c n es false r p q e = absurd (none-some c e)
counted_read c n es true None p q e = absurd (none-some c e)
counted_read c n es true (Some cs) p q e =
    let same : changes cs ≡ c = cc in
    let are = entries_read n es cs q in
    let few = leb-true n 8 p in
    subst (λ (d : Contents). Spells d (codes "Q" ++ one_digit n ++ es)) same ((omega (arith, are.0, few), are.1), λ i. codes "Q" ++ one_digit (are.0 i) ++ are.2 i)

changes_read : (c : Contents) (xs : List ℕ) → read_changes xs ≡ Some c → Spells c (codes "Q" ++ xs)
changes_read c xs e =
    digit_read c (λ a. Spells c (codes "Q" ++ a)) xs (λ n es. cond (leb n 8) (changes_if (read_entries n es)) None) e (λ n es p k.
    counted_read c n es (leb n 8) (read_entries n es) refl refl k)

named_read : (c : Contents) (u g : ℕ) (n : List ℕ) → u < 10 → g < 10 → login_if_short u g n ≡ Some c → Spells c (codes "ZC:" ++ one_digit u ++ codes ":" ++ one_digit g ++ codes ":" ++ n)
named_read c u g n p q e =
    let k = cond_some _ (login u g n) c e in
    subst (λ (d : Contents). Spells d (codes "ZC:" ++ one_digit u ++ codes ":" ++ one_digit g ++ codes ":" ++ n)) k.1 ((p, q, leb-true (length n) 10 k.0), refl)

login_read : (c : Contents) (xs : List ℕ) → read_login xs ≡ Some c → Spells c (codes "ZC" ++ xs)
login_read c xs e =
    colon_read c (λ a. Spells c (codes "ZC" ++ a)) xs (λ a. then (read_digit a) (λ u b. past (read_colon b) (λ c. then (read_digit c) (λ g d. past (read_colon d) (λ n. login_if_short u g n))))) e (λ xs k.
    digit_read c (λ a. Spells c (codes "ZC:" ++ a)) xs (λ u b. past (read_colon b) (λ c. then (read_digit c) (λ g d. past (read_colon d) (λ n. login_if_short u g n)))) k (λ u xs p k.
    colon_read c (λ a. Spells c (codes "ZC:" ++ one_digit u ++ a)) xs (λ c. then (read_digit c) (λ g d. past (read_colon d) (λ n. login_if_short u g n))) k (λ xs k.
    digit_read c (λ a. Spells c (codes "ZC:" ++ one_digit u ++ codes ":" ++ a)) xs (λ g d. past (read_colon d) (λ n. login_if_short u g n)) k (λ g xs q k.
    colon_read c (λ a. Spells c (codes "ZC:" ++ one_digit u ++ codes ":" ++ one_digit g ++ a)) xs (λ n. login_if_short u g n) k (λ n k.
    named_read c u g n p q k)))))

logged_in_read : (c : Contents) (xs : List ℕ) → read_logged_in xs ≡ Some c → Spells c (codes "ZI" ++ xs)
logged_in_read c xs e =
    colon_read c (λ a. Spells c (codes "ZI" ++ a)) xs (λ a. then (read_digit a) (λ u b. past (read_colon b) (λ c. then (read_digit c) (λ g end. ended (logged_in u g) end)))) e (λ xs k.
    digit_read c (λ a. Spells c (codes "ZI:" ++ a)) xs (λ u b. past (read_colon b) (λ c. then (read_digit c) (λ g end. ended (logged_in u g) end))) k (λ u xs p k.
    colon_read c (λ a. Spells c (codes "ZI:" ++ one_digit u ++ a)) xs (λ c. then (read_digit c) (λ g end. ended (logged_in u g) end)) k (λ xs k.
    digit_read c (λ a. Spells c (codes "ZI:" ++ one_digit u ++ codes ":" ++ a)) xs (λ g end. ended (logged_in u g) end) k (λ g end q k.
    end_read (λ (d : Contents) (a : List ℕ). Spells d (codes "ZI:" ++ one_digit u ++ codes ":" ++ one_digit g ++ a)) (logged_in u g) c end k ((p, q), refl)))))

-- an answer that is its letters
bare_read : (letters : List ℕ) (v c : Contents) → Spells v (letters ++ []) → (rest : List ℕ) → ended v rest ≡ Some c → Spells c (letters ++ rest)
bare_read letters v c s rest e = end_read (λ (d : Contents) (a : List ℕ). Spells d (letters ++ a)) v c rest e s

contents_read : (c : Contents) (xs : List ℕ) → looked_up None answers xs ≡ Some c → Spells c xs
contents_read c xs e =
    row_read c (Spells c) answers (
      bare_read (codes "KL") keypad_locked c (tt, refl),
      (
        bare_read (codes "KU") keypad_unlocked c (tt, refl),
        (
          keypad_read c,
          (
            bare_read (codes "EL") ethernet_changed c (tt, refl),
            (
              status_read c,
              (
                bare_read (codes "ZA") mask_set c (tt, refl),
                (
                  login_read c,
                  (
                    logged_in_read c,
                    (
                      flags_read c,
                      (
                        version_read c,
                        (
                          bare_read (codes "L") output_locked c (tt, refl),
                          (
                            input_read c,
                            (
                              changes_read c,
                              (
                                bare_read (codes "S") output_set c (tt, refl),
                                (
                                  bare_read (codes "U") output_unlocked c (tt, refl),
                                  tt,
                                ),
                              ),
                            ),
                          ),
                        ),
                      ),
                    ),
                  ),
                ),
              ),
            ),
          ),
        ),
      ),
    )
    xs e

-- the header c and the body xs are what is written for r
abbrev BeginsAndSpells : ℕ → List ℕ → Reply → Type 0
BeginsAndSpells c xs r = (c ≡ header_of r) × Fits r × (xs ≡ body_of r)

fault_is_no_value : {V : Type 0} (v : V) (f : ReadFault) → ◌≡◌ {A = Result V ReadFault} (Err f) (Ok v) → ⊥
fault_is_no_value v f e = let z : ◌≡◌ {A = ℕ} 0 1 = cc in omega arith

ack_read : (xs : List ℕ) (r : Reply) (o : Option Contents) → looked_up None answers xs ≡ o → or_no_contents (acked o) ≡ Ok r → BeginsAndSpells 6 xs r
ack_read xs r None p e = absurd (fault_is_no_value r _ e)
ack_read xs r (Some c) p e =
    let same : ack c ≡ r = cc in
    let spelt = contents_read c xs p in
    subst (BeginsAndSpells 6 xs) same (refl, spelt.0, spelt.1)

nak_read : (xs : List ℕ) (r : Reply) (o : Option Reply) → read_letter xs ≡ o → or_no_contents o ≡ Ok r → BeginsAndSpells 21 xs r
nak_read xs r None p e = absurd (fault_is_no_value r _ e)
nak_read [] r (Some s) p e = absurd (none-some s p)
nak_read (x ∷ rest) r (Some s) p e =
    let same : s ≡ r = cc in
    subst (BeginsAndSpells 21 (x ∷ rest)) same (end_read (λ (q : Reply) (a : List ℕ). BeginsAndSpells 21 (x ∷ a) q) (nak x) s rest p (refl, tt, refl))

body_read : (c : ℕ) (xs : List ℕ) (r : Reply) (t u : Bool) → eqb c 6 ≡ t → eqb c 21 ≡ u → cond t (or_no_contents (acked (looked_up None answers xs))) (cond u (or_no_contents (read_letter xs)) (Err NoHeader)) ≡ Ok r → BeginsAndSpells c xs r
body_read c xs r true u p q e = subst (λ (b : ℕ). BeginsAndSpells b xs r) (sym (eqb-true c 6 p)) (ack_read xs r (looked_up None answers xs) refl e)
body_read c xs r false true p q e = subst (λ (b : ℕ). BeginsAndSpells b xs r) (sym (eqb-true c 21 q)) (nak_read xs r (read_letter xs) refl e)
body_read c xs r false false p q e = absurd (fault_is_no_value r _ e)

-- ---- whole replies

-- bytes by all but the last two, and these
two_last : (xs : List ℕ) → 2 ≤ length xs → xs ≡ (take (length xs - 2) xs ++ get_or xs (length xs - 2) 0 ∷ []) ++ get_or xs (length xs - 1) 0 ∷ []
two_last xs h =
    let n = length xs in
    let one : n - 2 + 1 ≡ n - 1 = omega arith in
    let two : n - 1 + 1 ≡ n = omega arith in
    sym (take_all n xs (omega arith))
    ∙ ap (λ (m : ℕ). take m xs) (sym two) ∙ take_more xs (n - 1) 0 (omega arith)
    ∙ ap (λ (a : List ℕ). a ++ get_or xs (n - 1) 0 ∷ []) (ap (λ (m : ℕ). take m xs) (sym one) ∙ take_more xs (n - 2) 0 (omega arith))

-- a body that was read, with an end that was right
framed : (c h l : ℕ) (body : List ℕ) (check : ℕ) (r : Reply) → check ≡ check_byte (c ∷ h ∷ l ∷ body ++ 3 ∷ []) → BeginsAndSpells c body r → Fits r × (c ∷ h ∷ l ∷ (body ++ 3 ∷ []) ++ check ∷ [] ≡ reply_bytes h l r)
framed c h l body check r e s = (
  s.1,
  ap (λ (k : ℕ). c ∷ h ∷ l ∷ (body ++ 3 ∷ []) ++ k ∷ []) e ∙ (λ i. on_line (record { header = s.0 i; high = h; low = l; body = s.2 i })),
)

abbrev WrittenFor : List ℕ → Received → Type 0
WrittenFor xs x = Fits x.reply × (xs ≡ reply_bytes x.high x.low x.reply)

addressed : (c h l : ℕ) (body : List ℕ) (check : ℕ) (x : Received) (o : Result Reply ReadFault) → check ≡ check_byte (c ∷ h ∷ l ∷ body ++ 3 ∷ []) → read_body c body ≡ o → with_address h l o ≡ Ok x → WrittenFor (c ∷ h ∷ l ∷ (body ++ 3 ∷ []) ++ check ∷ []) x
addressed c h l body check x (Err f) k p e = absurd (fault_is_no_value x f e)
addressed c h l body check x (Ok r) k p e =
    let same : record { high = h; low = l; reply = r } ≡ x = cc in
    subst (WrittenFor (c ∷ h ∷ l ∷ (body ++ 3 ∷ []) ++ check ∷ [])) same (framed c h l body check r k (body_read c body r (eqb c 6) (eqb c 21) refl refl p))

end_judged : (c h l : ℕ) (body : List ℕ) (etx check : ℕ) (x : Received) (t u : Bool) → eqb etx 3 ≡ t → eqb check (check_byte (c ∷ h ∷ l ∷ body ++ 3 ∷ [])) ≡ u
    → cond t (cond u (with_address h l (read_body c body)) (Err WrongCheckByte)) (Err NoEtx) ≡ Ok x → WrittenFor (c ∷ h ∷ l ∷ (body ++ etx ∷ []) ++ check ∷ []) x
end_judged c h l body etx check x false u p q e = absurd (fault_is_no_value x _ e)
end_judged c h l body etx check x true false p q e = absurd (fault_is_no_value x _ e)
end_judged c h l body etx check x true true p q e =
    subst (λ (b : ℕ). WrittenFor (c ∷ h ∷ l ∷ (body ++ b ∷ []) ++ check ∷ []) x) (sym (eqb-true etx 3 p)) (addressed c h l body check x (read_body c body) (eqb-true check _ q) refl e)

long_enough : (c h l : ℕ) (rest : List ℕ) (x : Received) (t : Bool) → leb 2 (length rest) ≡ t
    → cond t (if_ended c h l (take (length rest - 2) rest) (get_or rest (length rest - 2) 0) (get_or rest (length rest - 1) 0)) (Err TooShort) ≡ Ok x → WrittenFor (c ∷ h ∷ l ∷ rest) x
long_enough c h l rest x false p e = absurd (fault_is_no_value x _ e)
long_enough c h l rest x true p e =
    subst (λ (a : List ℕ). WrittenFor (c ∷ h ∷ l ∷ a) x) (sym (two_last rest (leb-true 2 (length rest) p)))
    (end_judged c h l (take (length rest - 2) rest) (get_or rest (length rest - 2) 0) (get_or rest (length rest - 1) 0) x _ _ refl refl e)

pub only_written : (xs : List ℕ) → OnlyWrittenRepliesAreRead xs
only_written [] x e = absurd (fault_is_no_value x _ e)
only_written (c ∷ []) x e = absurd (fault_is_no_value x _ e)
only_written (c ∷ h ∷ []) x e = absurd (fault_is_no_value x _ e)
only_written (c ∷ h ∷ l ∷ rest) x e = long_enough c h l rest x (leb 2 (length rest)) refl e
