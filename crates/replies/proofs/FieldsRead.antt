-- What the reader of a field tells of the bytes that it read: they are the field as it is written, with the rest behind it.
use Rattle.std.proofs.Common.{◌≡◌, ℕ, ◌+◌, ◌-◌, ◌*◌, ◌/◌, ◌%◌, ◌<◌, ◌≤◌, Bool, true, false, cond, ◌&&◌, eqb, List, [], ◌∷◌, ◌++◌, length, drop, Some, None, Option, sym, refl, ◌∙◌, subst, arith}
use Rattle.std.specs.List.{AllByRecursion}
use Rattle.std.proofs.lemmas.Bool.{eqb-true, leb-true, ne_eqb, and_parts, cond-false}
use Rattle.std.proofs.lemmas.Bool.Decides.{nat_tests}
use Rattle.std.proofs.lemmas.Option.{none-some}
use Rattle.wire.specs.Fields.{is_digit, one_digit, three_digits, hex_digit, two_hex, hex_value, hex_pair, read_digit, read_number, read_hex, read_colon, then, past, ended}
use Rattle.wire.specs.Letters.{Row, begins, looked_up}
use Rattle.replies.specs.Replies.{locked_letter, read_locked, read_x, model_text, read_model}

-- bytes that begin with some letters are these letters with a rest behind them
rest_of : (p s : List ℕ) → begins p s ≡ true → s ≡ p ++ drop (length p) s
rest_of [] s h = refl
rest_of (a ∷ p) [] h = let z : ◌≡◌ {A = ℕ} 0 1 = cc in absurd (omega arith)
rest_of (a ∷ p) (x ∷ s) h = λ i. eqb-true x a (and_parts _ _ h).0 i ∷ rest_of p s (and_parts _ _ h).1 i

digit_bounds : (a : ℕ) → is_digit a ≡ true → (48 ≤ a) × (a ≤ 57)
digit_bounds a d = let p = and_parts _ _ d in (leb-true 48 a p.0, leb-true a 57 p.1)

digit_value : (a : ℕ) → is_digit a ≡ true → (a - 48 < 10) × (48 + (a - 48) ≡ a)
digit_value a d = let p = digit_bounds a d in (omega (arith, p.0, p.1), omega (arith, p.0))

-- three digits by their values
number_value : (x y z : ℕ) → x < 10 → y < 10 → z < 10 → (x * 100 + y * 10 + z < 1000) × (three_digits (x * 100 + y * 10 + z) ≡ (48 + x) ∷ (48 + y) ∷ (48 + z) ∷ [])
number_value x y z h k l =
    let n = x * 100 + y * 10 + z in
    let first : 48 + n / 100 ≡ 48 + x = omega arith in
    let second : 48 + n / 10 % 10 ≡ 48 + y = omega arith in
    let third : 48 + n % 10 ≡ 48 + z = omega arith in
    (omega arith, λ i. first i ∷ second i ∷ third i ∷ [])

hex_of : (a h : ℕ) → hex_value a ≡ Some h → (h < 16) × (hex_digit h ≡ a)
hex_of a h e = (grind (arith, nat_tests), grind (arith, nat_tests))

pair_value : (h l : ℕ) → h < 16 → l < 16 → (h * 16 + l < 256) × (two_hex (h * 16 + l) ≡ hex_digit h ∷ hex_digit l ∷ [])
pair_value h l p q =
    let high : (h * 16 + l) / 16 ≡ h = omega arith in
    let low : (h * 16 + l) % 16 ≡ l = omega arith in
    (omega arith, λ i. hex_digit (high i) ∷ hex_digit (low i) ∷ [])

-- w was read from bytes, and P is to be shown of them
module _ {W : Type 0} (w : W) (P : List ℕ → Type 0) where
  pub digit_read : (xs : List ℕ) (k : ℕ → List ℕ → Option W) → then (read_digit xs) k ≡ Some w → ((n : ℕ) (rest : List ℕ) → n < 10 → k n rest ≡ Some w → P (one_digit n ++ rest)) → P xs
  digit_read [] k e f = absurd (none-some w e)
  digit_read (a ∷ rest) k e f = by (is_digit a) refl e
    where
      by : (b : Bool) → is_digit a ≡ b → then (cond b (Some (a - 48, rest)) None) k ≡ Some w → P (a ∷ rest)
      by true d e = let v = digit_value a d in subst (λ (x : ℕ). P (x ∷ rest)) v.1 (f (a - 48) rest v.0 e)
      by false d e = absurd (none-some w e)

  pub number_read : (xs : List ℕ) (k : ℕ → List ℕ → Option W) → then (read_number xs) k ≡ Some w → ((n : ℕ) (rest : List ℕ) → n < 1000 → k n rest ≡ Some w → P (three_digits n ++ rest)) → P xs
  number_read [] k e f = absurd (none-some w e)
  number_read (a ∷ []) k e f = absurd (none-some w e)
  number_read (a ∷ b ∷ []) k e f = absurd (none-some w e)
  number_read (a ∷ b ∷ c ∷ rest) k e f = by (is_digit a && (is_digit b && is_digit c)) refl e
    where
      by : (t : Bool) → (is_digit a && (is_digit b && is_digit c)) ≡ t → then (cond t (Some ((a - 48) * 100 + (b - 48) * 10 + (c - 48), rest)) None) k ≡ Some w → P (a ∷ b ∷ c ∷ rest)
      by true d e =
          let p = and_parts _ _ d in
          let q = and_parts _ _ p.1 in
          let u = digit_value a p.0 in
          let v = digit_value b q.0 in
          let x = digit_value c q.1 in
          let n = number_value (a - 48) (b - 48) (c - 48) u.0 v.0 x.0 in
          subst P ((λ i. n.1 i ++ rest) ∙ (λ i. u.1 i ∷ v.1 i ∷ x.1 i ∷ rest)) (f ((a - 48) * 100 + (b - 48) * 10 + (c - 48)) rest n.0 e)
      by false d e = absurd (none-some w e)

  pub hex_read : (xs : List ℕ) (k : ℕ → List ℕ → Option W) → then (read_hex xs) k ≡ Some w → ((n : ℕ) (rest : List ℕ) → n < 256 → k n rest ≡ Some w → P (two_hex n ++ rest)) → P xs
  hex_read [] k e f = absurd (none-some w e)
  hex_read (a ∷ []) k e f = absurd (none-some w e)
  hex_read (a ∷ b ∷ rest) k e f = by (hex_value a) (hex_value b) refl refl e
    where
      by : (x y : Option ℕ) → hex_value a ≡ x → hex_value b ≡ y → then (hex_pair x y rest) k ≡ Some w → P (a ∷ b ∷ rest)
      by None y p q e = absurd (none-some w e)
      by (Some h) None p q e = absurd (none-some w e)
      by (Some h) (Some l) p q e =
          let u = hex_of a h p in
          let v = hex_of b l q in
          let n = pair_value h l u.0 v.0 in
          subst P ((λ i. n.1 i ++ rest) ∙ (λ i. u.1 i ∷ v.1 i ∷ rest)) (f (h * 16 + l) rest n.0 e)

  -- a byte that must be b
  byte_read : (a b : ℕ) (rest : List ℕ) (k : List ℕ → Option W) (t : Bool) → eqb a b ≡ t → past (cond t (Some rest) None) k ≡ Some w → (k rest ≡ Some w → P (b ∷ rest)) → P (a ∷ rest)
  byte_read a b rest k true d e f = subst (λ (x : ℕ). P (x ∷ rest)) (sym (eqb-true a b d)) (f e)
  byte_read a b rest k false d e f = absurd (none-some w e)

  pub colon_read : (xs : List ℕ) (k : List ℕ → Option W) → past (read_colon xs) k ≡ Some w → ((rest : List ℕ) → k rest ≡ Some w → P (58 ∷ rest)) → P xs
  colon_read [] k e f = absurd (none-some w e)
  colon_read (a ∷ rest) k e f = byte_read a 58 rest k (eqb a 58) refl e (f rest)

  pub x_read : (xs : List ℕ) (k : List ℕ → Option W) → past (read_x xs) k ≡ Some w → ((rest : List ℕ) → k rest ≡ Some w → P (0x58 ∷ rest)) → P xs
  x_read [] k e f = absurd (none-some w e)
  x_read (a ∷ rest) k e f = byte_read a 0x58 rest k (eqb a 0x58) refl e (f rest)

  pub locked_read : (xs : List ℕ) (k : Bool → List ℕ → Option W) → then (read_locked xs) k ≡ Some w → ((l : Bool) (rest : List ℕ) → k l rest ≡ Some w → P (locked_letter l ∷ rest)) → P xs
  locked_read [] k e f = absurd (none-some w e)
  locked_read (a ∷ rest) k e f = by (eqb a 0x4C) (eqb a 0x55) refl refl e
    where
      by : (t u : Bool) → eqb a 0x4C ≡ t → eqb a 0x55 ≡ u → then (cond t (Some (true, rest)) (cond u (Some (false, rest)) None)) k ≡ Some w → P (a ∷ rest)
      by true u p q e = subst (λ (x : ℕ). P (x ∷ rest)) (sym (eqb-true a 0x4C p)) (f true rest e)
      by false true p q e = subst (λ (x : ℕ). P (x ∷ rest)) (sym (eqb-true a 0x55 q)) (f false rest e)
      by false false p q e = absurd (none-some w e)

  pub model_read : (xs : List ℕ) (k : List ℕ → Option W) → past (read_model xs) k ≡ Some w → ((rest : List ℕ) → k rest ≡ Some w → P (model_text ++ rest)) → P xs
  model_read xs k e f = by (begins model_text xs) refl e
    where
      by : (t : Bool) → begins model_text xs ≡ t → past (cond t (Some (drop (length model_text) xs)) None) k ≡ Some w → P xs
      by true p e = subst P (sym (rest_of model_text xs p)) (f (drop (length model_text) xs) e)
      by false p e = absurd (none-some w e)

-- v was read, and nothing is left
pub end_read : {W : Type 0} (Q : W → List ℕ → Type 0) (v w : W) (xs : List ℕ) → ended v xs ≡ Some w → Q v [] → Q w xs
end_read Q v w [] e q = let same : v ≡ w = cc in subst (λ u. Q u []) same q
end_read Q v w (a ∷ xs) e q = absurd (none-some w (sym (cond-false _ _ _ (ne_eqb (length (a ∷ xs)) 0 (λ z. omega arith))) ∙ e))

-- the row that was looked up has the letters that the bytes begin with
pub row_read : {W : Type 0} (w : W) (P : List ℕ → Type 0) (rows : List (Row (Option W))) → AllByRecursion (λ (r : Row (Option W)). (rest : List ℕ) → r.says rest ≡ Some w → P (r.letters ++ rest)) rows → (xs : List ℕ) → looked_up None rows xs ≡ Some w → P xs
row_read w P [] a xs e = absurd (none-some w e)
row_read w P (r ∷ rows) a xs e = by (begins r.letters xs) refl e (λ later. row_read w P rows a.1 xs later)
  where
    by : (t : Bool) → begins r.letters xs ≡ t → cond t (r.says (drop (length r.letters) xs)) (looked_up None rows xs) ≡ Some w → (looked_up None rows xs ≡ Some w → P xs) → P xs
    by true p e next = subst P (sym (rest_of r.letters xs p)) (a.0 (drop (length r.letters) xs) e)
    by false p e next = next e
