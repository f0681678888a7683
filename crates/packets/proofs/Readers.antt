-- Each reader of data reads what was written, and reads nothing else.
use Rattle.std.proofs.Common.{◌≡◌, ℕ, suc, ◌+◌, ◌-◌, ◌*◌, ◌/◌, ◌%◌, ◌<◌, ◌≤◌, Bool, true, false, cond, not, ◌&&◌, eqb, ltb, leb, List, [], ◌∷◌, ◌++◌, length, take, drop, Some, None, Option, sym, refl, ap, ◌∙◌, subst, add-one, one-add, arith}
use Rattle.std.specs.List.{AllByRecursion}
use Rattle.std.proofs.lemmas.List.{append_assoc, length-append, length_push, take_at, drop_at, nil_from_length}
use Rattle.std.proofs.lemmas.Option.{cond_some}
use Rattle.std.proofs.lemmas.Bool.{and_parts, and_from, eqb-true, eqb-false, ne_eqb, leb-true, le-leb, ltb-true, cond-true}
use Rattle.wire.specs.Fields.{Field, is_digit, read_digit, read_number, read_colon, then, past, ended, most_text, short_text, one_digit, three_digits}
use Rattle.wire.proofs.Digits.{digit_back, number_back}
use Rattle.packets.specs.Data.{one_number, two_numbers, mask_data, colon, before_colon, at_colon, name_and_text, login_data}
use Rattle.packets.specs.Sending.{Name, Password}
use Rattle.packets.proofs.Colons.{colon_at}

-- ---- what was written is read

pub one_number_back : (n : ℕ) → n < 1000 → one_number (three_digits n) ≡ Some n
one_number_back n h = ap (λ (f : Field ℕ). then f (λ v end. ended v end)) (number_back n h [])

pub two_numbers_back : (n m : ℕ) → n < 1000 → m < 1000 → two_numbers (three_digits n ++ three_digits m) ≡ Some (n, m)
two_numbers_back n m h k =
    ap (λ (f : Field ℕ). then f (λ v more. then (read_number more) (λ u end. ended (v, u) end))) (number_back n h (three_digits m))
    ∙ ap (λ (f : Field ℕ). then f (λ u end. ended (n, u) end)) (number_back m k [])

pub mask_data_back : (g v o : ℕ) → g < 10 → v < 10 → o < 1000 → mask_data (colon ∷ (one_digit g ++ (colon ∷ (one_digit v ++ (colon ∷ three_digits o))))) ≡ Some (g, v, o)
mask_data_back g v o h k l =
    ap (λ (f : Field ℕ). then f (λ x b. past (read_colon b) (λ c. then (read_digit c) (λ y d. past (read_colon d) (λ e. then (read_number e) (λ z end. ended (x, y, z) end)))))) (digit_back g h (colon ∷ (one_digit v ++ (colon ∷ three_digits o))))
    ∙ ap (λ (f : Field ℕ). then f (λ y d. past (read_colon d) (λ e. then (read_number e) (λ z end. ended (g, y, z) end)))) (digit_back v k (colon ∷ three_digits o))
    ∙ ap (λ (f : Field ℕ). then f (λ z end. ended (g, v, z) end)) (number_back o l [])

before_name : (n w : List ℕ) → AllByRecursion (λ b. b ≡ colon → ⊥) n → before_colon (n ++ colon ∷ w) ≡ length n
before_name [] w a = refl
before_name (x ∷ n) w a = rw (ne_eqb x colon a.0) (omega (arith, before_name n w a.1))

at_colon_back : (n w : List ℕ) → AllByRecursion (λ b. b ≡ colon → ⊥) n → at_colon (n ++ colon ∷ w) ≡ Some (n, w)
at_colon_back n w a =
    let s = n ++ colon ∷ w in
    let front = take_at n (colon ∷ w) (length n) refl in
    let back = ap (drop (length n + 1)) (sym (append_assoc n (colon ∷ []) w)) ∙ drop_at (n ++ colon ∷ []) w (length n + 1) (length_push n colon) in
    sym (colon_at s (length n) (simp length-append (omega arith)) (before_name n w a)) ∙ (λ i. Some (front i, back i))

pub login_data_back : (n w : List ℕ) → Name n → Password w → login_data (colon ∷ (n ++ (colon ∷ w))) ≡ Some (n, w)
login_data_back n w a h = ap name_and_text (at_colon_back n w a.2) ∙ cond-true _ _ _ (and_from _ _ (le-leb 1 (length n) a.0) (and_from _ _ (le-leb (length n) most_text a.1) (le-leb (length w) most_text h)))

pub short_text_back : (w : List ℕ) → Password w → short_text w ≡ Some w
short_text_back w h = cond-true _ _ _ (le-leb (length w) most_text h)

-- ---- what is read was written

then_read : {V W : Type 0} (f : Field V) (g : V → List ℕ → Option W) (w : W) → then f g ≡ Some w → (v : V) × (rest : List ℕ) × (f ≡ Some (v, rest)) × (g v rest ≡ Some w)
then_read None g w e = cc
then_read (Some p) g w e = (p.0, p.1, refl, e)

past_read : {W : Type 0} (o : Option (List ℕ)) (g : List ℕ → Option W) (w : W) → past o g ≡ Some w → (rest : List ℕ) × (o ≡ Some rest) × (g rest ≡ Some w)
past_read None g w e = cc
past_read (Some rest) g w e = (rest, refl, e)

pub ended_read : {V : Type 0} (v w : V) (xs : List ℕ) → ended v xs ≡ Some w → (v ≡ w) × (xs ≡ [])
ended_read v w xs e = let p = cond_some (eqb (length xs) 0) v w e in (p.1, nil_from_length xs (eqb-true (length xs) 0 p.0))

digit_bounds : (a : ℕ) → is_digit a ≡ true → (48 ≤ a) × (a ≤ 57)
digit_bounds a t = let p = and_parts (leb 48 a) (leb a 57) t in (leb-true 48 a p.0, leb-true a 57 p.1)

digit_read : (xs : List ℕ) (n : ℕ) (rest : List ℕ) → read_digit xs ≡ Some (n, rest) → (n < 10) × (xs ≡ one_digit n ++ rest)
digit_read [] n rest e = cc
digit_read (a ∷ xs) n rest e =
    let p = cond_some (is_digit a) (a - 48, xs) (n, rest) e in
    let d = digit_bounds a p.0 in
    let v : a - 48 ≡ n = ap (λ (q : ℕ × List ℕ). q.0) p.1 in
    let r : xs ≡ rest = ap (λ (q : ℕ × List ℕ). q.1) p.1 in
    let s : a ≡ 48 + n = omega arith in
    (omega arith, cc)

number_read : (xs : List ℕ) (n : ℕ) (rest : List ℕ) → read_number xs ≡ Some (n, rest) → (n < 1000) × (xs ≡ three_digits n ++ rest)
number_read [] n rest e = cc
number_read (a ∷ []) n rest e = cc
number_read (a ∷ b ∷ []) n rest e = cc
number_read (a ∷ b ∷ c ∷ xs) n rest e =
    let p = cond_some (is_digit a && (is_digit b && is_digit c)) ((a - 48) * 100 + (b - 48) * 10 + (c - 48), xs) (n, rest) e in
    let q = and_parts (is_digit a) (is_digit b && is_digit c) p.0 in
    let low = and_parts (is_digit b) (is_digit c) q.1 in
    let da = digit_bounds a q.0 in
    let db = digit_bounds b low.0 in
    let dc = digit_bounds c low.1 in
    let v : (a - 48) * 100 + (b - 48) * 10 + (c - 48) ≡ n = ap (λ (u : ℕ × List ℕ). u.0) p.1 in
    let r : xs ≡ rest = ap (λ (u : ℕ × List ℕ). u.1) p.1 in
    let ea : a ≡ 48 + n / 100 = omega arith in
    let eb : b ≡ 48 + n / 10 % 10 = omega arith in
    let ec : c ≡ 48 + n % 10 = omega arith in
    (omega arith, λ i. ea i ∷ eb i ∷ ec i ∷ r i)

colon_read : (xs rest : List ℕ) → read_colon xs ≡ Some rest → xs ≡ colon ∷ rest
colon_read [] rest e = cc
colon_read (a ∷ xs) rest e =
    let p = cond_some (eqb a colon) xs rest e in
    let c = eqb-true a colon p.0 in
    λ i. c i ∷ p.1 i

pub one_number_read : (xs : List ℕ) (n : ℕ) → one_number xs ≡ Some n → (n < 1000) × (xs ≡ three_digits n)
one_number_read xs n e =
    let f = then_read (read_number xs) (λ v end. ended v end) n e in
    let end = ended_read f.0 n f.1 f.3 in
    let r = number_read xs f.0 f.1 f.2 in
    let v = end.0 in
    (omega arith, r.1 ∙ λ i. three_digits (v i) ++ end.1 i)

pub two_numbers_read : (xs : List ℕ) (d : ℕ × ℕ) → two_numbers xs ≡ Some d → ((d.0 < 1000) × (d.1 < 1000)) × (xs ≡ three_digits d.0 ++ three_digits d.1)
two_numbers_read xs d e =
    let f = then_read (read_number xs) (λ v more. then (read_number more) (λ u end. ended (v, u) end)) d e in
    let g = then_read (read_number f.1) (λ u end. ended (f.0, u) end) d f.3 in
    let end = ended_read (f.0, g.0) d g.1 g.3 in
    let r = number_read xs f.0 f.1 f.2 in
    let s = number_read f.1 g.0 g.1 g.2 in
    let v : f.0 ≡ d.0 = ap (λ (q : ℕ × ℕ). q.0) end.0 in
    let u : g.0 ≡ d.1 = ap (λ (q : ℕ × ℕ). q.1) end.0 in
    ((omega arith, omega arith), r.1 ∙ (λ i. three_digits (v i) ++ s.1 i) ∙ λ i. three_digits d.0 ++ (three_digits (u i) ++ end.1 i))

pub mask_data_read : (xs : List ℕ) (d : ℕ × ℕ × ℕ) → mask_data xs ≡ Some d → ((d.0 < 10) × (d.1 < 10) × (d.2 < 1000)) × (xs ≡ colon ∷ (one_digit d.0 ++ (colon ∷ (one_digit d.1 ++ (colon ∷ three_digits d.2)))))
mask_data_read xs d e =
    let a = past_read (read_colon xs) (λ r. then (read_digit r) (λ x b. past (read_colon b) (λ c. then (read_digit c) (λ y s. past (read_colon s) (λ t. then (read_number t) (λ z end. ended (x, y, z) end)))))) d e in
    let f = then_read (read_digit a.0) (λ x b. past (read_colon b) (λ c. then (read_digit c) (λ y s. past (read_colon s) (λ t. then (read_number t) (λ z end. ended (x, y, z) end))))) d a.2 in
    let b = past_read (read_colon f.1) (λ c. then (read_digit c) (λ y s. past (read_colon s) (λ t. then (read_number t) (λ z end. ended (f.0, y, z) end)))) d f.3 in
    let g = then_read (read_digit b.0) (λ y s. past (read_colon s) (λ t. then (read_number t) (λ z end. ended (f.0, y, z) end))) d b.2 in
    let c = past_read (read_colon g.1) (λ t. then (read_number t) (λ z end. ended (f.0, g.0, z) end)) d g.3 in
    let h = then_read (read_number c.0) (λ z end. ended (f.0, g.0, z) end) d c.2 in
    let end = ended_read (f.0, g.0, h.0) d h.1 h.3 in
    let r = digit_read a.0 f.0 f.1 f.2 in
    let s = digit_read b.0 g.0 g.1 g.2 in
    let t = number_read c.0 h.0 h.1 h.2 in
    let x : f.0 ≡ d.0 = ap (λ (q : ℕ × ℕ × ℕ). q.0) end.0 in
    let y : g.0 ≡ d.1 = ap (λ (q : ℕ × ℕ × ℕ). q.1) end.0 in
    let z : h.0 ≡ d.2 = ap (λ (q : ℕ × ℕ × ℕ). q.2) end.0 in
    let last : c.0 ≡ three_digits d.2 = t.1 ∙ λ i. three_digits (z i) ++ end.1 i in
    let middle : b.0 ≡ one_digit d.1 ++ (colon ∷ three_digits d.2) = s.1 ∙ λ i. one_digit (y i) ++ (colon_read g.1 c.0 c.1 ∙ ap (λ (l : List ℕ). colon ∷ l) last) i in
    let first : a.0 ≡ one_digit d.0 ++ (colon ∷ (one_digit d.1 ++ (colon ∷ three_digits d.2))) = r.1 ∙ λ i. one_digit (x i) ++ (colon_read f.1 b.0 b.1 ∙ ap (λ (l : List ℕ). colon ∷ l) middle) i in
    ((omega arith, omega arith, omega arith), colon_read xs a.0 a.1 ∙ ap (λ (l : List ℕ). colon ∷ l) first)

-- cut at k there is a colon, and none before it
abbrev Cut : List ℕ → ℕ → Type 0
Cut xs k = AllByRecursion (λ b. b ≡ colon → ⊥) (take k xs) × (xs ≡ take k xs ++ colon ∷ drop (suc k) xs)

cut : (xs : List ℕ) → before_colon xs < length xs → Cut xs (before_colon xs)
cut [] h = absurd (omega arith)
cut (x ∷ xs) h = by_byte (eqb x colon) refl h (cut xs)
  where
    by_byte : (w : Bool) → eqb x colon ≡ w → cond (not w) (1 + before_colon xs) 0 < length (x ∷ xs) → (before_colon xs < length xs → Cut xs (before_colon xs)) → Cut (x ∷ xs) (cond (not w) (1 + before_colon xs) 0)
    by_byte true e k rest = (tt, ap (λ (y : ℕ). y ∷ xs) (eqb-true x colon e))
    by_byte false e k rest =
        let r = rest (omega arith) in
        subst (Cut (x ∷ xs)) (sym (one-add (before_colon xs))) ((eqb-false x colon e, r.0), ap (λ (l : List ℕ). x ∷ l) r.1)

at_colon_read : (xs : List ℕ) (p : List ℕ × List ℕ) → at_colon xs ≡ Some p → AllByRecursion (λ b. b ≡ colon → ⊥) p.0 × (xs ≡ p.0 ++ colon ∷ p.1)
at_colon_read xs p e =
    let k = before_colon xs in
    let t = cond_some (ltb k (length xs)) (take k xs, drop (k + 1) xs) p e in
    let n : take k xs ≡ p.0 = ap (λ (q : List ℕ × List ℕ). q.0) t.1 in
    let w : drop (suc k) xs ≡ p.1 = ap (λ (j : ℕ). drop j xs) (sym (add-one k)) ∙ ap (λ (q : List ℕ × List ℕ). q.1) t.1 in
    let c = cut xs (ltb-true k (length xs) t.0) in
    (subst (AllByRecursion (λ b. b ≡ colon → ⊥)) n c.0, c.1 ∙ λ i. n i ++ colon ∷ w i)

name_and_text_read : (o : Option (List ℕ × List ℕ)) (d : List ℕ × List ℕ) → name_and_text o ≡ Some d → (o ≡ Some d) × (1 ≤ length d.0) × (length d.0 ≤ most_text) × (length d.1 ≤ most_text)
name_and_text_read None d e = cc
name_and_text_read (Some p) d e =
    let t = cond_some (leb 1 (length p.0) && (leb (length p.0) most_text && leb (length p.1) most_text)) (p.0, p.1) d e in
    let q = and_parts (leb 1 (length p.0)) (leb (length p.0) most_text && leb (length p.1) most_text) t.0 in
    let u = and_parts (leb (length p.0) most_text) (leb (length p.1) most_text) q.1 in
    let n = ap (λ (r : List ℕ × List ℕ). length r.0) t.1 in
    let w = ap (λ (r : List ℕ × List ℕ). length r.1) t.1 in
    let low = leb-true 1 (length p.0) q.0 in
    let high = leb-true (length p.0) most_text u.0 in
    let short = leb-true (length p.1) most_text u.1 in
    (ap Some t.1, omega arith, omega arith, omega arith)

pub login_data_read : (xs : List ℕ) (d : List ℕ × List ℕ) → login_data xs ≡ Some d → (Name d.0 × Password d.1) × (xs ≡ colon ∷ (d.0 ++ (colon ∷ d.1)))
login_data_read xs d e =
    let a = past_read (read_colon xs) (λ r. name_and_text (at_colon r)) d e in
    let t = name_and_text_read (at_colon a.0) d a.2 in
    let c = at_colon_read a.0 d t.0 in
    (((t.1, t.2, c.0), t.3), colon_read xs a.0 a.1 ∙ ap (λ (l : List ℕ). colon ∷ l) c.1)

pub short_text_read : (xs w : List ℕ) → short_text xs ≡ Some w → Password w × (xs ≡ w)
short_text_read xs w e =
    let p = cond_some (leb (length xs) most_text) xs w e in
    let l = leb-true (length xs) most_text p.0 in
    let n = ap length p.1 in
    (omega arith, p.1)
