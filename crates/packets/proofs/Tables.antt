-- A table that has the longer letters before the shorter, and none twice, says what its row of the longest fitting letters says; and
-- what a table says, a row says whose letters fit.
use Rattle.std.proofs.Common.{◌≡◌, ℕ, zero, suc, ◌<◌, ◌≤◌, Bool, true, false, cond, not, ◌&&◌, eqb, leb, List, [], ◌∷◌, ◌++◌, length, take, drop, sym, refl, ap, ◌∙◌, subst, arith}
use Rattle.std.specs.List.{HoldsAt, ContainsAt as Has, AllByRecursion, list_all}
use Rattle.std.proofs.lemmas.List.Elements.{All-contains, Contains-from_at}
use Rattle.std.proofs.lemmas.List.Sums.{AllPass-from_list_all}
use Rattle.std.proofs.lemmas.Slice.Eq.{bytes_eq-Decides}
use Rattle.std.proofs.lemmas.List.{take_at}
use Rattle.std.proofs.lemmas.Bool.{false≢true, both_ways, and_parts, not-true, eqb-true, leb-true, cond-true, cond-false}
use Rattle.wire.specs.Fields.{same_bytes}
use Rattle.wire.specs.Letters.{begins, Row, looked_up}

pub begins_is : (ls xs : List ℕ) → begins ls xs ≡ true → ls ++ drop (length ls) xs ≡ xs
begins_is [] xs h = refl
begins_is (l ∷ ls) [] h = absurd (false≢true h)
begins_is (l ∷ ls) (x ∷ xs) h =
    let p = and_parts (eqb x l) (begins ls xs) h in
    let e = eqb-true x l p.0 in
    let t = begins_is ls xs p.1 in
    cc

same_front : (ks ls xs : List ℕ) → begins ks xs ≡ true → begins ls xs ≡ true → length ks ≡ length ls → ks ≡ ls
same_front ks ls xs p q e =
    sym (take_at ks (drop (length ks) xs) (length ks) refl)
    ∙ ap (take (length ks)) (begins_is ks xs p ∙ sym (begins_is ls xs q))
    ∙ take_at ls (drop (length ls) xs) (length ks) (sym e)

module _ {V : Type 0} where
  -- r's letters are not fewer than those of s, and are others
  abbrev goes_before : Row V → Row V → Bool
  goes_before r s = leb (length s.letters) (length r.letters) && not (same_bytes r.letters s.letters)

  abbrev pub longest_first : List (Row V) → Bool
  longest_first [] = true
  longest_first (r ∷ rs) = list_all (goes_before r) rs && longest_first rs

  -- two rows of which one goes before the other do not both fit, if the later has no fewer letters
  not_both : (f r : Row V) (xs : List ℕ) → goes_before f r ≡ true → begins f.letters xs ≡ true → begins r.letters xs ≡ true → length f.letters ≤ length r.letters → ⊥
  not_both f r xs g p q m =
      let parts = and_parts (leb (length r.letters) (length f.letters)) (not (same_bytes f.letters r.letters)) g in
      let l = leb-true (length r.letters) (length f.letters) parts.0 in
      both_ways (same_bytes f.letters r.letters) (not-true _ parts.1) ((bytes_eq-Decides f.letters r.letters).1 (same_front f.letters r.letters xs p q (omega arith)))

  decides : (none : V) (xs : List ℕ) (rs : List (Row V)) → longest_first rs ≡ true → (k : ℕ) (r : Row V) → k < length rs → HoldsAt (λ s. s ≡ r) rs k → begins r.letters xs ≡ true → ((s : Row V) → Has rs s → begins s.letters xs ≡ true → length s.letters ≤ length r.letters) → looked_up none rs xs ≡ r.says (drop (length r.letters) xs)
  decides none xs [] o k r lt at b m = absurd (omega arith)
  decides none xs (f ∷ fs) o zero r lt at b m = ap (λ (s : Row V). looked_up none (s ∷ fs) xs) (at f) ∙ cond-true _ _ _ b
  decides none xs (f ∷ fs) o (suc k) r lt at b m =
      by_first (begins f.letters xs) refl (decides none xs fs ordered.1 k r (omega arith) at b (λ s h. m s (suc h.0, omega (arith, h.1), h.2)))
    where
      ordered : (list_all (goes_before f) fs ≡ true) × (longest_first fs ≡ true)
      ordered = and_parts (list_all (goes_before f) fs) (longest_first fs) o

      by_first : (w : Bool) → begins f.letters xs ≡ w → looked_up none fs xs ≡ r.says (drop (length r.letters) xs) → looked_up none (f ∷ fs) xs ≡ r.says (drop (length r.letters) xs)
      by_first true e rest = absurd (not_both f r xs (All-contains (λ s. goes_before f s ≡ true) fs r (AllPass-from_list_all (goes_before f) fs ordered.0) (Contains-from_at fs r (k, omega arith, at))) e b (m f (0, omega arith, λ d. refl) e))
      by_first false e rest = cond-false _ _ _ e ∙ rest

  pub longest_decides : (none : V) (xs : List ℕ) (rs : List (Row V)) → longest_first rs ≡ true → (r : Row V) → Has rs r → begins r.letters xs ≡ true → ((s : Row V) → Has rs s → begins s.letters xs ≡ true → length s.letters ≤ length r.letters) → looked_up none rs xs ≡ r.says (drop (length r.letters) xs)
  longest_decides none xs rs o r h = decides none xs rs o h.0 r h.1 h.2

  pub from_row : (Q : List ℕ → Type 0) (none v : V) → (none ≡ v → ⊥) → (rs : List (Row V)) → AllByRecursion (λ r. (ys : List ℕ) → r.says ys ≡ v → Q (r.letters ++ ys)) rs → (xs : List ℕ) → looked_up none rs xs ≡ v → Q xs
  from_row Q none v n [] a xs e = absurd (n e)
  from_row Q none v n (r ∷ rs) a xs e = by_first (begins r.letters xs) refl e (from_row Q none v n rs a.1 xs)
    where
      by_first : (w : Bool) → begins r.letters xs ≡ w → cond w (r.says (drop (length r.letters) xs)) (looked_up none rs xs) ≡ v → (looked_up none rs xs ≡ v → Q xs) → Q xs
      by_first true b f rest = subst Q (begins_is r.letters xs b) (a.0 (drop (length r.letters) xs) f)
      by_first false b f rest = rest f
