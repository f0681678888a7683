-- What a list that keeps its first n elements holds after many were put into it.
use Rattle.std.proofs.Common.{◌≡◌, ℕ, List, [], ◌∷◌, ◌++◌, sym, ap, ◌∙◌, arith}
use Rattle.std.proofs.lemmas.List.{append-nil, append_assoc, take_all, take-append-le}
use Rattle.std.proofs.lemmas.Grind.{common_steps}
use Rattle.std.proofs.lemmas.Bool.Decides.{nat_tests}
use Rattle.wire.specs.Kept.{Kept, put, empty, put_all, firsts, KeepsTheFirst}

module _ {E : Type 0} (n : ℕ) where
  pub firsts-push : (xs : List E) (x : E) → put n (firsts n xs) x ≡ firsts n (xs ++ x ∷ [])
  firsts-push xs x = grind (arith, common_steps, nat_tests, take_all, take-append-le)

  pub firsts_more : (ys xs : List E) → put_all n (firsts n ys) xs ≡ firsts n (ys ++ xs)
  firsts_more ys [] = ap (firsts n) (sym (append-nil ys))
  firsts_more ys (x ∷ xs) = ap (λ (k : Kept E). put_all n k xs) (firsts-push ys x) ∙ firsts_more (ys ++ x ∷ []) xs ∙ ap (firsts n) (append_assoc ys (x ∷ []) xs)

pub firsts-none : {E : Type 0} (n : ℕ) → empty {E = E} ≡ firsts n []
firsts-none n = grind (arith, common_steps, nat_tests)

pub keeps_the_first : (E : Type 0) → KeepsTheFirst E
keeps_the_first E n xs = ap (λ (k : Kept E). put_all n k xs) (firsts-none n) ∙ firsts_more n [] xs
