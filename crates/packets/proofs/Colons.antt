-- Some bytes, cut in two at the first colon among them.
use Rattle.std.proofs.Common.{◌≡◌, ℕ, ◌+◌, ◌<◌, true, false, cond, ltb, List, length, take, drop, Some, None, Option, sym, refl, ap, ◌∙◌, arith}
use Rattle.std.proofs.lemmas.Bool.{lt-ltb, cond-true}
use Rattle.packets.specs.Data.{before_colon, at_colon}

pub colon_at : (s : List ℕ) (i : ℕ) → i < length s → before_colon s ≡ i → Some (take i s, drop (i + 1) s) ≡ at_colon s
colon_at s i h e =
    let test : ltb (before_colon s) (length s) ≡ true = lt-ltb _ _ (omega arith) in
    ap (λ (n : ℕ). Some (take n s, drop (n + 1) s)) (sym e) ∙ sym (cond-true _ _ _ test)

-- the bytes before the place i, and those behind it
abbrev pub around : List ℕ → Option ℕ → Option (List ℕ × List ℕ)
around s None = None
around s (Some i) = Some (take i s, drop (i + 1) s)

-- the place is that of the first colon, if there is one
pub around_colon : (s : List ℕ) (place : Option ℕ) → place ≡ cond (ltb (before_colon s) (length s)) (Some (before_colon s)) None → around s place ≡ at_colon s
around_colon s place e =
    let k = before_colon s in
    ap (around s) e ∙ elim (ltb k (length s)) as (λ w. around s (cond w (Some k) None) ≡ cond w (Some (take k s, drop (k + 1) s)) None) [ true ↦ refl | false ↦ refl ]
