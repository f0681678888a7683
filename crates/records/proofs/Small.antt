-- The changes of a queue have numbers of three digits, also after one more was put into it.
use Rattle.std.proofs.Common.{◌≡◌, ℕ, true, ltb, List, [], ◌∷◌, ◌++◌, length, refl}
use Rattle.std.specs.List.{AllByRecursion}
use Rattle.std.proofs.lemmas.Bool.{ltb-true, lt-ltb, and_parts, and_from, cond_both}
use Rattle.wire.specs.Kept.{Kept, put}
use Rattle.replies.specs.declared.change.Change.{Change}
use Rattle.replies.specs.Replies.{SmallChange, small_change, all_small}

pub change_small : (c : Change) → small_change c ≡ true → SmallChange c
change_small c e = let numbers = and_parts (ltb c.output 1000) (ltb c.input 1000) e in (ltb-true _ _ numbers.0, ltb-true _ _ numbers.1)

pub each_small : (cs : List Change) → all_small cs ≡ true → AllByRecursion SmallChange cs
each_small [] e = tt
each_small (c ∷ cs) e =
    let both = and_parts (small_change c) (all_small cs) e in
    (change_small c both.0, each_small cs both.1)

module _ (c : Change) (small : SmallChange c) where
  small-push : (cs : List Change) → all_small cs ≡ true → all_small (cs ++ c ∷ []) ≡ true
  small-push [] e = and_from _ _ (and_from _ _ (lt-ltb _ _ small.0) (lt-ltb _ _ small.1)) refl
  small-push (d ∷ cs) e = let both = and_parts (small_change d) (all_small cs) e in and_from _ _ both.0 (small-push cs both.1)

  pub small_put : (n : ℕ) (k : Kept Change) → all_small k.items ≡ true → all_small (put n k c).items ≡ true
  small_put n k e = cond_both (ltb (length k.items) n) _ _ (λ (j : Kept Change). all_small j.items ≡ true) (λ t. small-push k.items e) (λ t. e)
