-- How many of a list of routings are accepted, and what they leave on an output.
use Rattle.std.proofs.Common.{◌≡◌, ℕ, ◌+◌, ◌<◌, Bool, true, false, cond, not, ◌&&◌, eqb, List, [], ◌∷◌, ◌++◌, length, get_or, drop, is_ok, Result, sym, refl, ap, ◌∙◌, arith}
use Rattle.std.proofs.lemmas.Bool.Decides.{nat_tests}
use Rattle.std.proofs.lemmas.Bool.{and_parts}
use Rattle.std.proofs.lemmas.List.{at_drop_more}
use Rattle.fabric.specs.declared.fault.RouteFault.{RouteFault}
use Rattle.fabric.specs.Meaning.{Meaning, Sound, routed, after, answer}
use Rattle.fabric.specs.Plans.{after_all, accepted, can_be_made, makeable_of, sets, none_sets}
use Rattle.fabric.specs.Laws.{AcceptedAreThoseThatCanBeMade, LastAcceptedStays}
use Rattle.fabric.proofs.Means.{made_by_answer}

-- a routing changes neither the counts nor which pairs can be made
module _ (m : Meaning) (o i : ℕ) where
  -- what a routing that is made leaves as it was, any routing does
  stays : {A : Type 0} (f : Meaning → A) → f (routed m o i) ≡ f m → f (after m o i) ≡ f m
  stays f e = by (m.makeable o i)
    where
      by : (b : Bool) → f (cond b (routed m o i) m) ≡ f m
      by true = e
      by false = refl

  none_routed : (k : ℕ) (ps : List (ℕ × ℕ)) → none_sets (routed m o i) k ps ≡ none_sets m k ps
  none_routed k [] = refl
  none_routed k (p ∷ ps) = ap (λ t. not (sets m k p) && t) (none_routed k ps)

  none_after : (k : ℕ) (ps : List (ℕ × ℕ)) → none_sets (after m o i) k ps ≡ none_sets m k ps
  none_after k ps = stays (λ n. none_sets n k ps) (none_routed k ps)

  made_after : (p j : ℕ) → (after m o i).makeable p j ≡ m.makeable p j
  made_after p j = stays (λ n. n.makeable p j) refl

  makeable_after : (ps : List (ℕ × ℕ)) → makeable_of (after m o i) ps ≡ makeable_of m ps
  makeable_after ps = stays (λ n. makeable_of n ps) refl

  fed_by : (b : Bool) (k : ℕ) → (cond b (routed m o i) m).feeding k ≡ cond (eqb k o && b) i (m.feeding k)
  fed_by true k = grind (arith, nat_tests)
  fed_by false k = grind (arith, nat_tests)

  fed_after : (k : ℕ) → (after m o i).feeding k ≡ cond (eqb k o && m.makeable o i) i (m.feeding k)
  fed_after = fed_by (m.makeable o i)

count_by : (t : Bool) (n : ℕ) (p : ℕ × ℕ) (ps : List (ℕ × ℕ)) → n ≡ length ps → cond t 1 0 + n ≡ length (cond t (p ∷ ps) ps)
count_by true n p ps e = omega arith
count_by false n p ps e = omega arith

pub as_many_accepted : (m : Meaning) (ps : List (ℕ × ℕ)) → AcceptedAreThoseThatCanBeMade m ps
as_many_accepted m [] = refl
as_many_accepted m (p ∷ ps) =
    count_by (can_be_made m p) (accepted (after m p.0 p.1) ps) p (makeable_of m ps) (as_many_accepted (after m p.0 p.1) ps ∙ ap length (makeable_after m p.0 p.1 ps))

not_set : (k o i : ℕ) (b : Bool) (x : ℕ) → not (eqb o k && b) ≡ true → cond (eqb k o && b) i x ≡ x
not_set k o i b x h = grind (arith, nat_tests)

none_stays : (m : Meaning) (ps : List (ℕ × ℕ)) (o : ℕ) → none_sets m o ps ≡ true → (after_all m ps).feeding o ≡ m.feeding o
none_stays m [] o h = refl
none_stays m (p ∷ ps) o h =
    let both = and_parts _ _ h in
    none_stays (after m p.0 p.1) ps o (none_after m p.0 p.1 o ps ∙ both.1)
    ∙ fed_after m p.0 p.1 o
    ∙ not_set o p.0 p.1 (m.makeable p.0 p.1) (m.feeding o) both.0

last_stays : (m : Meaning) (o i : ℕ) (before later : List (ℕ × ℕ)) → m.makeable o i ≡ true → none_sets m o later ≡ true → (after_all m (before ++ (o, i) ∷ later)).feeding o ≡ i
last_stays m o i [] later made h =
    none_stays (after m o i) later o (none_after m o i o later ∙ h)
    ∙ fed_after m o i o
    ∙ grind (arith, nat_tests)
last_stays m o i (p ∷ before) later made h =
    last_stays (after m p.0 p.1) o i before later (made_after m p.0 p.1 o i ∙ made) (none_after m p.0 p.1 o later ∙ h)

pub last_accepted : (m : Meaning) (ps : List (ℕ × ℕ)) → LastAcceptedStays m ps (after_all m ps)
last_accepted m ps = record {
  none = none_stays m ps;
  last = λ o i before later e made h. ap (λ xs. (after_all m xs).feeding o) e ∙ last_stays m o i before later made h;
}

-- one pair of a plan
module _ (plan : List (ℕ × ℕ)) (n : ℕ) (lt : n < length plan) (m m' : Meaning) (sound : Sound m) (r : Result (Unit {0}) RouteFault) where
  abbrev pair : ℕ × ℕ
  pair = get_or plan n (0, 0)

  pub one_more : r ≡ answer m pair.0 pair.1 → m' ≡ after m pair.0 pair.1 →
      (accepted m (drop n plan) ≡ cond (is_ok r) 1 0 + accepted m' (drop (n + 1) plan)) × (after_all m (drop n plan) ≡ after_all m' (drop (n + 1) plan))
  one_more answers changes =
      let made : is_ok r ≡ m.makeable pair.0 pair.1 = sym (made_by_answer m pair.0 pair.1 sound answers) in
      (at_drop_more (accepted m) plan n (0, 0) lt ∙ rw (made, changes), at_drop_more (after_all m) plan n (0, 0) lt ∙ rw changes)
