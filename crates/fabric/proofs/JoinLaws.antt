-- Each input of a join behaves as in the fabric that has it; what a routing leaves in the two fabrics and selects is what it does to the join.
use Rattle.std.specs.Prelude.{◌≡◌, ℕ, ◌+◌, ◌-◌, ◌<◌, ◌≤◌, Bool, true, false, cond, not, ◌&&◌, leb, ◌==◌, nat_le, refl}
use Rattle.std.proofs.Common.{sym, ap, ◌∙◌, arith}
use Rattle.std.proofs.lemmas.Bool.Decides.{nat_tests}
use Rattle.std.proofs.lemmas.Bool.{and_parts, and_from, le-leb, lt-leb, leb-false, both_ways}
use Rattle.fabric.specs.Meaning.{Meaning, Sound, within, routed, after}
use Rattle.fabric.specs.Joins.{joined, fits, all_inputs, fewer, covers, selecting, first_after, second_after, selected_after, cut}
use Rattle.fabric.specs.Laws.{AsTheFirst, AsTheSecond, FirstInputsBehaveAsTheFirst, OtherInputsBehaveAsTheSecond, PastTheLimitTheFirstAlone}
use Rattle.fabric.specs.Soundness.{within_min}
use Rattle.fabric.proofs.Means.{same_meaning}
use Rattle.fabric.proofs.Means.{within_le}
use Rattle.fabric.proofs.Means.{after_made}
use Rattle.fabric.proofs.Means.{after_refused}

some_of : (k n : ℕ) → within k n ≡ true → 1 ≤ k
some_of k n h = grind (arith, nat_tests)

covers_first : (fit : Bool) (i m n : ℕ) → within i m ≡ true → within i (cond fit (m + n) m) ≡ true
covers_first true i m n h = grind (arith, nat_tests)
covers_first false i m n h = h

second_has : (fit : Bool) (i m n : ℕ) → within i (cond fit (m + n) m) ≡ true → nat_le i m ≡ false → (fit ≡ true) × (within (i - m) n ≡ true)
second_has true i m n h e = (refl, grind (arith, nat_tests))
second_has false i m n h e = absurd (both_ways (nat_le i m) e (and_parts _ _ h).1)

-- a routing of one fabric, which is then selected for the output
module _ (a b : Meaning) (second : ℕ → Bool) (o i : ℕ) (inside : within o (fewer a b) ≡ true) where
  first_ways : (x y : ℕ) (e fit g : Bool) → cond (fit && cond e false g) y (cond e i x) ≡ cond e i (cond (fit && g) y x)
  first_ways x y true true g = refl
  first_ways x y true false g = refl
  first_ways x y false fit g = refl

  other : (k : ℕ) → within k (fewer a b) ≡ false → (k == o) ≡ false
  other k h = grind (arith, nat_tests)

  first_fed : (k : ℕ) (w : Bool) → within k (fewer a b) ≡ w → cond w (cond (fits a b && selecting second o false k) (a.inputs + b.feeding k) (cond (k == o) i (a.feeding k))) 0
      ≡ cond (k == o) i (cond w (cond (fits a b && second k) (a.inputs + b.feeding k) (a.feeding k)) 0)
  first_fed k true t = first_ways (a.feeding k) (a.inputs + b.feeding k) (k == o) (fits a b) (second k)
  first_fed k false f = rw (other k f)

  pub routed_first : joined (routed a o i) b (selecting second o false) ≡ routed (joined a b second) o i
  routed_first =
      same_meaning (joined (routed a o i) b (selecting second o false)) (routed (joined a b second) o i) refl refl
      (λ k. first_fed k (within k (fewer a b)) refl)
      (λ k j. refl)

  module _ (fit : fits a b ≡ true) where
    second_ways : (x y : ℕ) (e g : Bool) → cond (cond e true g) (a.inputs + cond e i y) x ≡ cond e (a.inputs + i) (cond g (a.inputs + y) x)
    second_ways x y true g = refl
    second_ways x y false g = refl

    second_fed : (k : ℕ) (w : Bool) → within k (fewer a b) ≡ w → cond w (cond (selecting second o true k) (a.inputs + cond (k == o) i (b.feeding k)) (a.feeding k)) 0
        ≡ cond (k == o) (a.inputs + i) (cond w (cond (second k) (a.inputs + b.feeding k) (a.feeding k)) 0)
    second_fed k true t = second_ways (a.feeding k) (b.feeding k) (k == o) (second k)
    second_fed k false f = rw (other k f)

    pub routed_second : joined a (routed b o i) (selecting second o true) ≡ routed (joined a b second) o (a.inputs + i)
    routed_second =
        same_meaning (joined a (routed b o i) (selecting second o true)) (routed (joined a b second) o (a.inputs + i)) refl refl
        (λ k. rw fit (second_fed k (within k (fewer a b)) refl))
        (λ k j. refl)

-- the laws
module _ (a b : Meaning) (second : ℕ → Bool) (sa : Sound a) (sb : Sound b) where
  first_fed_by : (t : Bool) (x y : ℕ) → within y b.inputs ≡ true → within (cond t (a.inputs + y) x) a.inputs ≡ true → cond t (a.inputs + y) x ≡ x
  first_fed_by true x y p e =
      let above : 1 ≤ y = some_of y b.inputs p in
      let below : a.inputs + y ≤ a.inputs = within_le (a.inputs + y) a.inputs e in
      absurd (omega arith)
  first_fed_by false x y p e = refl

  second_fed_by : (t : Bool) (x y : ℕ) → within x a.inputs ≡ true → within (cond t (a.inputs + y) x) a.inputs ≡ false → cond t (a.inputs + y) x ≡ a.inputs + y
  second_fed_by true x y p e = refl
  second_fed_by false x y p e = absurd (both_ways (within x a.inputs) e p)

  module _ (o i : ℕ) (inside : within o (fewer a b) ≡ true) where
    outputs_inside : (within o a.outputs ≡ true) × (within o b.outputs ≡ true)
    outputs_inside = within_min o a.outputs b.outputs inside

    first_changes : (t : Bool) → (joined a b second).makeable o i ≡ t → after (joined a b second) o i ≡ joined (cond t (routed a o i) a) b (cond t (selecting second o false) second)
    first_changes true q = after_made (joined a b second) o i q ∙ sym (routed_first a b second o i inside)
    first_changes false q = after_refused (joined a b second) o i q

    pub as_first : within i a.inputs ≡ true → AsTheFirst a b second o i
    as_first h =
        let below : leb i a.inputs ≡ true = le-leb i a.inputs (within_le i a.inputs h) in
        let covers : within i (all_inputs a b) ≡ true = covers_first (fits a b) i a.inputs b.inputs h in
        let made : (joined a b second).makeable o i ≡ a.makeable o i = rw (inside, covers, below) in
        record {
          made = made;
          fed = λ e. rw inside (first_fed_by (fits a b && second o) (a.feeding o) (b.feeding o) (sb.fed o outputs_inside.1) (rw inside at e));
          answers = rw (inside, covers, h, outputs_inside.0, below);
          changes = first_changes (a.makeable o i) made;
        }

    second_changes : fits a b ≡ true → (t : Bool) → (joined a b second).makeable o (a.inputs + i) ≡ t → after (joined a b second) o (a.inputs + i) ≡ joined a (cond t (routed b o i) b) (cond t (selecting second o true) second)
    second_changes fit true q = after_made (joined a b second) o (a.inputs + i) q ∙ sym (routed_second a b second o i inside fit)
    second_changes fit false q = after_refused (joined a b second) o (a.inputs + i) q

    pub as_second : fits a b ≡ true → within i b.inputs ≡ true → AsTheSecond a b second o i
    as_second fit h =
        let some : 1 ≤ i = some_of i b.inputs h in
        let few : i ≤ b.inputs = within_le i b.inputs h in
        let above : leb (a.inputs + i) a.inputs ≡ false = lt-leb (a.inputs + i) a.inputs (omega arith) in
        let back : a.inputs + i - a.inputs ≡ i = omega arith in
        let covers : within (a.inputs + i) (all_inputs a b) ≡ true = rw fit (and_from _ _ (le-leb 1 (a.inputs + i) (omega arith)) (le-leb (a.inputs + i) (a.inputs + b.inputs) (omega arith))) in
        let made : (joined a b second).makeable o (a.inputs + i) ≡ b.makeable o i = rw (inside, covers, above, back) in
        record {
          made = made;
          fed = λ e. rw inside (second_fed_by (fits a b && second o) (a.feeding o) (b.feeding o) (sa.fed o outputs_inside.0) (rw inside at e));
          answers = rw (inside, covers, h, outputs_inside.1, above, back);
          changes = second_changes fit (b.makeable o i) made;
        }

  pub first_inputs : FirstInputsBehaveAsTheFirst a b second
  first_inputs o i inside h = as_first o i inside h

  pub other_inputs : OtherInputsBehaveAsTheSecond a b second
  other_inputs fit o i inside h = as_second o i inside fit h

  pub first_alone : PastTheLimitTheFirstAlone a b second
  first_alone e =
      same_meaning (joined a b second) (cut a (fewer a b)) (rw e) refl
      (λ o. rw e)
      (λ o i. rw e (alone (within o (fewer a b)) (within i a.inputs) (nat_le i a.inputs) (a.makeable o i) (b.makeable o (i - a.inputs))
      (λ t. (and_parts _ _ (sa.made_within o i t)).1) (λ t. (and_parts _ _ t).1)))
    where
      alone : (w n l t u : Bool) → (t ≡ true → n ≡ true) → (n ≡ true → l ≡ true) → ((w && n) && cond l t u) ≡ (w && t)
      alone false n l t u h k = refl
      alone true true true t u h k = refl
      alone true true false t u h k = absurd (both_ways false refl (k refl))
      alone true false l true u h k = absurd (both_ways false refl (h refl))
      alone true false l false u h k = refl

-- a routing of the join, in the fabric that has the input
module _ (a b : Meaning) (second : ℕ → Bool) (o i : ℕ) where
  module _ (sa : Sound a) (sb : Sound b) (inside : covers a b o i ≡ true) where
    output : within o (fewer a b) ≡ true
    output = (and_parts _ _ inside).0

    input : within i (all_inputs a b) ≡ true
    input = (and_parts _ _ inside).1

    first_law : leb i a.inputs ≡ true → AsTheFirst a b second o i
    first_law h = as_first a b second sa sb o i output (and_from (nat_le 1 i) (nat_le i a.inputs) (le-leb 1 i (some_of i (all_inputs a b) input)) h)

    module _ (h : leb i a.inputs ≡ false) where
      back : a.inputs + (i - a.inputs) ≡ i
      back = let above : a.inputs < i = leb-false i a.inputs h in omega arith

      has : (fits a b ≡ true) × (within (i - a.inputs) b.inputs ≡ true)
      has = second_has (fits a b) i a.inputs b.inputs input h

      second_law : AsTheSecond a b second o (i - a.inputs)
      second_law = as_second a b second sa sb o (i - a.inputs) output has.0 has.1

  module _ (sa : Sound a) (sb : Sound b) where
    parts_joined : joined (first_after a b o i) (second_after a b o i) (selected_after a b second o i) ≡ after (joined a b second) o i
    parts_joined = ways (covers a b o i) (nat_le i a.inputs) refl refl
      where
        ways : (w l : Bool) → covers a b o i ≡ w → nat_le i a.inputs ≡ l →
            joined (cond (w && l) (after a o i) a) (cond (w && not l) (after b o (i - a.inputs)) b) (cond ((joined a b second).makeable o i) (selecting second o (not l)) second) ≡ after (joined a b second) o i
        ways false l e h = rw e
        ways true true e h =
            let law = first_law sa sb e h in
            ap (λ (t : Bool). joined (after a o i) b (cond t (selecting second o false) second)) law.made ∙ sym law.changes
        ways true false e h =
            let law = second_law sa sb e h in
            let same = back sa sb e h in
            ap (λ (t : Bool). joined a (after b o (i - a.inputs)) (cond t (selecting second o true) second)) (ap ((joined a b second).makeable o) (sym same) ∙ law.made)
            ∙ sym law.changes
            ∙ ap (after (joined a b second) o) same

    pub parts_after : {x y : Meaning} {z : ℕ → Bool} → x ≡ first_after a b o i → y ≡ second_after a b o i → z ≡ selected_after a b second o i →
        joined x y z ≡ after (joined a b second) o i
    parts_after p q r = (λ t. joined (p t) (q t) (r t)) ∙ parts_joined
