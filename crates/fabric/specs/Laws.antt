-- The laws of fabrics.
--
--   OnlyTheFeedingRelayIsClosed           of an output's row of relays, that of the feeding input is closed, and no other
--   EachOutputIsOnInputOne                every output inside the count is fed by input 1
--   SwappedTwiceIsTheFabricBelow          exchanging two input numbers twice changes nothing
--   SwappedRoutesTheExchangedInput        a routing of m with p and q exchanged is one of m by the number that the input has there
--   TwoOutputsInEitherOrder               two different outputs can be routed in either order
--   AsTheFirst                            input i does for output o in a join what it does in the first fabric
--   AsTheSecond                           behind the inputs of the first, it does what it does in the second fabric
--   FirstInputsBehaveAsTheFirst           so does each input of the first fabric
--   OtherInputsBehaveAsTheSecond          so does each input of the second fabric, if the inputs of both fit
--   PastTheLimitTheFirstAlone             if they do not fit, a join is the first fabric, cut to the smaller count of outputs
--   InputsBehaveAsInTheirFabrics          these three, of a join in whatever state it is
--   AcceptedAreThoseThatCanBeMade         of a list of routings as many are accepted as can be made in m, whatever came before them
--   LastAcceptedStays m ps end            in end each output is on the input of its last accepted routing of ps, or as it was in m
use Rattle.std.specs.Prelude.{◌≡◌, ℕ, ◌+◌, ◌≤◌, Bool, true, false, cond, ◌≢◌, List, ◌∷◌, ◌++◌, length, ◌==◌}
use Rattle.fabric.specs.declared.join.Join.{Join}
use Rattle.fabric.specs.Meaning.{Meaning, within, after, answer}
use Rattle.fabric.specs.Banks.{is_on}
use Rattle.fabric.specs.Joins.{joined, fits, fewer, selecting, cut}
use Rattle.fabric.specs.Swaps.{exchanged, swapped}
use Rattle.fabric.specs.Kinds.{chosen}
use Rattle.fabric.specs.Plans.{accepted, makeable_of, none_sets}

abbrev pub OnlyTheFeedingRelayIsClosed : Meaning → ℕ → ℕ → Type 0
OnlyTheFeedingRelayIsClosed m o row = (j : ℕ) → 1 ≤ j → is_on row j ≡ (j == m.feeding o)

abbrev pub EachOutputIsOnInputOne : Meaning → Type 0
EachOutputIsOnInputOne m = (o : ℕ) → within o m.outputs ≡ true → m.feeding o ≡ 1

abbrev pub SwappedTwiceIsTheFabricBelow : Type 0
SwappedTwiceIsTheFabricBelow = (m : Meaning) (p q : ℕ) → swapped (swapped m p q) p q ≡ m

pub record SwappedRoutesTheExchangedInput (m : Meaning) (p q : ℕ) : Type 0 where
  pub answers : (o i : ℕ) → answer (swapped m p q) o i ≡ answer m o (exchanged m.inputs p q i)
  pub changes : (o i : ℕ) → after (swapped m p q) o i ≡ swapped (after m o (exchanged m.inputs p q i)) p q

abbrev pub TwoOutputsInEitherOrder : Meaning → ℕ × ℕ → ℕ × ℕ → Type 0
TwoOutputsInEitherOrder m x y = x.0 ≢ y.0 → after (after m x.0 x.1) y.0 y.1 ≡ after (after m y.0 y.1) x.0 x.1

pub record AsTheFirst (a b : Meaning) (second : ℕ → Bool) (o i : ℕ) : Type 0 where
  pub made : (joined a b second).makeable o i ≡ a.makeable o i
  pub fed : within ((joined a b second).feeding o) a.inputs ≡ true → (joined a b second).feeding o ≡ a.feeding o
  pub answers : answer (joined a b second) o i ≡ answer a o i
  pub changes : after (joined a b second) o i ≡ joined (after a o i) b (cond (a.makeable o i) (selecting second o false) second)

pub record AsTheSecond (a b : Meaning) (second : ℕ → Bool) (o i : ℕ) : Type 0 where
  pub made : (joined a b second).makeable o (a.inputs + i) ≡ b.makeable o i
  pub fed : within ((joined a b second).feeding o) a.inputs ≡ false → (joined a b second).feeding o ≡ a.inputs + b.feeding o
  pub answers : answer (joined a b second) o (a.inputs + i) ≡ answer b o i
  pub changes : after (joined a b second) o (a.inputs + i) ≡ joined a (after b o i) (cond (b.makeable o i) (selecting second o true) second)

abbrev pub FirstInputsBehaveAsTheFirst : Meaning → Meaning → (ℕ → Bool) → Type 0
FirstInputsBehaveAsTheFirst a b second =
    (o i : ℕ) → within o (fewer a b) ≡ true → within i a.inputs ≡ true → AsTheFirst a b second o i

abbrev pub OtherInputsBehaveAsTheSecond : Meaning → Meaning → (ℕ → Bool) → Type 0
OtherInputsBehaveAsTheSecond a b second =
    fits a b ≡ true → (o i : ℕ) → within o (fewer a b) ≡ true → within i b.inputs ≡ true → AsTheSecond a b second o i

abbrev pub PastTheLimitTheFirstAlone : Meaning → Meaning → (ℕ → Bool) → Type 0
PastTheLimitTheFirstAlone a b second = fits a b ≡ false → joined a b second ≡ cut a (fewer a b)

pub record InputsBehaveAsInTheirFabrics {F G : Type 0} (first : F → Meaning) (second : G → Meaning) (j : Join F G) : Type 0 where
  pub first_inputs : FirstInputsBehaveAsTheFirst (first j.first) (second j.second) (chosen j.selected)
  pub other_inputs : OtherInputsBehaveAsTheSecond (first j.first) (second j.second) (chosen j.selected)
  pub past_limit : PastTheLimitTheFirstAlone (first j.first) (second j.second) (chosen j.selected)

abbrev pub AcceptedAreThoseThatCanBeMade : Meaning → List (ℕ × ℕ) → Type 0
AcceptedAreThoseThatCanBeMade m ps = accepted m ps ≡ length (makeable_of m ps)

pub record LastAcceptedStays (m : Meaning) (ps : List (ℕ × ℕ)) (end : Meaning) : Type 0 where
  pub none : (o : ℕ) → none_sets m o ps ≡ true → end.feeding o ≡ m.feeding o
  pub last : (o i : ℕ) (before later : List (ℕ × ℕ)) → ps ≡ before ++ (o, i) ∷ later → m.makeable o i ≡ true → none_sets m o later ≡ true → end.feeding o ≡ i
