-- Why a table is true: with at most seven changes waiting, the table with the waiting changes entered is right for every
-- output that it knows. Each thing that a unit does keeps that.
use Rattle.std.proofs.Common.{◌≡◌, ℕ, ◌<◌, ◌≤◌, Bool, true, false, cond, eqb, ltb, leb, ◌⊎◌, List, [], ◌∷◌, ◌++◌, length, Some, sym, refl, ap, ◌∙◌, inl, ⊎_elim, arith}
use Rattle.std.proofs.lemmas.List.{length_push}
use Rattle.std.proofs.lemmas.Bool.{leb-true, ltb-false, ltb-true}
use Rattle.std.proofs.lemmas.Bool.Decides.{nat_tests}
use Rattle.std.specs.List.{AllByRecursion}
use Rattle.wire.specs.Kept.{Kept}
use Rattle.replies.specs.declared.change.Change.{Change}
use Rattle.packets.specs.Receiver.{Receiver}
use Rattle.replies.specs.Replies.{SmallChange}
use Rattle.rules.specs.State.{PortState}
use Rattle.rules.specs.Switching.{note_if}
use Rattle.rules.specs.Commands.{cleared}
use Rattle.rules.specs.Table.{Table, unknown, entered, entered_all, the_changes_are, with_queue_told}

-- the waiting changes tell all that the table lacks, unless there are eight
unfoldable pub Right : (ℕ → ℕ) → Table → List Change → Type 0
Right f t cs = length cs ≤ 7 → (o i : ℕ) → entered_all t cs o ≡ Some i → f o ≡ i

entered-push : (t : Table) (cs : List Change) (c : Change) (o : ℕ) → entered_all t (cs ++ (c ∷ [])) o ≡ entered (entered_all t cs) c.output c.input o
entered-push t [] c o = refl
entered-push t (x ∷ cs) c o = entered-push (entered t x.output x.input) cs c o

-- two tables that differ only where the one is right of itself
over : (f : ℕ → ℕ) (o i : ℕ) (cs : List Change) (t u : Table) → ((k : ℕ) → u o ≡ Some k → (t o ≡ Some k) ⊎ (f o ≡ k))
    → entered_all u cs o ≡ Some i → (entered_all t cs o ≡ Some i) ⊎ (f o ≡ i)
over f o i [] t u h e = h i e
over f o i (c ∷ cs) t u h e =
    over f o i cs (entered t c.output c.input) (entered u c.output c.input)
    (elim (eqb o c.output) as (λ b. (k : ℕ) → cond b (Some c.input) (u o) ≡ Some k → (cond b (Some c.input) (t o) ≡ Some k) ⊎ (f o ≡ k)) [ true ↦ λ k e. inl e | false ↦ h ])
    e

pub right_entered : (f : ℕ → ℕ) (t : Table) (cs : List Change) (x : ℕ) → Right f t cs → Right f (entered t x (f x)) cs
unfolding Right
right_entered f t cs x r short o i e =
    ⊎_elim (r short o i) (λ g. g)
    (over f o i cs t (entered t x (f x)) (λ k e. let fx : (o ≡ x) → f o ≡ f x = λ p. ap f p in grind (arith, nat_tests)) e)

cleared_by : (f : ℕ → ℕ) (t : Table) (cs : List Change) (b : Bool) → leb (length cs) 7 ≡ b → Right f t cs → Right f (cond b (entered_all t cs) unknown) []
unfolding Right
cleared_by f t cs true e r short o i g = r (leb-true (length cs) 7 e) o i g
cleared_by f t cs false e r short o i g = absurd cc

pub right_emptied : (f : ℕ → ℕ) (t : Table) (cs : List Change) → Right f t cs → Right f (with_queue_told t (the_changes_are cs)) []
right_emptied f t cs r = cleared_by f t cs (leb (length cs) 7) refl r

pub none_known : (f : ℕ → ℕ) → Right f unknown []
unfolding Right
none_known f short o i e = absurd cc

-- f is what fed the outputs, and g what feeds them now: the same but at x
abbrev pub Apart : (ℕ → ℕ) → (ℕ → ℕ) → ℕ → Type 0
Apart f g x = (k : ℕ) → g k ≡ cond (eqb k x) (g x) (f k)

right_put : (f g : ℕ → ℕ) (t : Table) (q : Kept Change) (x : ℕ) (b : Bool) → ltb (length q.items) 8 ≡ b → Apart f g x → Right f t q.items
    → Right g t (cond {A = Kept Change} b (record { items = q.items ++ record { output = x; input = g x } ∷ []; overrun = q.overrun }) (record { items = q.items; overrun = true })).items
unfolding Right
right_put f g t q x true room apart r short o k e =
    let less : length q.items ≤ 7 = omega (arith, length_push q.items (record { output = x; input = g x })) in
    let new : entered (entered_all t q.items) x (g x) o ≡ Some k = sym (entered-push t q.items (record { output = x; input = g x }) o) ∙ e in
    let old : entered_all t q.items o ≡ Some k → f o ≡ k = r less o k in
    apart o ∙ (elim (eqb o x) as (λ b. cond b (Some (g x)) (entered_all t q.items o) ≡ Some k → cond b (g x) (f o) ≡ k) [ true ↦ λ e. cc | false ↦ old ]) new
right_put f g t q x false full apart r short o k e = absurd (let n = ltb-false (length q.items) 8 full in omega arith)

right_same : (f g : ℕ → ℕ) (t : Table) (cs : List Change) (x : ℕ) → Apart f g x → g x ≡ f x → Right f t cs → Right g t cs
unfolding Right
right_same f g t cs x apart same r short o k e =
    apart o ∙ (let h : f o ≡ k = r short o k e in let fx : (o ≡ x) → f o ≡ f x = λ p. ap f p in grind (arith, nat_tests))

few_put : (q : Kept Change) (c : Change) (b : Bool) → ltb (length q.items) 8 ≡ b → length q.items ≤ 8
    → length (cond {A = Kept Change} b (record { items = q.items ++ c ∷ []; overrun = q.overrun }) (record { items = q.items; overrun = true })).items ≤ 8
few_put q c true e h = let l = ltb-true (length q.items) 8 e in omega (arith, length_push q.items c)
few_put q c false e h = h

all_push : (cs : List Change) (c : Change) → AllByRecursion SmallChange cs → SmallChange c → AllByRecursion SmallChange (cs ++ c ∷ [])
all_push [] c a s = (s, tt)
all_push (x ∷ cs) c a s = (a.0, all_push cs c a.1 s)

small_put : (q : Kept Change) (c : Change) (b : Bool) → AllByRecursion SmallChange q.items → SmallChange c
    → AllByRecursion SmallChange (cond {A = Kept Change} b (record { items = q.items ++ c ∷ []; overrun = q.overrun }) (record { items = q.items; overrun = true })).items
small_put q c true a s = all_push q.items c a s
small_put q c false a s = a

-- what holds of a port: the table t and the receiver r are those known from outside
pub record PortRight (f : ℕ → ℕ) (t : Table) (r : Receiver) (x : PortState) : Type 0 where
  pub receiver : r ≡ x.receiver
  pub few : length x.queue.items ≤ 8
  pub small : AllByRecursion SmallChange x.queue.items
  pub right : Right f t x.queue.items

pub noted_right : (f g : ℕ → ℕ) (t : Table) (r : Receiver) (x : PortState) (o : ℕ) (b : Bool) → Apart f g o → (b ≡ false → g o ≡ f o) → o < 1000 → g o < 1000
    → PortRight f t r x → PortRight g t r (note_if b (record { output = o; input = g o }) x)
noted_right f g t r x o true apart same ho hi v = record {
  receiver = v.receiver;
  few = few_put x.queue _ (ltb (length x.queue.items) 8) refl v.few;
  small = small_put x.queue _ (ltb (length x.queue.items) 8) v.small (ho, hi);
  right = right_put f g t x.queue o (ltb (length x.queue.items) 8) refl apart v.right;
}
noted_right f g t r x o false apart same ho hi v = record { receiver = v.receiver; few = v.few; small = v.small; right = right_same f g t x.queue.items o apart (same refl) v.right }

pub cleared_right : (f : ℕ → ℕ) (t : Table) (r : Receiver) (x : PortState) → PortRight f t r x → PortRight f (with_queue_told t (the_changes_are x.queue.items)) r (cleared x)
cleared_right f t r x v = record { receiver = v.receiver; few = omega arith; small = tt; right = right_emptied f t x.queue.items v.right }
