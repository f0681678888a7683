-- The entries of a queue, written one behind the other, and read so.
use Rattle.std.proofs.Common.{◌≡◌, ℕ, zero, suc, ◌+◌, ◌-◌, ◌*◌, ◌<◌, ◌≤◌, Bool, true, false, cond, eqb, ltb, List, [], ◌∷◌, ◌++◌, length, get_or, Some, None, Decides, Option, Result, sym, refl, ap, ◌∙◌, subst, arith, length-append}
use Rattle.std.specs.List.{AllByRecursion}
use Rattle.std.proofs.lemmas.List.{append-nil, append_assoc}
use Rattle.std.proofs.lemmas.Option.{none-some, cond_some}
use Rattle.std.proofs.lemmas.Bool.Decides.{Decides-and, Decides-ltb}
use Rattle.std.proofs.lemmas.Bool.{lt-ltb, le-leb, cond-true}
use Rattle.wire.specs.Fields.{Field, three_digits, read_number, then}
use Rattle.std.specs.Bool.{then_some}
use Rattle.std.specs.Result.{IsOk}
use Rattle.wire.specs.Frames.{Frame, added, fits}
use Rattle.wire.specs.Drafts.{add_answer}
use Rattle.wire.specs.declared.reply.DraftFault.{DraftFault}
use Rattle.wire.specs.declared.list.KeptList.{KeptList}
use Rattle.replies.specs.Queues.{queued}
use Rattle.replies.specs.declared.change.Change.{Change}
use Rattle.wire.specs.Kept.{Kept, empty, put}
use Rattle.replies.specs.Replies.{entry_digits, small_change, SmallChange, with_entry, read_entries}
use Rattle.replies.specs.Replying.{behind_entry, put_if, entered_at, entered, changes_of, queue_marked}

-- a Q answer that counts n entries, so far as the entries cs are written
abbrev pub entries_frame : ℕ → ℕ → ℕ → List Change → Frame
entries_frame h l n cs = record { header = 6; high = h; low = l; body = 81 ∷ (48 + n) ∷ entry_digits cs }

abbrev pub one_entry : Change → List ℕ
one_entry c = three_digits c.output ++ three_digits c.input

entries-push : (cs : List Change) (c : Change) → entry_digits (cs ++ c ∷ []) ≡ entry_digits cs ++ one_entry c
entries-push [] c = refl
entries-push (d ∷ cs) c = ap (λ (xs : List ℕ). three_digits d.output ++ three_digits d.input ++ xs) (entries-push cs c)

pub entries-length : (cs : List Change) → length (entry_digits cs) ≡ 6 * length cs
entries-length [] = refl
entries-length (c ∷ cs) = omega (arith, entries-length cs)

-- one entry more has room behind fewer than eight
entry_fits : (h l n : ℕ) (cs : List Change) (c : Change) → length cs < 8 → fits (entries_frame h l n cs) (one_entry c) ≡ true
entry_fits h l n cs c few = le-leb _ _ (omega (arith, entries-length cs))

pub entry_taken : (f : Frame) (h l n : ℕ) (cs : List Change) (c : Change) (xs : List ℕ) (o : Result (Unit {0}) DraftFault) → f ≡ entries_frame h l n cs → length cs < 8 → xs ≡ one_entry c → o ≡ add_answer f xs → IsOk o
entry_taken f h l n cs c xs o e few x a = subst IsOk (sym (a ∙ (λ i. add_answer (e i) (x i)) ∙ cond-true _ _ _ (entry_fits h l n cs c few))) refl

pub one_more : (f g : Frame) (h l n : ℕ) (cs : List Change) (c : Change) (xs : List ℕ) → f ≡ entries_frame h l n cs → length cs < 8 → xs ≡ one_entry c → g ≡ added f xs → g ≡ entries_frame h l n (cs ++ c ∷ [])
one_more f g h l n cs c xs e few x a =
    a ∙ (λ i. added (e i) (x i)) ∙ cond-true _ _ _ (entry_fits h l n cs c few) ∙ ap (λ (b : List ℕ). record { header = 6; high = h; low = l; body = 81 ∷ (48 + n) ∷ b }) (sym (entries-push cs c))

pub small-push : (cs : List Change) (c : Change) → AllByRecursion SmallChange cs → SmallChange c → AllByRecursion SmallChange (cs ++ c ∷ [])
small-push [] c a s = (s, tt)
small-push (d ∷ cs) c a s = (a.0, small-push cs c a.1 s)

pub small_at : (cs : List Change) (i : ℕ) (d : Change) → i < length cs → AllByRecursion SmallChange cs → SmallChange (get_or cs i d)
small_at [] i d h a = absurd (omega arith)
small_at (c ∷ cs) zero d h a = a.0
small_at (c ∷ cs) (suc i) d h a = small_at cs i d (omega arith) a.1

-- the digits of a change are there exactly if both numbers have three digits
pub small : (c : Change) → Decides (small_change c) (SmallChange c)
small c = Decides-and (ltb c.output 1000) (ltb c.input 1000) (Decides-ltb c.output 1000) (Decides-ltb c.input 1000)

pub digits_of : (c : Change) (x : List ℕ) → Some x ≡ cond (small_change c) (Some (one_entry c)) None → SmallChange c × (x ≡ one_entry c)
digits_of c x e = let p = cond_some _ (one_entry c) x (sym e) in ((small c).0 p.0, sym p.1)

pub no_digits : (c : Change) → None ≡ cond (small_change c) (Some (one_entry c)) None → SmallChange c → ⊥
no_digits c e s = none-some _ (e ∙ cond-true _ _ _ ((small c).1 s))

-- ---- read

-- the entries cs and then those that were read
abbrev pub prefixed : List Change → Option (List Change) → Option (List Change)
prefixed cs None = None
prefixed cs (Some ds) = Some (cs ++ ds)

prefixed_entry : (cs : List Change) (o i : ℕ) (r : Option (List Change)) → prefixed cs (with_entry o i r) ≡ prefixed (cs ++ record { output = o; input = i } ∷ []) r
prefixed_entry cs o i None = refl
prefixed_entry cs o i (Some ds) = ap (λ (l : List Change). Some l) (sym (append_assoc cs (record { output = o; input = i } ∷ []) ds))

-- what reading one entry more leaves to be read
pub record EntryRead (k j : Kept Change) (m : ℕ) (xs ys : List ℕ) : Type 0 where
  pub left : prefixed k.items (read_entries (suc m) xs) ≡ prefixed j.items (read_entries m ys)
  pub longer : length j.items ≡ length k.items + 1
  pub mark : j.overrun ≡ k.overrun

input_read : (k : Kept Change) (m o : ℕ) (ys : List ℕ) (g : Field ℕ) → length k.items < 8 → Some ys ≡ then g (λ i b. Some b)
    → (prefixed k.items (then g (λ i b. with_entry o i (read_entries m b))) ≡ prefixed (put_if k o g).items (read_entries m ys)) × (length (put_if k o g).items ≡ length k.items + 1) × ((put_if k o g).overrun ≡ k.overrun)
input_read k m o ys None few e = absurd (none-some _ (sym e))
input_read k m o ys (Some p) few e =
    let same : ys ≡ p.1 = cc in
    let x : Change = record { output = o; input = p.0 } in
    let kept : put 8 k x ≡ record { items = k.items ++ x ∷ []; overrun = k.overrun } = cond-true _ _ _ (lt-ltb (length k.items) 8 few) in (
      prefixed_entry k.items o p.0 (read_entries m p.1) ∙ (λ i. prefixed (sym kept i).items (read_entries m (sym same i))),
      ap (λ (j : Kept Change). length j.items) kept ∙ length-append k.items (x ∷ []),
      ap (λ (j : Kept Change). j.overrun) kept,
    )

output_read : (k : Kept Change) (m : ℕ) (ys : List ℕ) (f : Field ℕ) → length k.items < 8 → Some ys ≡ then f (λ o a. then (read_number a) (λ i b. Some b))
    → (prefixed k.items (then f (λ o a. then (read_number a) (λ i b. with_entry o i (read_entries m b)))) ≡ prefixed (entered_at k f).items (read_entries m ys)) × (length (entered_at k f).items ≡ length k.items + 1) × ((entered_at k f).overrun ≡ k.overrun)
output_read k m ys None few e = absurd (none-some _ (sym e))
output_read k m ys (Some p) few e = input_read k m p.0 ys (read_number p.1) few e

pub entry_read : (k : Kept Change) (m : ℕ) (xs ys : List ℕ) → length k.items < 8 → Some ys ≡ behind_entry xs → EntryRead k (entered k xs) m xs ys
entry_read k m xs ys few e = let r = output_read k m ys (read_number xs) few e in record { left = r.0; longer = r.1; mark = r.2 }

no_input : (m o : ℕ) (g : Field ℕ) → None ≡ then {W = List ℕ} g (λ i b. Some b) → then g (λ i b. with_entry o i (read_entries m b)) ≡ None
no_input m o None e = refl
no_input m o (Some p) e = absurd (none-some _ e)

no_output : (m : ℕ) (f : Field ℕ) → None ≡ then {W = List ℕ} f (λ o a. then (read_number a) (λ i b. Some b)) → then f (λ o a. then (read_number a) (λ i b. with_entry o i (read_entries m b))) ≡ None
no_output m None e = refl
no_output m (Some p) e = no_input m p.0 (read_number p.1) e

pub no_entry : (cs : List Change) (m : ℕ) (xs : List ℕ) → None ≡ behind_entry xs → prefixed cs (read_entries (suc m) xs) ≡ None
no_entry cs m xs e = ap (prefixed cs) (no_output m (read_number xs) e)

-- nothing was read yet
prefixed_none : (r : Option (List Change)) → prefixed [] r ≡ r
prefixed_none None = refl
prefixed_none (Some ds) = refl

pub started : (n : ℕ) (k : Kept Change) (xs : List ℕ) → k ≡ empty → (prefixed k.items (read_entries (n - 0) xs) ≡ read_entries n xs) × (length k.items ≡ 0) × (k.overrun ≡ false)
started n k xs e =
    let same : n - 0 ≡ n = omega arith in
    ((λ i. prefixed (e i).items (read_entries (same i) xs)) ∙ prefixed_none (read_entries n xs), ap (λ (j : Kept Change). length j.items) e, ap (λ (j : Kept Change). j.overrun) e)

-- as many were read as were to be read: nothing may be left
all_read : (cs : List Change) (b : Bool) → cond b (Some cs) None ≡ prefixed cs (cond b (Some []) None)
all_read cs true = ap (λ (l : List Change). Some l) (sym (append-nil cs))
all_read cs false = refl

pub finished : (n i : ℕ) (cs : List Change) (xs : List ℕ) (b : Bool) → n ≤ i → b ≡ eqb (length xs) 0 → cond b (Some cs) None ≡ prefixed cs (read_entries (n - i) xs)
finished n i cs xs b h e =
    let same : n - i ≡ 0 = omega arith in
    all_read cs b ∙ ap (λ (t : Bool). prefixed cs (cond t (Some []) None)) e ∙ ap (λ (m : ℕ). prefixed cs (read_entries m xs)) (sym same)

-- a queue that was read is told if nothing is left
pub queue_told : (b : Bool) (q : KeptList Change 8) → changes_of (then_some b q) ≡ cond b (Some (queued q).items) None
queue_told true q = refl
queue_told false q = refl

pub unmarked_told : (b : Bool) (q : KeptList Change 8) → (queued q).overrun ≡ false → queue_marked (then_some b q) ≡ false
unmarked_told true q e = e
unmarked_told false q e = refl
