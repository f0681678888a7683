-- One entry more stands behind those before it; a number that has no three digits ends the writing.
use Rattle.std.proofs.Common.{◌≡◌, ℕ, ◌+◌, ◌<◌, List, Some, [], ◌∷◌, ◌++◌, length, get_or, take, sym, ap, ◌∙◌, subst, arith, take_all}
use Rattle.std.specs.List.{AllByRecursion}
use Rattle.std.proofs.lemmas.List.{take_more, length-take-le}
use Rattle.wire.specs.Frames.{Frame, added, on_line}
use Rattle.replies.specs.Queues.{queued}
use Rattle.replies.specs.Replies.{SmallChange, ack, changes}
use Rattle.replies.proofs.Fitting.{refused, written}
use Rattle.replies.proofs.Entries.{entries_frame, entry_taken, one_more, small-push, small_at, digits_of, no_digits}
use Rattle.replies.proofs.reply.writing.write_changes.Goals as goal

pub loop-change-init : goal.loop-change-init
loop-change-init c = (c.add_all.ensures.after ∙ ap (λ (f : Frame). added f (81 ∷ (48 + length c.as_slice-changes.result.now) ∷ [])) c.new-draft.ensures, tt)

pub unwrap-requires-in-loop-change : goal.unwrap-requires-in-loop-change
unwrap-requires-in-loop-change c =
    let cs = c.as_slice-changes.result.now in
    let i = c.loop-change.change-index in
    let x = get_or cs i (record { output = 0; input = 0 }) in
    let shorter : length (take i cs) < 8 = omega (arith, length-take-le i cs (omega (arith, c.loop-change-test.true)), c.loop-change-test.true, c.as_slice-changes.ensures.few) in
    let digits = digits_of x c.in_ok-digits.digits c.in_ok-digits.ensures in
    entry_taken _ c.args.address.high c.args.address.low (length cs) (take i cs) x _ _ c.loop-change.invariant.0 shorter digits.1 c.add_all-in-loop-change.ensures.answer

pub loop-change-preserved : goal.loop-change-preserved
loop-change-preserved c =
    let cs = c.as_slice-changes.result.now in
    let i = c.loop-change.change-index in
    let x = get_or cs i (record { output = 0; input = 0 }) in
    let taken = c.loop-change-test.true in
    let few = c.as_slice-changes.ensures.few in
    let more : take (i + 1) cs ≡ take i cs ++ x ∷ [] = take_more cs i _ taken in
    let shorter : length (take i cs) < 8 = omega (arith, length-take-le i cs (omega arith)) in
    let digits = digits_of x c.in_ok-digits.digits c.in_ok-digits.ensures in
    let n = length cs in (
      one_more _ _ c.args.address.high c.args.address.low n (take i cs) x _ c.loop-change.invariant.0 shorter digits.1 c.add_all-in-loop-change.ensures.after ∙ ap (entries_frame c.args.address.high c.args.address.low n) (sym more),
      subst (AllByRecursion SmallChange) (sym more) (small-push (take i cs) x c.loop-change.invariant.1 digits.0),
    )

pub returns-in_err-digits : goal.returns-in_err-digits
returns-in_err-digits c =
    let cs = c.as_slice-changes.result.now in
    let i = c.loop-change.change-index in
    let x = get_or cs i (record { output = 0; input = 0 }) in
    rw c.from_residual.ensures (
    refused c.args.address.high c.args.address.low (ack (changes (queued c.args.queue.now).items))
    (λ f. no_digits x c.in_err-digits.ensures (small_at cs i _ c.loop-change-test.true (subst (AllByRecursion SmallChange) (sym c.as_slice-changes.ensures.value) f.1)))
    )

pub returns : goal.returns
returns c =
    let cs = c.as_slice-changes.result.now in
    let all : take c.loop-change.change-index cs ≡ cs = take_all _ _ c.loop-change-test.false in
    let value = c.as_slice-changes.ensures.value in
    let few = c.as_slice-changes.ensures.few in
    let small : AllByRecursion SmallChange cs = subst (AllByRecursion SmallChange) all c.loop-change.invariant.1 in
    ap (λ (b : List ℕ). Some b) (c.seal.ensures.value ∙ ap on_line (c.loop-change.invariant.0 ∙ ap (entries_frame c.args.address.high c.args.address.low (length cs)) all ∙ (λ i. entries_frame c.args.address.high c.args.address.low (length (value i)) (value i))))
    ∙ written c.args.address.high c.args.address.low (ack (changes (queued c.args.queue.now).items)) (omega (arith, few, ap length value), subst (AllByRecursion SmallChange) value small)
