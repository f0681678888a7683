-- One entry more is read behind those before it, until none is to be read.
use Rattle.std.proofs.Common.{◌≡◌, ℕ, suc, ◌+◌, ◌-◌, ◌<◌, length, sym, refl, ap, ◌∙◌, arith}
use Rattle.wire.specs.Kept.{Kept}
use Rattle.replies.specs.declared.change.Change.{Change}
use Rattle.replies.specs.Queues.{queued}
use Rattle.replies.specs.Replies.{read_entries}
use Rattle.replies.specs.Replying.{changes_of, queue_marked}
use Rattle.replies.proofs.Entries.{prefixed, entry_read, no_entry, started, finished, queue_told, unmarked_told}
use Rattle.replies.proofs.reply.reading.read_entries.Goals as goal

pub loop-read-init : goal.loop-read-init
loop-read-init c = started c.args.n (queued c.new-queue.result) c.args.s.now c.new-queue.ensures

pub loop-read-preserved : goal.loop-read-preserved
loop-read-preserved c =
    let n = c.args.n in
    let i = c.loop-read._read in
    let k = queued c.loop-read.queue in
    let xs = c.loop-read.rest.now in
    let one_less : n - i ≡ suc (n - (i + 1)) = omega arith in
    let few : length k.items < 8 = omega (arith, c.loop-read.invariant.1, c.requires) in
    let more = entry_read k (n - (i + 1)) xs c.in_ok-rest.rest.now few c.in_ok-rest.ensures.answer in
    let after = c.read_entry.ensures.after in (
      ap (λ (j : Kept Change). prefixed j.items (read_entries (n - (i + 1)) c.in_ok-rest.rest.now)) after
          ∙ sym more.left ∙ ap (λ (m : ℕ). prefixed k.items (read_entries m xs)) (sym one_less) ∙ c.loop-read.invariant.0,
      ap (λ (j : Kept Change). length j.items) after ∙ more.longer ∙ ap (λ (m : ℕ). m + 1) c.loop-read.invariant.1,
      ap (λ (j : Kept Change). j.overrun) after ∙ more.mark ∙ c.loop-read.invariant.2,
    )

pub returns-in_err-rest : goal.returns-in_err-rest
returns-in_err-rest c =
    let n = c.args.n in
    let i = c.loop-read._read in
    let k = queued c.loop-read.queue in
    let xs = c.loop-read.rest.now in
    let one_less : n - i ≡ suc (n - (i + 1)) = omega arith in
    rw c.from_residual.ensures (record {
      answer = sym (no_entry k.items (n - (i + 1)) xs c.in_err-rest.ensures.answer) ∙ ap (λ (m : ℕ). prefixed k.items (read_entries m xs)) (sym one_less) ∙ c.loop-read.invariant.0;
      unmarked = refl;
    })

pub returns-clause-answer : goal.returns-clause-answer
returns-clause-answer c =
    let q = c.loop-read.queue in
    ap changes_of c.then_some.ensures ∙ queue_told c.is_empty.result q ∙ finished c.args.n c.loop-read._read (queued q).items c.loop-read.rest.now c.is_empty.result c.loop-read-test.false c.is_empty.ensures ∙ c.loop-read.invariant.0

pub returns-clause-unmarked : goal.returns-clause-unmarked
returns-clause-unmarked c = ap queue_marked c.then_some.ensures ∙ unmarked_told c.is_empty.result c.loop-read.queue c.loop-read.invariant.2
