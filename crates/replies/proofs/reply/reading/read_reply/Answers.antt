-- The end is judged before the body: ETX, then the check byte.
use Rattle.std.proofs.Common.{get_or, sym, ap, ◌∙◌, rules}
use Rattle.std.proofs.lemmas.Result.{err_from_is_err_and}
use Rattle.replies.specs.Replies.{with_address}
use Rattle.replies.proofs.OnlyWritten.{only_written}
use Rattle.replies.proofs.Ends.{no_etx, wrong_check, right_check}
use Rattle.replies.proofs.reply.reading.read_reply.Goals as goal

pub returns-then-etx-ne-ETX-clause-answer : goal.returns-then-etx-ne-ETX-clause-answer
returns-then-etx-ne-ETX-clause-answer c = no_etx c.args.bytes.now (search rules) c.if-etx-ne-ETX.true

pub returns-then-check-check_byte-clause-answer : goal.returns-then-check-check_byte-clause-answer
returns-then-check-check_byte-clause-answer c = wrong_check c.args.bytes.now (search rules) c.if-etx-ne-ETX.false (λ e. c.if-check-check_byte.true (e ∙ sym c.check_byte.ensures))

pub returns-in_err-reply-clause-answer : goal.returns-in_err-reply-clause-answer
returns-in_err-reply-clause-answer c =
    let bytes = c.args.bytes.now in
    let p = err_from_is_err_and c.from_residual.result c.from_residual.ensures.1 in
    rw (p.1, p.2) (ap (with_address (get_or bytes 1 0) (get_or bytes 2 0)) c.in_err-reply.ensures.answer ∙ right_check bytes (search rules) c.if-etx-ne-ETX.false (c.if-check-check_byte.false ∙ c.check_byte.ensures))

pub returns-clause-answer : goal.returns-clause-answer
returns-clause-answer c =
    let bytes = c.args.bytes.now in
    ap (with_address (get_or bytes 1 0) (get_or bytes 2 0)) c.in_ok-reply.ensures.answer ∙ right_check bytes (search rules) c.if-etx-ne-ETX.false (c.if-check-check_byte.false ∙ c.check_byte.ensures)

pub returns-then-etx-ne-ETX-clause-law : goal.returns-then-etx-ne-ETX-clause-law
returns-then-etx-ne-ETX-clause-law c = only_written c.args.bytes.now

pub returns-then-check-check_byte-clause-law : goal.returns-then-check-check_byte-clause-law
returns-then-check-check_byte-clause-law c = only_written c.args.bytes.now

pub returns-in_err-reply-clause-law : goal.returns-in_err-reply-clause-law
returns-in_err-reply-clause-law c = only_written c.args.bytes.now

pub returns-clause-law : goal.returns-clause-law
returns-clause-law c = only_written c.args.bytes.now
