-- What is promised of every reply is shown for all of them at once.
use Rattle.replies.specs.Replying.{reply_of}
use Rattle.replies.proofs.Fitting.{test_tells, short}
use Rattle.replies.proofs.ReadBack.{reads_back}
use Rattle.replies.proofs.reply.writing.write_reply.Goals as goal

pub returns-clause-test : goal.returns-clause-test
returns-clause-test c = test_tells (reply_of c.args.reply.now)

pub returns-clause-short : goal.returns-clause-short
returns-clause-short c = short (reply_of c.args.reply.now)

pub returns-clause-law : goal.returns-clause-law
returns-clause-law c = reads_back c.args.address.high c.args.address.low (reply_of c.args.reply.now)
