use Rattle.std.proofs.Common.{◌≡◌, subst, rules}
use Rattle.model.specs.Answers.{Answer, no_block}
use Rattle.controller.specs.Answers.{pipe_read_answer}
use Rattle.controller.specs.Serves.{Replies}
use Rattle.controller.proofs.reply.reply_pipe_read.Goals as goal

pub returns-else-by_volume : goal.returns-else-by_volume
returns-else-by_volume c =
    let is : no_block c.byte-else-by_volume.result ≡ pipe_read_answer c.args.answered c.args.block.now = search rules in
    subst (λ (a : Answer). Replies a c.reply_no_block.result c.args.reply.now c.reply_no_block.new.reply) is c.reply_no_block.ensures
