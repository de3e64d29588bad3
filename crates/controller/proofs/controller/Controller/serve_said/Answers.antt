use Rattle.std.proofs.Common.{arith}
use Rattle.controller.proofs.Served.{served_command}
use Rattle.controller.proofs.controller.Controller.serve_said.Goals as goal

pub returns-in-Ok : goal.returns-in-Ok
returns-in-Ok g c =
    served_command _ c.args.packet.now c.args.reply.now _ _ _ _ (omega arith) c.in-Ok.ensures.says c.perform.ensures
