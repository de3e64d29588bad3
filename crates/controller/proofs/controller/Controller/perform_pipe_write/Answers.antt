use Rattle.std.proofs.Common.{◌≡◌, ℕ, List, subst, ◌∙◌, arith, rules}
use Rattle.std.proofs.lemmas.List.{take_all}
use Rattle.packet.specs.Commands.{pipe_write}
use Rattle.model.specs.Steps.{obey}
use Rattle.controller.specs.Serves.{Performed}
use Rattle.controller.specs.Worlds.{world_of}
use Rattle.controller.proofs.controller.Controller.perform_pipe_write.Goals as goal

pub returns : goal.returns
returns g c =
    let m = g.V.Volume.meaning in
    let chunk = rw c.unwrap-block.ensures at c.first_chunk.ensures.cases in
    let same : c.unwrap-block.result.now ≡ c.args.bytes.now = chunk.same ∙ take_all 512 c.args.bytes.now (omega (arith, c.requires)) in
    subst (λ (b : List ℕ). Performed (obey (world_of m c.args.self.now) (pipe_write c.args.number c.args.count b)) c.reply.result c.args.reply.now c.reply.new.reply (world_of m c.obey_pipe_write.new.self)) same
    (search rules)
