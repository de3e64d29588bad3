use Rattle.std.proofs.Common.{arith}
use Rattle.std.proofs.lemmas.Grind.{common_steps}
use Rattle.model.proofs.Whole.{does}
use Rattle.controller.proofs.controller.Controller.unlock.Goals as goal

pub returns : goal.returns
returns g c = does _ _ _ _ (grind (arith, common_steps))
