use Rattle.std.proofs.Common.{rules}
use Rattle.model.proofs.Whole.{does}
use Rattle.controller.proofs.controller.Controller.initialize_semaphores.Goals as goal

pub returns : goal.returns
returns g c = does _ _ _ _ (search rules)
