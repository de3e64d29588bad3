use Rattle.std.proofs.Common.{rules}
use Rattle.model.proofs.Whole.{does}
use Rattle.controller.proofs.controller.Controller.write.Goals as goal

pub returns-then-not-is_in_range : goal.returns-then-not-is_in_range
returns-then-not-is_in_range g c = does _ _ _ _ (search rules)

pub returns : goal.returns
returns g c = does _ _ _ _ (search rules)
