use Rattle.std.proofs.Common.{rules}
use Rattle.model.proofs.Whole.{does}
use Rattle.controller.proofs.controller.Controller.open_read.Goals as goal

pub returns-in_err-obey_open_read : goal.returns-in_err-obey_open_read
returns-in_err-obey_open_read g c = does _ _ _ _ (search rules)

pub returns : goal.returns
returns g c = does _ _ _ _ (search rules)
