use Rattle.std.proofs.Common.{rules}
use Rattle.model.proofs.Whole.{does}
use Rattle.controller.proofs.controller.Controller.lock.Goals as goal

pub returns-in_err-obey_lock-clause-does : goal.returns-in_err-obey_lock-clause-does
returns-in_err-obey_lock-clause-does g c = does _ _ _ _ (search rules)

pub returns-clause-does : goal.returns-clause-does
returns-clause-does g c = does _ _ _ _ (search rules)
