use Rattle.model.proofs.Whole.{does}
use Rattle.controller.proofs.ends.End.close.Goals as goal

pub returns : goal.returns
returns g c = does _ _ _ _ c.obey_close.ensures
