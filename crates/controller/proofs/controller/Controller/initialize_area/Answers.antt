use Rattle.model.proofs.Whole.{does}
use Rattle.controller.proofs.controller.Controller.initialize_area.Goals as goal

pub returns : goal.returns
returns g c = does _ _ _ _ c.obey_area.ensures
