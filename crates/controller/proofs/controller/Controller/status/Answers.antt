use Rattle.model.proofs.Whole.{does}
use Rattle.controller.specs.Worlds.{world_of}
use Rattle.controller.proofs.Told.{told}
use Rattle.controller.proofs.controller.Controller.status.Goals as goal

pub returns-clause-does : goal.returns-clause-does
returns-clause-does g c =
    does _ _ _ _ (told (world_of g.V.Volume.meaning c.args.self.now) _ _ c.args.into.now c.put.new.out c.put.result c.put.ensures.count c.put.ensures.after)
