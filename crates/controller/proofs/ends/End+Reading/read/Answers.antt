use Rattle.model.proofs.Whole.{does}
use Rattle.controller.proofs.ends.«End+Reading».read.Goals as goal

pub returns-clause-does : goal.returns-clause-does
returns-clause-does g c = does _ _ _ _ c.obey_pipe_read.ensures.defined
