-- What a controller is on paper.
use Rattle.volume.specs.Meanings.{Meaning}
use Rattle.model.specs.Worlds.{World}
use Rattle.tables.specs.Names.{names_of}
use Rattle.tables.specs.Entries.{pipes_of}
use Rattle.controller.specs.declared.controller.Controller.{Controller}

abbrev pub world_of : {V : Type 0} → (V → Meaning) → Controller V → World
world_of meaning c = record {
  semaphores = names_of c.tables.semaphores;
  area = c.tables.area;
  pipes = pipes_of c.tables.pipes;
  volume = meaning c.volume;
}
