-- The pipes that a pipe table holds.
use Rattle.std.specs.Prelude.{List}
use Rattle.model.specs.declared.pipe.Pipe.{Pipe}
use Rattle.tables.specs.declared.pipes.Pipes.{Pipes}

abbrev pub pipes_of : Pipes → List Pipe
pipes_of t = t.entries.items
