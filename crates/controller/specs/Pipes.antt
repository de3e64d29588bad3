-- What a command of a pipe's number finds.
use Rattle.std.specs.Prelude.{Some, None, Option, Ok, Err, Result}
use Rattle.model.specs.declared.pipe.Area.{Area}
use Rattle.model.specs.declared.pipe.Pipe.{Pipe}
use Rattle.controller.specs.declared.answers.PipeRefusal.{PipeRefusal}
use Rattle.controller.specs.declared.answers.PipeRefusal.TheVariants.{NoArea, NoPipe}

-- is there an area? and a pipe?
abbrev pub found : Option Area → Option Pipe → Result (Area × Pipe) PipeRefusal
found None p = Err NoArea
found (Some a) None = Err NoPipe
found (Some a) (Some p) = Ok (a, p)
