-- The controller's tables and its volume, and questions in turn.
use Rattle.std.specs.Prelude.{ℕ, Bool, cond, List, [], ◌∷◌, Some, None, Option}
use Rattle.volume.specs.Meanings.{Meaning}
use Rattle.model.specs.declared.pipe.Pipe.{Pipe}
use Rattle.model.specs.declared.pipe.Area.{Area}
use Rattle.model.specs.Answers.{Answer}

pub record World : Type 0 where
  -- 32 names, each its eight bytes as one number, the first byte the most significant
  pub semaphores : List ℕ
  pub area : Option Area
  -- in the table's order; entries 0 and 63 are the area's two ends and stand in no list
  pub pipes : List Pipe
  pub volume : Meaning

abbrev pub with_semaphores : World → List ℕ → World
with_semaphores w names = record { semaphores = names; area = w.area; pipes = w.pipes; volume = w.volume }

abbrev pub with_pipes : World → List Pipe → World
with_pipes w pipes = record { semaphores = w.semaphores; area = w.area; pipes = pipes; volume = w.volume }

abbrev pub with_volume : World → Meaning → World
with_volume w volume = record { semaphores = w.semaphores; area = w.area; pipes = w.pipes; volume = volume }

-- Questions in turn: the first that is answered no gives the answer, and then nothing changes.
abbrev pub ask : World → List (Bool × Answer) → Answer × World → Answer × World
ask w [] done = done
ask w (q ∷ qs) done = cond q.0 (ask w qs done) (q.1, w)

-- Is there one? No: this answer, and nothing changes.
abbrev pub given : {X : Type 0} → World → Option X → Answer → (X → Answer × World) → Answer × World
given w None otherwise done = (otherwise, w)
given w (Some x) otherwise done = done x
