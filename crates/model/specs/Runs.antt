-- Histories of requests and their answers, and the runs from the making.
use Rattle.std.specs.Prelude.{◌≡◌, List, [], ◌∷◌, None}
use Rattle.volume.specs.Meanings.{Sound}
use Rattle.model.specs.Answers.{Answer}
use Rattle.model.specs.Worlds.{World}
use Rattle.model.specs.Semaphores.{no_names}
use Rattle.model.specs.Steps.{Request, step}

pub record Event : Type 0 where
  pub request : Request
  pub answer : Answer

-- the newest event first
abbrev pub History : Type 0
History = List Event

abbrev pub requests : History → List Request
requests [] = []
requests (e ∷ h) = e.request ∷ requests h

-- The making: every semaphore entry blank, no pipe area, any sound volume.
pub record Making (w : World) : Type 0 where
  pub semaphores : w.semaphores ≡ no_names
  pub area : w.area ≡ None
  pub pipes : w.pipes ≡ []
  pub volume : Sound w.volume

-- From the world w₀ the history leads to the world.
pub data Run (w₀ : World) : History → World → Type 0 where
  start : Run w₀ [] w₀
  then : {h : History} {v w : World} {r : Request} {a : Answer} → Run w₀ h v → step v r ≡ (a, w) → Run w₀ (record { request = r; answer = a } ∷ h) w
