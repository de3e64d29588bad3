-- The first place whose entry passes a test.
use Rattle.std.specs.Prelude.{ℕ, suc, ◌<◌, Bool, cond, List, [], ◌∷◌, Some, None, Option}

abbrev pub later : Option ℕ → Option ℕ
later None = None
later (Some i) = Some (suc i)

abbrev pub place : {X : Type 0} → (X → Bool) → List X → Option ℕ
place test [] = None
place test (x ∷ xs) = cond (test x) (Some 0) (later (place test xs))

-- what is found stands among the n entries
abbrev pub PlaceWithin : Option ℕ → ℕ → Type 0
PlaceWithin None n = Unit {0}
PlaceWithin (Some i) n = i < n
