-- Runs of places that follow one another.
use Rattle.std.specs.Prelude.{◌≡◌, ℕ, ◌+◌, ◌<◌, ◌≤◌, List, [], ◌∷◌, ◌++◌, Option, MatchOption}
use Rattle.std.specs.List.{range_with_len, flat_map}
use Rattle.pile.specs.declared.runs.Run.{Run}

-- the places of a run, counted out
abbrev pub places_of : Run → List ℕ
places_of run = range_with_len run.first run.count

-- the places of all runs, in order
abbrev pub spelled : List Run → List ℕ
spelled runs = flat_map places_of runs

abbrev pub InRun : Run → ℕ → Type 0
InRun run p = (run.first ≤ p) × (p < run.first + run.count)

-- r is a place in both, and None where no place is
abbrev pub InBoth : (ℕ → Type 0) → (ℕ → Type 0) → Option ℕ → Type 0
InBoth A B r = MatchOption r ((p : ℕ) → A p → B p → ⊥) (λ p. A p × B p)

-- the next run, if there is one, does not begin where this one ends
abbrev pub Stops : Run → List Run → Type 0
Stops run [] = Unit {0}
Stops run (next ∷ runs) = run.first + run.count ≡ next.first → ⊥

-- no run is empty, and none goes on in the next
abbrev pub Longest : List Run → Type 0
Longest [] = Unit {0}
Longest (run ∷ runs) = (0 < run.count) × Stops run runs × Longest runs

-- after is before with one more place at the end
abbrev pub Placed : List Run → List Run → ℕ → Type 0
Placed before after place = (spelled after ≡ spelled before ++ place ∷ []) × (Longest before → Longest after)
