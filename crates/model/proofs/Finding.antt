-- What a search by number finds, as std's `find` gives it.
use Rattle.std.proofs.Common.{◌≡◌, ℕ, cond, List, Some, refl}
use Rattle.std.specs.List as words
use Rattle.std.proofs.lemmas.List.Recursion.{same_from_clauses}
use Rattle.model.specs.declared.pipe.Pipe.{Pipe}
use Rattle.model.specs.Pipes.{numbered, find}

pub find_told : (k : ℕ) (ps : List Pipe) → words.find (numbered k) ps ≡ find k ps
find_told k = same_from_clauses (words.find (numbered k)) (find k) (λ p o. cond (numbered k p) (Some p) o) refl (λ _ _. refl) (λ _ _. refl)
