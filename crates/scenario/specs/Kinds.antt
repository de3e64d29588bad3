-- The word of each kind of volume.
use Rattle.std.specs.Prelude.{◌≡◌, ◌≢◌, ℕ, List, Ok, Err, Result, codes}
use Rattle.scenario.specs.declared.line.Kind.{Kind}
use Rattle.scenario.specs.declared.line.Kind.TheVariants.{Work, Shelf, Bank}
use Rattle.scenario.specs.declared.line.UnknownKind.{UnknownKind}

abbrev pub word_of : Kind → List ℕ
word_of Work = codes "work"
word_of Shelf = codes "shelf"
word_of Bank = codes "bank"

-- a word names the kind whose word it is, and another word none
abbrev pub Names : List ℕ → Result Kind UnknownKind → Type 0
Names word (Ok kind) = word ≡ word_of kind
Names word (Err e) = (kind : Kind) → word ≢ word_of kind
