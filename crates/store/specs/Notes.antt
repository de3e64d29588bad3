-- What is noted of a write.
use Rattle.std.specs.Prelude.{ℕ, Some, Option, Ok, Err, Result}
use Rattle.volume.specs.declared.answers.WriteRefusal.{WriteRefusal}

-- the note after a write of block n: a refused one leaves it
abbrev pub noted_by : Result (Unit {0}) WriteRefusal → ℕ → Option ℕ → Option ℕ
noted_by (Ok u) n last = Some n
noted_by (Err refusal) n last = last
