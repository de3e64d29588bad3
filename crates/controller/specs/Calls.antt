-- What a call that reads leaves in its buffer, and the answer that stands there.
use Rattle.std.specs.Prelude.{ℕ, List, take, Ok, Err, Result, Some, None, Option}
use Rattle.build.specs.Builds.{front}
use Rattle.model.specs.Answers.{Answer, refused, tables}
use Rattle.controller.specs.declared.answers.SectorRefusal.{SectorRefusal}

-- the bytes at the front of what it held, or all as it was
abbrev pub read_into : Result (Unit {0}) SectorRefusal → List ℕ → List ℕ → List ℕ
read_into (Ok u) bytes before = front bytes before
read_into (Err r) bytes before = before

-- the first n bytes of the buffer, or for an unknown selector refusal 6
abbrev pub status_answer : Option ℕ → List ℕ → Answer
status_answer (Some n) after = tables (take n after)
status_answer None after = refused 6

abbrev pub status_into : Option ℕ → List ℕ → List ℕ → List ℕ
status_into (Some n) after before = front (take n after) before
status_into None after before = before
