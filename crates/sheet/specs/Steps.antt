-- What the parts of the reader give, each by how it stands to the outcome of the text.
use Rattle.std.specs.Prelude.{◌≡◌, ◌≢◌, ℕ, ◌+◌, ◌<◌, ◌≤◌, List, [], ◌∷◌, ◌++◌, length, drop, slice_index}
use Rattle.sheet.specs.declared.fault.Fault.{Fault}
use Rattle.sheet.specs.declared.reader.Reader.{Reader}
use Rattle.sheet.specs.Records.{Outcome, Byte, Place, mark_of, parted, from, record_of, front, read, behind, Faults}
use Rattle.sheet.specs.Readers.{text_left, lines_passed}

-- the outcome behind whole fields, at what parts or ends them
abbrev pub ended : List (List ℕ) → ℕ → List ℕ → Outcome
ended fields n text = parted (mark_of text) fields n text (from front fields [] n (drop 1 text)) (behind (n + 1))

-- inside a quote: no text is left, or it begins with the closing quote
abbrev pub EndsQuote : List ℕ → Type 0
EndsQuote text = (0 < length text → slice_index text 0 ≡ 34) × (slice_index text 1 ≢ 34)

-- the outcome of what a reader stands before, from such a place on, behind whole fields and a part of a field
abbrev pub from_reader : Place → List (List ℕ) → List ℕ → Reader → Outcome
from_reader place fields field r = from place fields field (lines_passed r) (text_left r)

-- from such a place on, the field ends where the new reader stands
pub record FieldTo (place : Place) (old : Reader) (field : List ℕ) (new : Reader) : Type 0 where
  pub within : length (text_left new) ≤ length (text_left old)
  pub stops : mark_of (text_left new) ≢ Byte
  pub reads : (fields : List (List ℕ)) → from_reader place fields [] old ≡ ended (fields ++ field ∷ []) (lines_passed new) (text_left new)

abbrev pub FieldFaults : Place → Reader → Fault → Type 0
FieldFaults place r fault = (fields : List (List ℕ)) → Faults fault (from_reader place fields [] r)

-- the old reader stands before a record of these fields, and the new one behind it
pub record RecordTo (old : Reader) (fields : List (List ℕ)) (new : Reader) : Type 0 where
  pub reads : record_of (lines_passed old) (text_left old) ≡ read fields (lines_passed new) (text_left new)
  pub shorter : 0 < length (text_left old) → length (text_left new) < length (text_left old)

abbrev pub RecordFaults : Reader → Fault → Type 0
RecordFaults r fault = Faults fault (record_of (lines_passed r) (text_left r))
