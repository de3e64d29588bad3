-- What a reader stands before, and what its next record is.
use Rattle.std.specs.Prelude.{◌≡◌, ℕ, ◌+◌, ◌<◌, cond, ◌&&◌, List, map, length, drop, Some, None, Ok, Err, vec_items, Option, Result, ◌==◌, slice_index}
use Rattle.sheet.specs.declared.fault.Fault.{Fault}
use Rattle.sheet.specs.declared.reader.Reader.{Reader}
use Rattle.sheet.specs.declared.reader.records.Record.{Record}
use Rattle.sheet.specs.Records.{record_of, read, Faults}

abbrev pub text_left : Reader → List ℕ
text_left r = r.left.now

abbrev pub lines_passed : Reader → ℕ
lines_passed r = r.lines

-- the text behind the UTF-8 mark, where it begins with one
abbrev pub unmarked : List ℕ → List ℕ
unmarked text = cond (slice_index text 0 == 0xEF && (slice_index text 1 == 0xBB && slice_index text 2 == 0xBF)) (drop 3 text) text

-- the record that the text behind n line ends begins with, and what is left behind it
pub record Got (n : ℕ) (text : List ℕ) (r : Record) (n' : ℕ) (text' : List ℕ) : Type 0 where
  pub line : r.line ≡ n + 1
  pub reads : record_of n text ≡ read (map vec_items (vec_items r.fields)) n' text'
  pub shorter : length text' < length text

abbrev pub Next : ℕ → List ℕ → Result (Option Record) Fault → ℕ → List ℕ → Type 0
Next n text (Ok (Some r)) n' text' = Got n text r n' text'
Next n text (Ok None) n' text' = (length text ≡ 0) × (n' ≡ n) × (text' ≡ text)
Next n text (Err fault) n' text' = Faults fault (record_of n text) × (n' ≡ n) × (text' ≡ text)
