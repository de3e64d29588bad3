use Rattle.std.proofs.Common.{length, map, vec_items}
use Rattle.sheet.specs.Readers.{text_left}
use Rattle.sheet.proofs.Places.{RecordOn}
use Rattle.sheet.proofs.reader.Reader.read_fields.Given as goal

abbrev pub invariant-loop-fields : goal.invariant-loop-fields
invariant-loop-fields l = RecordOn l.initial.self (map vec_items (vec_items l.fields)) l.self

abbrev pub decreases-loop-fields : goal.decreases-loop-fields
decreases-loop-fields l = length (text_left l.self)
