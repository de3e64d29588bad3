use Rattle.std.proofs.Common.{length, vec_items}
use Rattle.sheet.specs.Records.{plain}
use Rattle.sheet.specs.Readers.{text_left}
use Rattle.sheet.proofs.Places.{FieldOn}
use Rattle.sheet.proofs.reader.Reader.read_plain.Given as goal

abbrev pub invariant-loop-byte : goal.invariant-loop-byte
invariant-loop-byte l = FieldOn plain l.initial.self (vec_items l.field) l.self

abbrev pub decreases-loop-byte : goal.decreases-loop-byte
decreases-loop-byte l = length (text_left l.self)
