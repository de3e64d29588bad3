use Rattle.std.proofs.Common.{◌≡◌, take}
use Rattle.volume.specs.Parts.{with_part}
use Rattle.model.specs.Tables.{bytes_of}
use Rattle.status.proofs.rows.put_rows.Given as goal

abbrev pub invariant-loop-i : goal.invariant-loop-i
invariant-loop-i g l = l.out ≡ with_part l.initial.out l.from (bytes_of g.R.Row.bytes (take l.i l.rows))
