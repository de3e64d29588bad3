use Rattle.std.proofs.Common.{◌≡◌, ◌∷◌, ◌++◌, drop, vec_items}
use Rattle.sheet.specs.Rows.{doubled}
use Rattle.sheet.proofs.quotes.quote.Given as goal

abbrev pub invariant-loop-byte : goal.invariant-loop-byte
invariant-loop-byte l = vec_items l.out ++ doubled (drop l.byte-index l.field) ≡ 34 ∷ doubled l.field
