use Rattle.std.proofs.Common.{vec_items}
use Rattle.pile.proofs.Spelling.{PlacesIn}
use Rattle.pile.proofs.runs.runs_of.Given as goal

abbrev pub invariant-loop-n : goal.invariant-loop-n
invariant-loop-n g l = PlacesIn (vec_items l.runs) (g.P.Placement.layout l.placement) l.n
