use Rattle.std.proofs.Common.{◌-◌, length, vec_items}
use Rattle.pile.proofs.Rising.{Lowered}
use Rattle.pile.proofs.PilePlacement.place.Given as goal

abbrev pub invariant-loop-upper : goal.invariant-loop-upper
invariant-loop-upper g l = record {
  can : (goal.iterator-loop-upper g).can_next l.upper-iterator;
  finite : (goal.iterator-loop-upper g).is_finite l.upper-iterator;
  lowered : Lowered g.P.Placement.layout l.self.bottom (vec_items l.self.above) l.n (length (vec_items l.self.above) - length l.yielded) l.block;
}
