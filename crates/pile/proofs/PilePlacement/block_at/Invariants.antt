use Rattle.std.proofs.Common.{◌≡◌, vec_items}
use Rattle.volume.specs.Layouts.{BlockAt}
use Rattle.pile.proofs.Rising.{lowest}
use Rattle.pile.proofs.PilePlacement.block_at.Given as goal

abbrev pub invariant-loop-upper : goal.invariant-loop-upper
invariant-loop-upper g l = record {
  counted : l.there ≡ (lowest g.P.Placement.layout l.self.bottom (vec_items l.self.above) l.upper-index).count;
  found : BlockAt (lowest g.P.Placement.layout l.self.bottom (vec_items l.self.above) l.upper-index) l.place l.block;
}
