use Rattle.std.proofs.Common.{◌≡◌, drop}
use Rattle.model.specs.Gaps.{gaps, most, best_gap}
use Rattle.model.specs.Pipes.{is_writing}
use Rattle.model.specs.Sectors.{area_end}
use Rattle.tables.proofs.pipes.Pipes.best_gap.Given as goal

abbrev pub invariant-loop-i : goal.invariant-loop-i
invariant-loop-i l = record {
  counted : l.below.pipes ≡ l.i;
  best : most l.best (gaps l.below.pipes (is_writing l.below.access) l.below.end (drop l.i l.pipe-items) (area_end l.area)) ≡ best_gap l.area l.pipe-items;
}
