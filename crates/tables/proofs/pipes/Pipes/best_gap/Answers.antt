use Rattle.std.proofs.Common.{false, refl, ap, ◌∙◌}
use Rattle.model.specs.declared.pipe.Gap.{Gap}
use Rattle.model.specs.Gaps.{gap, gaps, most, no_gap, best_gap}
use Rattle.model.specs.Pipes.{is_writing}
use Rattle.model.specs.Sectors.{area_end}
use Rattle.tables.proofs.Walks.{no_gap_made, gaps-more, gaps_all}
use Rattle.tables.proofs.pipes.Pipes.best_gap.Goals as goal

pub loop-i-init : goal.loop-i-init
loop-i-init c =
    let ps = c.pipes-pipe-items.result.now in
    let made = no_gap_made c.default-best.result c.default-best.ensures in
    record {
      counted = refl;
      best = ap (λ (g : Gap). most g (gaps 0 false c.from.result ps (area_end c.args.area))) made ∙ ap (λ n. most no_gap (gaps 0 false n ps (area_end c.args.area))) c.from.ensures;
    }

pub loop-i-preserved : goal.loop-i-preserved
loop-i-preserved c = record {
  counted = refl;
  best =
      gaps-more c.pipes-pipe-items.result.now c.loop-i.i c.loop-i.below.pipes c.loop-i.invariant.counted (is_writing c.loop-i.below.access) c.loop-i.below.end (area_end c.args.area) c.loop-i.best
      _ c.gap_to.result c.wider-best.result c.loop-i-test.true c.gap_to.ensures c.wider-best.ensures
      ∙ c.loop-i.invariant.best;
}

pub returns : goal.returns
returns c =
    let b = c.loop-i.below in
    gaps_all c.pipes-pipe-items.result.now c.loop-i.i b.pipes c.loop-i.invariant.counted (is_writing b.access) b.end (area_end c.args.area) c.loop-i.best
    c.gap_to-2.result c.wider.result c.loop-i-test.false (c.gap_to-2.ensures ∙ ap (gap b.pipes (is_writing b.access) b.end) c.end.ensures) c.wider.ensures
    ∙ c.loop-i.invariant.best ∙ ap (best_gap c.args.area) c.pipes-pipe-items.ensures.pipes
