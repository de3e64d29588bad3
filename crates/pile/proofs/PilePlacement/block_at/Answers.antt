use Rattle.std.proofs.Common.{take, vec_items, arith}
use Rattle.std.proofs.lemmas.Grind.{common_steps}
use Rattle.pile.specs.Piles.{pile_lawful}
use Rattle.pile.proofs.Rising.{lowest, block_on}
use Rattle.pile.proofs.PilePlacement.block_at.Goals as goal

pub loop-upper-preserved : goal.loop-upper-preserved
loop-upper-preserved g c =
    let layout = g.P.Placement.layout in
    let lawful = g.met.P.Placement.lawful in
    let p = c.args.self.now in
    let above = vec_items p.above in
    let i = c.loop-upper.upper-index in
    let u = c.upper-item.result in
    let lower = lowest layout p.bottom above i in
    record {
      counted = grind (arith, common_steps);
      found = grind (arith, common_steps, block_on (layout u) lower (lawful u) (pile_lawful layout lawful p.bottom (take i above)) c.args.place c.loop-upper.block);
    }
