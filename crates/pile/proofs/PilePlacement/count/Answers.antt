use Rattle.std.proofs.Common.{vec_items, rules, tests}
use Rattle.pile.proofs.Rising.{pile_count}
use Rattle.pile.proofs.PilePlacement.count.Goals as goal

pub returns : goal.returns
returns g c =
    let same = pile_count g.P.Placement.layout c.args.self.now.bottom (vec_items c.args.self.now.above) in
    search (rules, tests)
