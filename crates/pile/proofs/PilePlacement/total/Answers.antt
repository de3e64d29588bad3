use Rattle.std.proofs.Common.{vec_items, rules}
use Rattle.pile.proofs.Rising.{pile_total}
use Rattle.pile.proofs.PilePlacement.total.Goals as goal

pub returns : goal.returns
returns g c =
    let same = pile_total g.P.Placement.layout c.args.self.now.bottom (vec_items c.args.self.now.above) in
    search rules
