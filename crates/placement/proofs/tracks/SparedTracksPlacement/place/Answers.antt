use Rattle.std.proofs.Common.{◌+◌, ◌*◌, ◌%◌, ◌<◌, vec_items, arith}
use Rattle.std.proofs.lemmas.Bool.Decides.{nat_tests}
use Rattle.placement.specs.Shifts.{place-shift}
use Rattle.placement.specs.Owned.{spared_layout}
use Rattle.placement.proofs.Inverse.{place_small}
use Rattle.placement.proofs.tracks.SparedTracksPlacement.place.Goals as goal
use Rattle.placement.proofs.tracks.SparedTracksPlacement.place.Goals.{After-track_of}

below : (c : After-track_of) → c.args.n < (spared_layout c.args.self.now).count
below c = omega (arith, c.if-n-count.false, c.count.ensures)

small : (c : After-track_of) → c.track_of.result * c.args.self.now.shape.sectors + c.args.n % c.args.self.now.shape.sectors < 4294967296
small c =
    let p = c.args.self.now in
    rw c.track_of.ensures (place_small p.shape (vec_items p.spared) p.sized p.listed c.args.n (below c))

pub overflow_mul-result : goal.overflow_mul-result
overflow_mul-result c = omega (arith, small c)

pub overflow_add-result : goal.overflow_add-result
overflow_add-result c = omega (arith, small c)

pub returns : goal.returns
returns c =
    let p = c.args.self.now in
    let there = place-shift p.shape (vec_items p.spared) p.sized p.listed c.args.n (below c) in
    grind (arith, nat_tests, below c)
