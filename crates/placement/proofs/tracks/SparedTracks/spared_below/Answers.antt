use Rattle.std.proofs.Common.{◌≡◌, sym, ◌∙◌}
use Rattle.placement.specs.Shifts.{rank}
use Rattle.placement.proofs.Lists.{rank-searched}
use Rattle.placement.proofs.tracks.SparedTracks.spared_below.Goals as goal
use Rattle.placement.proofs.tracks.SparedTracks.spared_below.Goals.{After-err}

ranked : (c : After-err) → c.err.result ≡ rank c.args.track 0 c.args.self.now.spared.items
ranked c =
    let p = c.args.self.now in
    c.err.ensures.value ∙ rank-searched p.spared.items p.shape.firmware p.shape.tracks c.args.track c.binary_search.result p.listed.0 (rw c.deref.ensures.value at c.binary_search.ensures.position)

pub returns-in_err-below : goal.returns-in_err-below
returns-in_err-below c = c.from_residual.ensures ∙ sym c.in_err-below.was ∙ ranked (goal.at.returns-in_err-below c).After-err

pub returns : goal.returns
returns c = sym c.in_ok-below.was ∙ ranked (goal.at.returns c).After-err
