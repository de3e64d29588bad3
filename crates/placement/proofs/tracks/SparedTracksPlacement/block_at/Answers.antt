use Rattle.std.proofs.Common.{◌≡◌, ◌/◌, ◌≤◌, Some, vec_items, sym, arith}
use Rattle.placement.specs.Shifts.{rank}
use Rattle.placement.proofs.Inverse.{none_firmware, none_spared, back, some_or_none}
use Rattle.placement.proofs.tracks.SparedTracksPlacement.block_at.Goals as goal
use Rattle.placement.proofs.tracks.SparedTracksPlacement.block_at.Goals.{In_ok-k}

pub returns-in_err-behind : goal.returns-in_err-behind
returns-in_err-behind c =
    let p = c.args.self.now in
    rw c.from_residual-in_err-behind.ensures (none_firmware p.shape (vec_items p.spared) p.sized p.listed c.args.place (omega (arith, c.in_ok-track.ensures, c.in_err-behind.ensures)))

pub returns-in_err-k : goal.returns-in_err-k
returns-in_err-k c =
    let p = c.args.self.now in
    rw c.from_residual-in_err-k.ensures (none_spared p.shape (vec_items p.spared) p.sized p.listed c.args.place (sym (rw c.in_ok-track.ensures.1 at c.in_err-k.ensures)))

from : (c : In_ok-k) → c.args.self.now.shape.firmware ≤ c.args.place / c.args.self.now.shape.sectors
from c = omega (arith, c.in_ok-track.ensures, c.in_ok-behind.ensures)

ranked : (c : In_ok-k) → rank (c.args.place / c.args.self.now.shape.sectors) 0 (vec_items c.args.self.now.spared) ≡ Some c.in_ok-k.field-0
ranked c = sym (rw c.in_ok-track.ensures.1 at c.in_ok-k.ensures)

pub overflow_sub-k : goal.overflow_sub-k
overflow_sub-k c =
    let p = c.args.self.now in
    omega (arith, c.in_ok-track.ensures, c.in_ok-behind.ensures, back p.shape (vec_items p.spared) p.sized p.listed c.args.place c.in_ok-k.field-0 (from c) (ranked c))

pub returns : goal.returns
returns c =
    let p = c.args.self.now in
    let k = (goal.at.returns c).In_ok-k in
    rw (c.then_some.ensures, c.logical_tracks.ensures, c.in_ok-behind.ensures.1, c.in_ok-track.ensures.1)
    (some_or_none p.shape (vec_items p.spared) p.sized p.listed c.args.place c.in_ok-k.field-0 (from k) (ranked k) c.in_ok-track.ensures.0)
