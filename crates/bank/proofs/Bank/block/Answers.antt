use Rattle.std.proofs.Common.{vec_items, ◌∙◌, ◌*◌}
use Rattle.std.proofs.Math.Nat.{add-sub_cancel_left}
use Rattle.bank.proofs.Settled.{block_held, block_beside}
use Rattle.bank.proofs.Bank.block.Goals.{in_default-via-in-Some+else-held-n, in_default-via-in_default}
use Rattle.bank.proofs.Bank.block.Goals as goal

pub returns-in-Some : goal.returns-in-Some
returns-in-Some c =
    let b = c.args.self.now in
    c.half.ensures ∙ block_held (vec_items b.bytes) b.held c.args.n b.inside c.in-Some.held c.in-Some.is c.if-held-n.true

pub returns-in_default : goal.returns-in_default
returns-in_default c =
    let b = c.args.self.now in
    rw (add-sub_cancel_left (512 * c.args.n) 512, c.as_slice.ensures.value)
    (block_beside (vec_items b.bytes) b.held c.args.n b.inside
    (λ held is e. elim c.in_default.branch [ in_default-via-in-Some+else-held-n w ↦ w.if-held-n.false (let i = w.in-Some.is in cc) | in_default-via-in_default w ↦ w.in_default.not-Some held is ])
    c.requires)
