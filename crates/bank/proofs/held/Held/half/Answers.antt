use Rattle.std.proofs.Common.{◌*◌, refl}
use Rattle.std.proofs.Math.Nat.{add-sub_cancel_left}
use Rattle.bank.proofs.held.Held.half.Goals as goal

pub returns : goal.returns
returns c = rw (add-sub_cancel_left (512 * c.args.half) 512) refl
