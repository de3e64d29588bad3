use Rattle.std.proofs.Common.{◌*◌, refl, ◌∙◌}
use Rattle.std.proofs.Math.Nat.{add-sub_cancel_left}
use Rattle.bank.proofs.held.Held.exchange.Goals as goal

pub returns-clause-bytes : goal.returns-clause-bytes
returns-clause-bytes c = c.copy_from_slice.ensures.after ∙ rw (add-sub_cancel_left (1024 * c.args.sector) 1024) refl
