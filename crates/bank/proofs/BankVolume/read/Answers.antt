use Rattle.std.proofs.Common.{◌*◌, length, ap, drop, arith, length-take, length-drop}
use Rattle.bank.specs.Banks.{all_bytes}
use Rattle.bank.proofs.Settled.{length_all}
use Rattle.bank.proofs.BankVolume.read.Goals as goal

pub copy_from_slice-requires : goal.copy_from_slice-requires
copy_from_slice-requires c =
    omega (arith, c.told-buffer, ap length c.block.ensures, length-take 512 (drop (512 * c.args.n) (all_bytes c.args.self.now)), length-drop (512 * c.args.n) (all_bytes c.args.self.now), length_all c.args.self.now)
