use Rattle.std.proofs.Common.{ap, ◌∙◌, arith}
use Rattle.bank.specs.Sectors.{beyond, bank_meaning}
use Rattle.bank.specs.Banks.{all_bytes}
use Rattle.bank.proofs.Written.{block_written, beyond-written}
use Rattle.bank.proofs.BankVolume.write.Goals as goal

pub returns-clause-after : goal.returns-clause-after
returns-clause-after c = ap bank_meaning c.lay_block.ensures ∙ block_written (all_bytes c.args.self.now) c.args.bytes.now c.args.n (omega arith) c.told-bytes

pub returns-clause-past : goal.returns-clause-past
returns-clause-past c = ap beyond c.lay_block.ensures ∙ beyond-written (all_bytes c.args.self.now) c.args.bytes.now c.args.n (omega arith) c.told-bytes
