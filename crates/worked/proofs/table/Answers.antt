use Rattle.std.proofs.Common.{rules}
use Rattle.worked.proofs.Worked.{no_block_of_firmware, no_block_of_spared}
use Rattle.worked.proofs.table.Goals as goal

pub returns-clause-hold : goal.returns-clause-hold
returns-clause-hold c = search (rules, no_block_of_firmware, no_block_of_spared)
