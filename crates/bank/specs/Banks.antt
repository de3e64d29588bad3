-- What a Bank means.
use Rattle.std.specs.Prelude.{ℕ, List, vec_items}
use Rattle.volume.specs.Meanings.{Meaning}
use Rattle.bank.specs.Sectors.{settled, bank_meaning}
use Rattle.bank.specs.declared.Bank.{Bank}

-- its bytes with the held sector put back
abbrev pub all_bytes : Bank → List ℕ
all_bytes b = settled (vec_items b.bytes) b.held

abbrev pub meaning_of : Bank → Meaning
meaning_of b = bank_meaning (all_bytes b)
