-- What laying bytes over a part of a block comes to.
use Rattle.std.specs.Prelude.{ℕ, List, Ok, Err, Result}
use Rattle.volume.specs.Meanings.{Meaning, Block, sound, lost, block_of}
use Rattle.model.specs.Sectors.{overwritten, stored}
use Rattle.controller.specs.declared.answers.SectorRefusal.{SectorRefusal}
use Rattle.controller.specs.declared.answers.SectorRefusal.TheVariants.{Lost}

abbrev pub part_written : Meaning → ℕ → ℕ → List ℕ → Block → Result (Unit {0}) SectorRefusal × Meaning
part_written m n first new (sound bytes) = (Ok tt, stored m n (overwritten first new (sound bytes)))
part_written m n first new lost = (Err Lost, m)

-- was it done, and the volume after it
abbrev pub part_outcome : Meaning → ℕ → ℕ → List ℕ → Result (Unit {0}) SectorRefusal × Meaning
part_outcome m n first new = part_written m n first new (block_of m n)
