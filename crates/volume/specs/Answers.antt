-- The result byte of each answer of a volume: 00h done, 8Bh the block is lost, 8Dh no writes here, 8Eh no such block.
use Rattle.std.specs.Prelude.{ℕ, Ok, Err, Result}
use Rattle.volume.specs.declared.answers.ReadRefusal.{ReadRefusal}
use Rattle.volume.specs.declared.answers.ReadRefusal.TheVariants as reads
use Rattle.volume.specs.declared.answers.WriteRefusal.{WriteRefusal}
use Rattle.volume.specs.declared.answers.WriteRefusal.TheVariants as writes

abbrev pub read_byte : Result (Unit {0}) ReadRefusal → ℕ
read_byte (Ok u) = 0x00
read_byte (Err reads.Beyond) = 0x8E
read_byte (Err reads.Lost) = 0x8B

abbrev pub write_byte : Result (Unit {0}) WriteRefusal → ℕ
write_byte (Ok u) = 0x00
write_byte (Err writes.Beyond) = 0x8E
write_byte (Err writes.Protected) = 0x8D
