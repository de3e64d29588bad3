-- The number and the words of each question of the check that an image fails.
use Rattle.std.specs.Prelude.{ℕ, List, codes}
use Rattle.image.specs.declared.fault.Fault.{Fault}
use Rattle.image.specs.declared.fault.Fault.TheVariants.{Short, Length, Count, Map, Blocks, Overlap}

abbrev pub fault_number : Fault → ℕ
fault_number Short = 11
fault_number Length = 12
fault_number Count = 13
fault_number Map = 14
fault_number Blocks = 15
fault_number Overlap = 16

abbrev pub question_of : Fault → List ℕ
question_of Short = codes "are there 16 bytes?"
question_of Length = codes "is the length in the header that of the file?"
question_of Count = codes "is the block count 1 to 1,048,576?"
question_of Map = codes "do the map bytes lie behind the header and within the file?"
question_of Blocks = codes "do the block bytes lie behind the header and within the file?"
question_of Overlap = codes "do map and blocks share no byte?"
