-- The number of each refusal to build a packet, and its question.
use Rattle.std.specs.Prelude.{ℕ, List, codes}
use Rattle.build.specs.declared.refusal.BuildRefusal.{BuildRefusal}
use Rattle.build.specs.declared.refusal.BuildRefusal.TheVariants.{Room, Field}

abbrev pub refusal_number : BuildRefusal → ℕ
-- does the buffer hold the packet?
refusal_number Room = 5
-- is every field in range, and has the data the command's length?
refusal_number Field = 6

abbrev pub refusal_question : BuildRefusal → List ℕ
refusal_question Room = codes "does the buffer hold the packet?"
refusal_question Field = codes "are sector, drive and Status selector at most 1,048,575, 15 and 3, and has the data the command's length?"
