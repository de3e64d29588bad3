-- The number and the words of each question that a placement may fail.
use Rattle.std.specs.Prelude.{ℕ, List, codes}
use Rattle.placement.specs.declared.refusal.Refusal.{Refusal}
use Rattle.placement.specs.declared.refusal.Refusal.TheVariants.{Shape, Room, Order, Many, Window}

abbrev pub refusal_number : Refusal → ℕ
refusal_number Shape = 21
refusal_number Room = 22
refusal_number Order = 23
refusal_number Many = 24
refusal_number Window = 25

abbrev pub question_of : Refusal → List ℕ
question_of Shape = codes "are the tracks 1 to 65,535, the sectors 1 to 64 and the spares at most 16?"
question_of Room = codes "do firmware tracks and spares leave a track (their sum is below the tracks)?"
question_of Order = codes "is the list of spared tracks strictly rising, each from the first track behind the firmware to the last?"
question_of Many = codes "are there at most as many spared tracks as spares?"
question_of Window = codes "are offset, length and total at most 16,777,215, and does the window end within what it lies on?"
