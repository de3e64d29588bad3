-- The number of each fault of a packet, and its question.
use Rattle.std.specs.Prelude.{ℕ, List, codes}
use Rattle.packet.specs.declared.fault.PacketFault.{PacketFault}
use Rattle.packet.specs.declared.fault.PacketFault.TheVariants.{Empty, NoModifier, Length, Illegal}

abbrev pub fault_number : PacketFault → ℕ
-- has the packet a byte?
fault_number Empty = 2
-- has a code that wants a modifier a second byte?
fault_number NoModifier = 3
-- is the length exact?
fault_number Length = 4
-- the code, the modifier for that code, or the Status selector is not known: a reply of this one byte
fault_number Illegal = 0x8F

abbrev pub fault_question : PacketFault → List ℕ
fault_question Empty = codes "has the packet a byte?"
fault_question NoModifier = codes "have the codes 0Bh, 1Ah and 1Bh a second byte?"
fault_question Length = codes "is the length that of the command?"
fault_question Illegal = codes "are the code, its modifier and a Status selector known?"
