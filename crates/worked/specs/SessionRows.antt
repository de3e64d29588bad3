-- What each row of the sessions' table says.
use Rattle.std.specs.Prelude.{◌≡◌, true, List, [], ◌∷◌}
use Rattle.packet.specs.Packets.{byte}
use Rattle.model.specs.Answers.{answers, reply_of}
use Rattle.worked.specs.declared.session.Session.TheVariants.{Area10, Area9, TwoOfAName, Locks, FullTable, Blocks}
use Rattle.worked.specs.declared.session.SessionRow.{SessionRow}
use Rattle.worked.specs.declared.session.SessionRow.TheVariants.{Answer, Byte, Pointer}
use Rattle.worked.specs.Sessions.{answer_to, pointer_after}

abbrev pub Tells : SessionRow → Type 0
Tells (Answer session request result) = answers result (answer_to session request) ≡ true
Tells (Byte session request at value) = byte (reply_of (answer_to session request)) at ≡ value
Tells (Pointer session requests entry bytes) = pointer_after session requests entry ≡ bytes

abbrev pub session_rows : List SessionRow
session_rows =
    Pointer Area10 3 1 (0x01 ∷ 0x00 ∷ 0xC8 ∷ 0x00 ∷ 0x00 ∷ 0xC8 ∷ 0x00 ∷ 0x01 ∷ []) ∷
    Pointer Area10 3 2 (0x02 ∷ 0x00 ∷ 0xD2 ∷ 0x00 ∷ 0x00 ∷ 0xD2 ∷ 0x00 ∷ 0x01 ∷ []) ∷
    Answer Area10 7 0x00 ∷
    Answer Area10 8 0x0A ∷
    Answer Area10 9 0x00 ∷
    Answer Area10 10 0x00 ∷
    Pointer Area10 11 1 (0x01 ∷ 0x00 ∷ 0xC8 ∷ 0x00 ∷ 0x00 ∷ 0xD4 ∷ 0x00 ∷ 0x81 ∷ []) ∷
    Pointer Area10 11 2 (0x3F ∷ 0x00 ∷ 0xDC ∷ 0x00 ∷ 0x00 ∷ 0xDC ∷ 0x00 ∷ 0x80 ∷ []) ∷
    Pointer Area10 12 2 (0x02 ∷ 0x00 ∷ 0xD8 ∷ 0x00 ∷ 0x00 ∷ 0xD8 ∷ 0x00 ∷ 0x01 ∷ []) ∷
    Pointer Area10 15 1 (0x01 ∷ 0x00 ∷ 0xCA ∷ 0x00 ∷ 0x00 ∷ 0xD4 ∷ 0x00 ∷ 0x82 ∷ []) ∷
    Pointer Area9 3 2 (0x02 ∷ 0x02 ∷ 0x62 ∷ 0x00 ∷ 0x02 ∷ 0x62 ∷ 0x00 ∷ 0x01 ∷ []) ∷
    Pointer Area9 4 2 (0x03 ∷ 0x02 ∷ 0x5E ∷ 0x00 ∷ 0x02 ∷ 0x5E ∷ 0x00 ∷ 0x01 ∷ []) ∷
    Byte TwoOfAName 7 2 1 ∷
    Byte TwoOfAName 7 3 0x82 ∷
    Answer TwoOfAName 8 0x8E ∷
    Answer Locks 3 0x80 ∷
    Answer Locks 4 0x00 ∷
    Answer Locks 5 0x8F ∷
    Answer FullTable 31 0x00 ∷
    Answer FullTable 32 0x80 ∷
    Answer FullTable 33 0xFD ∷
    Answer Blocks 0 0x8B ∷
    Answer Blocks 1 0x00 ∷
    Answer Blocks 2 0x00 ∷
    Answer Blocks 4 0x8D ∷
    Answer Blocks 5 0x87 ∷
    Answer Blocks 6 0x8E ∷
    Byte Blocks 7 128 2 ∷
    Byte Blocks 7 129 1 ∷
    []
