-- What serving a packet leaves in the reply buffer.
use Rattle.std.specs.Prelude.{◌≡◌, ℕ, cond, List, length, Ok, Err, Result, nat_le}
use Rattle.build.specs.Builds.{front}
use Rattle.packet.specs.declared.fault.PacketFault.{PacketFault}
use Rattle.packet.specs.declared.fault.PacketFault.TheVariants as faults
use Rattle.packet.specs.Faults.{fault_number}
use Rattle.packet.specs.Commands.{Command}
use Rattle.packet.specs.Packets.{decoded}
use Rattle.model.specs.Answers.{Answer, reply_of}
use Rattle.model.specs.Worlds.{World}
use Rattle.model.specs.Steps.{packet as sent, step}
use Rattle.controller.specs.declared.serve.ServeRefusal.{ServeRefusal}
use Rattle.controller.specs.declared.serve.ServeRefusal.TheVariants.{ReplyBuffer, Empty, NoModifier, Length}

abbrev pub serve_number : ServeRefusal → ℕ
-- has the reply buffer 1,025 bytes?
serve_number ReplyBuffer = 1
-- has the packet a byte?
serve_number Empty = 2
-- has a code that wants a modifier a second byte?
serve_number NoModifier = 3
-- is the length exact?
serve_number Length = 4

abbrev pub number_or : Result ℕ ServeRefusal → Result ℕ ℕ
number_or (Ok n) = Ok n
number_or (Err e) = Err (serve_number e)

-- the length of the reply to a packet that says this, or the number of its refusal
abbrev pub replied : Result Command PacketFault → Answer → Result ℕ ℕ
replied (Ok c) a = Ok (length (reply_of a))
replied (Err faults.Empty) a = Err (fault_number faults.Empty)
replied (Err faults.NoModifier) a = Err (fault_number faults.NoModifier)
replied (Err faults.Length) a = Err (fault_number faults.Length)
replied (Err faults.Illegal) a = Ok (length (reply_of a))

abbrev pub served : ℕ → List ℕ → Answer → Result ℕ ℕ
served room bytes a = cond (nat_le 1025 room) (replied (decoded bytes) a) (Err 1)

-- the answer's reply stands at the front of the buffer, with the bytes behind it as they were
pub record Replies (answer : Answer) (count : ℕ) (before after : List ℕ) : Type 0 where
  pub counted : count ≡ length (reply_of answer)
  pub reply : after ≡ front (reply_of answer) before

-- the outcome's reply stands at the front of the buffer, with the bytes behind it as they were, and its world is the one at the exit
pub record Performed (outcome : Answer × World) (count : ℕ) (before after : List ℕ) (world : World) : Type 0 where
  pub counted : count ≡ length (reply_of outcome.0)
  pub reply : after ≡ front (reply_of outcome.0) before
  pub leads : outcome.1 ≡ world

-- The whole of it for a packet: the answer to it, the reply buffer, and the world that it leads to.
pub record Served (v : World) (packet before after : List ℕ) (count : Result ℕ ServeRefusal) (w : World) : Type 0 where
  pub counted : number_or count ≡ served (length before) packet (step v (sent (length before) packet)).0
  pub reply : after ≡ front (reply_of (step v (sent (length before) packet)).0) before
  pub leads : (step v (sent (length before) packet)).1 ≡ w
