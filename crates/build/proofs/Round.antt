-- The packet of a command says that command.
use Rattle.std.proofs.Common.{◌≡◌, ℕ, ◌+◌, ◌*◌, ◌/◌, ◌%◌, ◌≤◌, Bool, true, false, cond, leb, List, length, take, drop, Ok, Err, Result, sym, refl, ◌∙◌, arith}
use Rattle.std.proofs.lemmas.List.{take_at}
use Rattle.std.proofs.lemmas.Nat.{from_be_bytes-to_be_bytes_8, from_le_bytes-to_le_bytes_2}
use Rattle.std.proofs.lemmas.Bool.{leb-true, eqb-true, and_parts}
use Rattle.packet.specs.declared.command.Size.{Size}
use Rattle.packet.specs.declared.command.Size.TheVariants.{Bytes128, Bytes256, Bytes256Again, Bytes512}
use Rattle.build.specs.declared.refusal.BuildRefusal.{BuildRefusal}
use Rattle.build.specs.declared.refusal.BuildRefusal.TheVariants.{Room}
use Rattle.packet.specs.Commands.{Command, read, write, lock, unlock, initialize_semaphores, status, initialize_area, open_write, open_read, pipe_read, pipe_write, close, size_bytes}
use Rattle.packet.specs.Packets.{decoded, packet_of, in_range}
use Rattle.build.specs.Builds.{Typed, front, put_answer, after_put}

-- the drive and the sector that the address bytes say
address_back : (d s : ℕ) → d ≤ 15 → s ≤ 1048575 → ((s / 65536 * 16 + d) % 16 ≡ d) × ((s / 65536 * 16 + d) / 16 * 65536 + s / 256 % 256 * 256 + s % 256 ≡ s)
address_back d s h k = (omega arith, omega arith)

read_back : (z : Size) (d s : ℕ) → in_range (read z d s) ≡ true → decoded (packet_of (read z d s)) ≡ Ok (read z d s)
read_back z d s h =
    let p = and_parts _ _ h in
    let a = address_back d s (leb-true _ _ p.1) (leb-true _ _ p.0) in
    elim z as (λ v. decoded (packet_of (read v d s)) ≡ Ok (read v d s))
    [ Bytes128 ↦ rw (a.0, a.1) | Bytes256 ↦ rw (a.0, a.1) | Bytes256Again ↦ rw (a.0, a.1) | Bytes512 ↦ rw (a.0, a.1) ]

write_back : (z : Size) (d s : ℕ) (b : List ℕ) → in_range (write z d s b) ≡ true → decoded (packet_of (write z d s b)) ≡ Ok (write z d s b)
write_back z d s b h =
    let q = and_parts _ _ h in
    let p = and_parts _ _ q.0 in
    let a = address_back d s (leb-true _ _ p.1) (leb-true _ _ p.0) in
    let l = eqb-true _ _ q.1 in
    elim z as (λ v. length b ≡ size_bytes v → decoded (packet_of (write v d s b)) ≡ Ok (write v d s b))
    [ Bytes128 ↦ λ e. rw (e, a.0, a.1) | Bytes256 ↦ λ e. rw (e, a.0, a.1) | Bytes256Again ↦ λ e. rw (e, a.0, a.1) | Bytes512 ↦ λ e. rw (e, a.0, a.1) ] l

pub round : (c : Command) → Typed c → in_range c ≡ true → decoded (packet_of c) ≡ Ok c
round (read z d s) m h = read_back z d s h
round (write z d s b) m h = write_back z d s b h
round (lock n) m h = rw (from_be_bytes-to_be_bytes_8 n m)
round (unlock n) m h = rw (from_be_bytes-to_be_bytes_8 n m)
round initialize_semaphores m h = refl
round (status k) m h = rw h
round (initialize_area f n) m h = rw (from_le_bytes-to_le_bytes_2 f m.0, from_le_bytes-to_le_bytes_2 n m.1)
round (open_write n) m h = rw (from_be_bytes-to_be_bytes_8 n m)
round (open_read n) m h = rw (from_be_bytes-to_be_bytes_8 n m)
round (pipe_read n w) m h = rw (from_le_bytes-to_le_bytes_2 w m)
round (pipe_write n w b) m h = rw (eqb-true _ _ h, from_le_bytes-to_le_bytes_2 w m)
round (close n) m h = refl

-- what was put at the front of the buffer says the command
pub reads_back : (c : Command) (b after : List ℕ) (r : Result ℕ BuildRefusal) → Typed c → in_range c ≡ true → r ≡ put_answer (packet_of c) b → after ≡ after_put (packet_of c) b → (n : ℕ) → r ≡ Ok n → decoded (take n after) ≡ Ok c
reads_back c b after r m good answer is n e = at (leb (length (packet_of c)) (length b)) (sym e ∙ answer) is where
  at : (fits : Bool) → Ok n ≡ cond fits (Ok (length (packet_of c))) (Err Room) → after ≡ cond fits (front (packet_of c) b) b → decoded (take n after) ≡ Ok c
  at true v w = let len : length (packet_of c) ≡ n = cc in rw (w, take_at (packet_of c) (drop (length (packet_of c)) b) n len) (round c m good)
  at false v w = cc
