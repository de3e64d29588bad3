-- What a packet says, for every list of bytes, and the packet of each command.
use Rattle.std.specs.Prelude.{◌≡◌, ℕ, ◌+◌, ◌-◌, ◌*◌, ◌/◌, ◌%◌, Bool, true, cond, ◌&&◌, List, [], ◌∷◌, ◌++◌, length, take, drop, replicate, Ok, Err, Result, ◌==◌, nat_le, slice_index}
use Rattle.packet.specs.declared.command.Size.{Size}
use Rattle.packet.specs.declared.command.Size.TheVariants.{Bytes128, Bytes256, Bytes256Again, Bytes512}
use Rattle.packet.specs.declared.fault.PacketFault.{PacketFault}
use Rattle.packet.specs.declared.fault.PacketFault.TheVariants.{Empty, NoModifier, Length, Illegal}
use Rattle.packet.specs.Commands.{Command, read, write, lock, unlock, initialize_semaphores, status, initialize_area, open_write, open_read, pipe_read, pipe_write, close, size_bytes}

-- The fields of a packet

abbrev pub byte : List ℕ → ℕ → ℕ
byte p i = slice_index p i

-- the lower half of byte 1
abbrev pub drive_of : List ℕ → ℕ
drive_of p = byte p 1 % 16

-- byte 2 is bits 0 to 7, byte 3 bits 8 to 15, the upper half of byte 1 bits 16 to 19
abbrev pub sector_of : List ℕ → ℕ
sector_of p = byte p 1 / 16 * 65536 + byte p 3 * 256 + byte p 2

-- bytes 2 to 9, the first the most significant
abbrev pub name_of : List ℕ → ℕ
name_of p = byte p 2 * 72057594037927936 + byte p 3 * 281474976710656 + byte p 4 * 1099511627776 + byte p 5 * 4294967296 + byte p 6 * 16777216 + byte p 7 * 65536 + byte p 8 * 256 + byte p 9

-- two bytes from i on, the least significant first
abbrev pub word_at : List ℕ → ℕ → ℕ
word_at p i = byte p i + byte p (i + 1) * 256

-- What a packet says: its questions in turn

-- is the length exact?
abbrev pub exact : ℕ → List ℕ → Command → Result Command PacketFault
exact n p c = cond (length p == n) (Ok c) (Err Length)

abbrev pub read_packet : Size → List ℕ → Result Command PacketFault
read_packet z p = exact 4 p (read z (drive_of p) (sector_of p))

abbrev pub write_packet : Size → List ℕ → Result Command PacketFault
write_packet z p = exact (4 + size_bytes z) p (write z (drive_of p) (sector_of p) (drop 4 p))

-- has the packet a second byte?
abbrev pub modified : List ℕ → Result Command PacketFault → Result Command PacketFault
modified p said = cond (nat_le 2 (length p)) said (Err NoModifier)

abbrev pub name_packet : List ℕ → Result ℕ PacketFault
name_packet p = cond (length p == 10) (Ok (name_of p)) (Err Length)

-- code 0Bh
abbrev pub semaphore_packet : List ℕ → Result Command PacketFault
semaphore_packet p = modified p (
    cond (byte p 1 == 0x01) (exact 10 p (lock (name_of p))) (
    cond (byte p 1 == 0x11) (exact 10 p (unlock (name_of p)))
    (Err Illegal)))

-- is the selector 0 to 3?
abbrev pub status_packet : List ℕ → Result Command PacketFault
status_packet p = cond (length p == 5) (cond (nat_le (byte p 2) 3) (Ok (status (byte p 2))) (Err Illegal)) (Err Length)

abbrev pub pipe_write_packet : List ℕ → Result Command PacketFault
pipe_write_packet p = exact 517 p (pipe_write (byte p 2) (word_at p 3) (drop 5 p))

-- code 1Ah
abbrev pub table_packet : List ℕ → Result Command PacketFault
table_packet p = modified p (
    cond (byte p 1 == 0x10) (exact 5 p initialize_semaphores) (
    cond (byte p 1 == 0x20) (exact 5 p (pipe_read (byte p 2) (word_at p 3))) (
    cond (byte p 1 == 0x21) (pipe_write_packet p) (
    cond (byte p 1 == 0x40) (exact 5 p (close (byte p 2))) (
    cond (byte p 1 == 0x41) (status_packet p)
    (Err Illegal))))))

-- code 1Bh
abbrev pub pipe_packet : List ℕ → Result Command PacketFault
pipe_packet p = modified p (
    cond (byte p 1 == 0x80) (exact 10 p (open_write (name_of p))) (
    cond (byte p 1 == 0xC0) (exact 10 p (open_read (name_of p))) (
    cond (byte p 1 == 0xA0) (exact 10 p (initialize_area (word_at p 2) (word_at p 4)))
    (Err Illegal))))

abbrev pub by_code : ℕ → List ℕ → Result Command PacketFault
by_code code p =
    cond (code == 0x12) (read_packet Bytes128 p) (
    cond (code == 0x02) (read_packet Bytes256 p) (
    cond (code == 0x22) (read_packet Bytes256Again p) (
    cond (code == 0x32) (read_packet Bytes512 p) (
    cond (code == 0x13) (write_packet Bytes128 p) (
    cond (code == 0x03) (write_packet Bytes256 p) (
    cond (code == 0x23) (write_packet Bytes256Again p) (
    cond (code == 0x33) (write_packet Bytes512 p) (
    cond (code == 0x0B) (semaphore_packet p) (
    cond (code == 0x1A) (table_packet p) (
    cond (code == 0x1B) (pipe_packet p)
    (Err Illegal)))))))))))

abbrev pub decoded : List ℕ → Result Command PacketFault
decoded p = cond (length p == 0) (Err Empty) (by_code (byte p 0) p)

-- The packet of a command

abbrev pub read_code : Size → ℕ
read_code Bytes128 = 0x12
read_code Bytes256 = 0x02
read_code Bytes256Again = 0x22
read_code Bytes512 = 0x32

abbrev pub write_code : Size → ℕ
write_code Bytes128 = 0x13
write_code Bytes256 = 0x03
write_code Bytes256Again = 0x23
write_code Bytes512 = 0x33

abbrev pub address : ℕ → ℕ → List ℕ
address drive sector = (sector / 65536 * 16 + drive) ∷ (sector % 256) ∷ (sector / 256 % 256) ∷ []

abbrev pub name_bytes : ℕ → List ℕ
name_bytes n = (n / 72057594037927936 % 256) ∷ (n / 281474976710656 % 256) ∷ (n / 1099511627776 % 256) ∷ (n / 4294967296 % 256) ∷ (n / 16777216 % 256) ∷ (n / 65536 % 256) ∷ (n / 256 % 256) ∷ (n % 256) ∷ []

abbrev pub word_bytes : ℕ → List ℕ
word_bytes w = (w % 256) ∷ (w / 256 % 256) ∷ []

-- unused bytes, which stand at the end, are 0
abbrev pub packet_of : Command → List ℕ
packet_of (read z d s) = read_code z ∷ address d s
packet_of (write z d s b) = write_code z ∷ (address d s ++ b)
packet_of (lock n) = 0x0B ∷ 0x01 ∷ name_bytes n
packet_of (unlock n) = 0x0B ∷ 0x11 ∷ name_bytes n
packet_of initialize_semaphores = 0x1A ∷ 0x10 ∷ 0 ∷ 0 ∷ 0 ∷ []
packet_of (status k) = 0x1A ∷ 0x41 ∷ k ∷ 0 ∷ 0 ∷ []
packet_of (initialize_area f n) = 0x1B ∷ 0xA0 ∷ (word_bytes f ++ (word_bytes n ++ (0 ∷ 0 ∷ 0 ∷ 0 ∷ [])))
packet_of (open_write n) = 0x1B ∷ 0x80 ∷ name_bytes n
packet_of (open_read n) = 0x1B ∷ 0xC0 ∷ name_bytes n
packet_of (pipe_read n w) = 0x1A ∷ 0x20 ∷ n ∷ word_bytes w
packet_of (pipe_write n w b) = 0x1A ∷ 0x21 ∷ n ∷ (word_bytes w ++ b)
packet_of (close n) = 0x1A ∷ 0x40 ∷ n ∷ 0 ∷ 0 ∷ []

-- how many unused bytes stand at the end
abbrev pub unused : Command → ℕ
unused (read z d s) = 0
unused (write z d s b) = 0
unused (lock n) = 0
unused (unlock n) = 0
unused initialize_semaphores = 3
unused (status k) = 2
unused (initialize_area f n) = 4
unused (open_write n) = 0
unused (open_read n) = 0
unused (pipe_read n w) = 0
unused (pipe_write n w b) = 0
unused (close n) = 2

-- a packet with the last n bytes 0
abbrev pub cleared : ℕ → List ℕ → List ℕ
cleared n p = take (length p - n) p ++ replicate n 0

-- what building asks of a command's fields
abbrev pub in_range : Command → Bool
in_range (read z d s) = nat_le s 1048575 && nat_le d 15
in_range (write z d s b) = nat_le s 1048575 && nat_le d 15 && length b == size_bytes z
in_range (lock n) = true
in_range (unlock n) = true
in_range initialize_semaphores = true
in_range (status k) = nat_le k 3
in_range (initialize_area f n) = true
in_range (open_write n) = true
in_range (open_read n) = true
in_range (pipe_read n w) = true
in_range (pipe_write n w b) = length b == 512
in_range (close n) = true

-- What a packet that says a command has to do with that command: it is the command's packet but for its unused bytes, and the command is one that can be built.
pub record Said (p : List ℕ) (c : Command) : Type 0 where
  pub is_in_range : in_range c ≡ true
  pub same : packet_of c ≡ cleared (unused c) p
