-- A packet that says a command is that command's packet, but for its unused bytes.
use Rattle.std.proofs.Common.{◌≡◌, ℕ, zero, suc, ◌+◌, ◌-◌, ◌*◌, ◌/◌, ◌%◌, ◌<◌, ◌≤◌, Bool, true, false, cond, eqb, leb, List, [], ◌∷◌, ◌++◌, map, length, get_or, take, drop, replicate, Ok, Err, Result, sym, refl, ap, ◌∙◌, subst, Fits, w8, arith}
use Rattle.std.specs.List.{range_with_len, AllByRecursion}
use Rattle.std.proofs.lemmas.List.FromFn.{fill_by_all}
use Rattle.std.proofs.lemmas.List.{append-nil, take-append-drop, take_all, length-take, length-drop, get_or-take}
use Rattle.std.proofs.lemmas.Nat.{be_bytes_8, le_bytes_2}
use Rattle.std.proofs.lemmas.Bool.{le-leb, eqb-true, eq-eqb, and_from}
use Rattle.packet.specs.declared.command.Size.{Size}
use Rattle.packet.specs.declared.command.Size.TheVariants.{Bytes128, Bytes256, Bytes256Again, Bytes512}
use Rattle.packet.specs.declared.fault.PacketFault.{PacketFault}
use Rattle.packet.specs.declared.fault.PacketFault.TheVariants.{Empty, NoModifier, Length, Illegal}
use Rattle.packet.specs.Commands.{Command, read, write, lock, unlock, initialize_semaphores, status, initialize_area, open_write, open_read, pipe_read, pipe_write, close, size_bytes}
use Rattle.packet.specs.Packets.{byte, drive_of, sector_of, name_of, word_at, exact, read_packet, write_packet, modified, semaphore_packet, status_packet, pipe_write_packet, table_packet, pipe_packet, by_code, decoded, read_code, write_code, address, name_bytes, word_bytes, packet_of, unused, in_range, Said}

address_again : (a b c : ℕ) → a < 256 → b < 256 → c < 256 → ((a / 16 * 65536 + c * 256 + b) / 65536 * 16 + a % 16 ≡ a) × ((a / 16 * 65536 + c * 256 + b) % 256 ≡ b) × ((a / 16 * 65536 + c * 256 + b) / 256 % 256 ≡ c)
address_again a b c la lb lc = (omega arith, omega arith, omega arith)

every_below : (bs : List ℕ) → AllByRecursion (λ b. b < 256) bs → (i : ℕ) → get_or bs i 0 < 256
every_below [] h i = omega arith
every_below (b ∷ bs) h zero = h.0
every_below (b ∷ bs) h (suc i) = every_below bs h.1 i

module _ (p : List ℕ) (typed : (i : ℕ) → get_or p i 0 < 256) where
  -- a packet that says a command if it is of n bytes
  exact_said : (n : ℕ) (x c : Command) → (length p ≡ n → Said p x) → exact n p x ≡ Ok c → Said p c
  exact_said n x c said = at (eqb (length p) n) (eqb-true (length p) n) where
    at : (b : Bool) → (b ≡ true → length p ≡ n) → cond b (Ok x) (Err Length) ≡ Ok c → Said p c
    at true f e = let same : x ≡ c = cc in subst (Said p) same (said (f refl))
    at false f e = cc

  -- one that says a command where byte i is k, or else another
  where_said : (i k : ℕ) (x y : Result Command PacketFault) (c : Command) → (byte p i ≡ k → x ≡ Ok c → Said p c) → (y ≡ Ok c → Said p c) → cond (eqb (byte p i) k) x y ≡ Ok c → Said p c
  where_said i k x y c here else' = at (eqb (byte p i) k) (eqb-true (byte p i) k) where
    at : (b : Bool) → (b ≡ true → byte p i ≡ k) → cond b x y ≡ Ok c → Said p c
    at true f e = here (f refl) e
    at false f e = else' e

  modified_said : (x : Result Command PacketFault) (c : Command) → (x ≡ Ok c → Said p c) → modified p x ≡ Ok c → Said p c
  modified_said x c said = at (leb 2 (length p)) where
    at : (b : Bool) → cond b x (Err NoModifier) ≡ Ok c → Said p c
    at true e = said e
    at false e = cc

  illegal : (c : Command) → ◌≡◌ {A = Result Command PacketFault} (Err Illegal) (Ok c) → Said p c
  illegal c e = cc

  -- the first k bytes one by one
  abbrev front : ℕ → List ℕ
  front k = map (λ i. get_or p i 0) (range_with_len 0 k)

  take_front : (k : ℕ) → k ≤ length p → take k p ≡ front k
  take_front k h =
      let long : length (take k p) ≡ k = omega (arith, length-take k p) in
      fill_by_all (λ i. get_or p i 0) (take k p) k 0 long (λ j lt. get_or-take k p j 0 lt)

  -- a command of n bytes, of which those from k on are unused
  front_said : (k n : ℕ) (x c : Command) → k ≤ n → unused x ≡ n - k → in_range x ≡ true → packet_of x ≡ front k ++ replicate (n - k) 0 → exact n p x ≡ Ok c → Said p c
  front_said k n x c le none good is = exact_said n x c
      (λ long.
      let cut : length p - (n - k) ≡ k = omega arith in
      record { is_in_range = good; same = rw (none, cut, take_front k (omega arith)) is })

  -- a command with n bytes of data behind its first k
  data_said : (k n : ℕ) (x c : Command) → unused x ≡ 0 → (length (drop k p) ≡ n → in_range x ≡ true) → packet_of x ≡ front k ++ drop k p → exact (k + n) p x ≡ Ok c → Said p c
  data_said k n x c none good is = exact_said (k + n) x c
      (λ long.
      let cut : length p - 0 ≡ length p = omega arith in
      record {
        is_in_range = good (omega (arith, length-drop k p));
        same = is ∙ ap (λ y. y ++ drop k p) (sym (take_front k (omega arith))) ∙ rw (none, cut, append-nil, take_all (length p) p (omega arith)) (take-append-drop k p);
      })

  -- the address bytes are those of the drive and the sector that they say
  addressed : address (drive_of p) (sector_of p) ≡ byte p 1 ∷ byte p 2 ∷ byte p 3 ∷ []
  addressed = let a = address_again (byte p 1) (byte p 2) (byte p 3) (typed 1) (typed 2) (typed 3) in cc

  named : name_bytes (name_of p) ≡ byte p 2 ∷ byte p 3 ∷ byte p 4 ∷ byte p 5 ∷ byte p 6 ∷ byte p 7 ∷ byte p 8 ∷ byte p 9 ∷ []
  named =
      let bs = byte p 2 ∷ byte p 3 ∷ byte p 4 ∷ byte p 5 ∷ byte p 6 ∷ byte p 7 ∷ byte p 8 ∷ byte p 9 ∷ [] in
      be_bytes_8 bs (name_of p) refl (every_below bs (typed 2, (typed 3, (typed 4, (typed 5, (typed 6, (typed 7, (typed 8, (typed 9, tt))))))))) refl

  worded : (i : ℕ) → word_bytes (word_at p i) ≡ byte p i ∷ byte p (i + 1) ∷ []
  worded i = let bs = byte p i ∷ byte p (i + 1) ∷ [] in le_bytes_2 bs (word_at p i) refl (every_below bs (typed i, (typed (i + 1), tt))) refl

  near : leb (sector_of p) 1048575 ≡ true
  near = le-leb (sector_of p) 1048575 (omega (arith, typed 1, typed 2, typed 3))

  low : leb (drive_of p) 15 ≡ true
  low = le-leb (drive_of p) 15 (omega arith)

  read_said : (z : Size) (c : Command) → byte p 0 ≡ read_code z → read_packet z p ≡ Ok c → Said p c
  read_said z c c0 = front_said 4 4 (read z (drive_of p) (sector_of p)) c (omega arith) refl (and_from _ _ near low) (let a = addressed in cc)

  write_said : (z : Size) (c : Command) → byte p 0 ≡ write_code z → write_packet z p ≡ Ok c → Said p c
  write_said z c c0 = data_said 4 (size_bytes z) (write z (drive_of p) (sector_of p) (drop 4 p)) c refl
      (λ long. and_from _ _ (and_from _ _ near low) (eq-eqb _ _ long))
      (let a = addressed in cc)

  -- a command of a name: its code, its modifier and the name
  name_said : (make : ℕ → Command) (code modifier : ℕ) (c : Command) → in_range (make (name_of p)) ≡ true → unused (make (name_of p)) ≡ 0 → packet_of (make (name_of p)) ≡ code ∷ modifier ∷ name_bytes (name_of p) → byte p 0 ≡ code → byte p 1 ≡ modifier → exact 10 p (make (name_of p)) ≡ Ok c → Said p c
  name_said make code modifier c good none is c0 c1 = front_said 10 10 (make (name_of p)) c (omega arith) none good (let n = named in cc)

  status_said : (c : Command) → byte p 0 ≡ 0x1A → byte p 1 ≡ 0x41 → status_packet p ≡ Ok c → Said p c
  status_said c c0 c1 = at (leb (byte p 2) 3) refl where
    at : (b : Bool) → leb (byte p 2) 3 ≡ b → cond (eqb (length p) 5) (cond b (Ok (status (byte p 2))) (Err Illegal)) (Err Length) ≡ Ok c → Said p c
    at true g e = front_said 3 5 (status (byte p 2)) c (omega arith) refl g (cc) e
    at false g e = refused' (eqb (length p) 5) e where
      refused' : (b : Bool) → cond b (Err Illegal) (Err Length) ≡ Ok c → Said p c
      refused' true e = cc
      refused' false e = cc

  pipe_write_said : (c : Command) → byte p 0 ≡ 0x1A → byte p 1 ≡ 0x21 → pipe_write_packet p ≡ Ok c → Said p c
  pipe_write_said c c0 c1 = data_said 5 512 (pipe_write (byte p 2) (word_at p 3) (drop 5 p)) c refl
      (λ long. eq-eqb _ _ long)
      (let w = worded 3 in cc)

  semaphore_said : (c : Command) → byte p 0 ≡ 0x0B → semaphore_packet p ≡ Ok c → Said p c
  semaphore_said c c0 = modified_said _ c
      (where_said 1 0x01 _ _ c (name_said lock 0x0B 0x01 c refl refl refl c0)
      (where_said 1 0x11 _ _ c (name_said unlock 0x0B 0x11 c refl refl refl c0)
      (illegal c)))

  table_said : (c : Command) → byte p 0 ≡ 0x1A → table_packet p ≡ Ok c → Said p c
  table_said c c0 = modified_said _ c
      (where_said 1 0x10 _ _ c (λ c1. front_said 2 5 initialize_semaphores c (omega arith) refl refl (cc))
      (where_said 1 0x20 _ _ c (λ c1. front_said 5 5 (pipe_read (byte p 2) (word_at p 3)) c (omega arith) refl refl (let w = worded 3 in cc))
      (where_said 1 0x21 _ _ c (pipe_write_said c c0)
      (where_said 1 0x40 _ _ c (λ c1. front_said 3 5 (close (byte p 2)) c (omega arith) refl refl (cc))
      (where_said 1 0x41 _ _ c (status_said c c0)
      (illegal c))))))

  pipe_said : (c : Command) → byte p 0 ≡ 0x1B → pipe_packet p ≡ Ok c → Said p c
  pipe_said c c0 = modified_said _ c
      (where_said 1 0x80 _ _ c (name_said open_write 0x1B 0x80 c refl refl refl c0)
      (where_said 1 0xC0 _ _ c (name_said open_read 0x1B 0xC0 c refl refl refl c0)
      (where_said 1 0xA0 _ _ c (λ c1. front_said 6 10 (initialize_area (word_at p 2) (word_at p 4)) c (omega arith) refl refl (let a = worded 2 in let b = worded 4 in cc))
      (illegal c))))

  code_said : (c : Command) → by_code (byte p 0) p ≡ Ok c → Said p c
  code_said c =
      where_said 0 0x12 _ _ c (read_said Bytes128 c)
      (where_said 0 0x02 _ _ c (read_said Bytes256 c)
      (where_said 0 0x22 _ _ c (read_said Bytes256Again c)
      (where_said 0 0x32 _ _ c (read_said Bytes512 c)
      (where_said 0 0x13 _ _ c (write_said Bytes128 c)
      (where_said 0 0x03 _ _ c (write_said Bytes256 c)
      (where_said 0 0x23 _ _ c (write_said Bytes256Again c)
      (where_said 0 0x33 _ _ c (write_said Bytes512 c)
      (where_said 0 0x0B _ _ c (semaphore_said c)
      (where_said 0 0x1A _ _ c (table_said c)
      (where_said 0 0x1B _ _ c (pipe_said c)
      (illegal c)))))))))))

  said_again : (c : Command) → decoded p ≡ Ok c → Said p c
  said_again c = at (eqb (length p) 0) where
    at : (b : Bool) → cond b (Err Empty) (by_code (byte p 0) p) ≡ Ok c → Said p c
    at true e = cc
    at false e = code_said c e

-- the same, of the bytes of a slice
pub bytes_said : (p : List ℕ) → ((i : ℕ) → Fits w8 (get_or p i 0)) → (c : Command) → decoded p ≡ Ok c → Said p c
bytes_said p typed = said_again p (λ i. let t = typed i in omega arith)
