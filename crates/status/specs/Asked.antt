-- The tables that a Status asks for by its selector, in a buffer.
use Rattle.std.specs.Prelude.{ℕ, Bool, cond, ◌&&◌, List, length, Some, None, Option, ◌==◌, nat_le}
use Rattle.model.specs.declared.pipe.Area.{Area}
use Rattle.model.specs.declared.pipe.Pipe.{Pipe}
use Rattle.model.specs.Tables.{tables_asked}
use Rattle.status.specs.Written.{after_table}

-- by how many semaphore names and pipes there are, the selector and the buffer's bytes: are these the controller's tables, is
-- there such a selector, and has the longest answer room?
abbrev pub askable : ℕ → ℕ → ℕ → ℕ → Bool
askable names pipes selector room = nat_le selector 3 && (nat_le 1024 room && (names == 32 && nat_le pipes 62))

-- names and pointers have 64 entries of eight bytes each, semaphores 32
abbrev pub asked_length : ℕ → ℕ
asked_length selector = cond (selector == 0) 1024 (cond (selector == 1) 512 (cond (selector == 2) 512 256))

-- of tables of the controller's sizes, in a buffer with room
abbrev pub selected_number : ℕ → Option ℕ
selected_number selector = cond (nat_le selector 3) (Some (asked_length selector)) None

module _ (names : List ℕ) (a : Option Area) (ps : List Pipe) (selector : ℕ) (buffer : List ℕ) where
  abbrev asked : Bool
  asked = askable (length names) (length ps) selector (length buffer)

  abbrev pub asked_answer : Option ℕ
  asked_answer = cond asked (Some (length (tables_asked names a ps selector))) None

  -- the same by the selector alone
  abbrev pub asked_number : Option ℕ
  asked_number = cond asked (Some (asked_length selector)) None

  abbrev pub after_asked : List ℕ
  after_asked = after_table asked (tables_asked names a ps selector) buffer
