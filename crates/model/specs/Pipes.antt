-- The pipe table: which pipe a number or a name finds, and how the list of pipes changes.
use Rattle.std.specs.Prelude.{ℕ, zero, suc, ◌+◌, Bool, true, false, cond, not, ◌&&◌, ◌||◌, List, [], ◌∷◌, ◌++◌, length, Some, None, Option, ◌==◌, nat_lt}
use Rattle.model.specs.declared.pipe.Access.{Access}
use Rattle.model.specs.declared.pipe.Access.TheVariants.{Closed, Reading, Writing}
use Rattle.model.specs.declared.pipe.Pipe.{Pipe}
use Rattle.model.specs.Semaphores.{blank}

abbrev pub is_writing : Access → Bool
is_writing Closed = false
is_writing Reading = false
is_writing Writing = true

abbrev pub is_reading : Access → Bool
is_reading Closed = false
is_reading Reading = true
is_reading Writing = false

abbrev pub is_open : Access → Bool
is_open Closed = false
is_open Reading = true
is_open Writing = true

-- The state, as replies and Status tell it

-- bit 7: it holds data; bit 1: open for read; bit 0: open for write
abbrev pub state_bits : Access → ℕ
state_bits Closed = 0x00
state_bits Reading = 0x02
state_bits Writing = 0x01

abbrev pub state_of : Pipe → ℕ
state_of p = cond (nat_lt p.start p.end) 0x80 0x00 + state_bits p.access

-- The names of entries 0 and 63, the area's two ends: WOOFWOOF and FOOWFOOW.

abbrev pub low_name : ℕ
low_name = 0x574F4F46574F4F46

abbrev pub high_name : ℕ
high_name = 0x464F4F57464F4F57

-- is the name neither blanks nor that of an end?
abbrev pub may_name : ℕ → Bool
may_name n = not (n == blank) && (not (n == low_name) && not (n == high_name))

-- Finding

abbrev pub numbered : ℕ → Pipe → Bool
numbered k p = k == p.number

abbrev pub find : ℕ → List Pipe → Option Pipe
find k [] = None
find k (p ∷ ps) = cond (numbered k p) (Some p) (find k ps)

abbrev pub there : {X : Type 0} → Option X → Bool
there None = false
there (Some x) = true

-- the lowest unused number of the n from k on
abbrev pub unused : ℕ → ℕ → List Pipe → Option ℕ
unused zero k ps = None
unused (suc n) k ps = cond (there (find k ps)) (unused n (suc k) ps) (Some k)

-- the table has room for 62 pipes, numbered 1 to 62
abbrev pub lowest_unused : List Pipe → Option ℕ
lowest_unused ps = cond (nat_lt (length ps) 62) (unused 62 1 ps) None

-- is there a pipe that passes the test?
abbrev pub any : (Pipe → Bool) → List Pipe → Bool
any test [] = false
any test (p ∷ ps) = test p || any test ps

abbrev pub named : ℕ → Pipe → Bool
named n p = n == p.name

abbrev pub named_writing : ℕ → Pipe → Bool
named_writing n p = named n p && is_writing p.access

abbrev pub lower : Pipe → Option Pipe → Pipe
lower p None = p
lower p (Some q) = cond (nat_lt p.number q.number) p q

-- of the pipes of the name that are not open, the one with the lowest number
abbrev pub closed_named : ℕ → List Pipe → Option Pipe
closed_named n [] = None
closed_named n (p ∷ ps) = cond (named n p && not (is_open p.access)) (Some (lower p (closed_named n ps))) (closed_named n ps)

-- the start of the first of them, or where there is none the area's end
abbrev pub first_start : List Pipe → ℕ → ℕ
first_start [] top = top
first_start (p ∷ ps) top = p.start

-- the start of the entry behind pipe k
abbrev pub next_start : ℕ → List Pipe → ℕ → ℕ
next_start k [] top = top
next_start k (p ∷ ps) top = cond (numbered k p) (first_start ps top) (next_start k ps top)

-- Changing

-- pipe k gives way to those of qs
abbrev pub exchanged : ℕ → List Pipe → List Pipe → List Pipe
exchanged k qs [] = []
exchanged k qs (p ∷ ps) = cond (numbered k p) (qs ++ ps) (p ∷ exchanged k qs ps)

-- with n pipes below it
abbrev pub inserted : ℕ → Pipe → List Pipe → List Pipe
inserted zero p ps = p ∷ ps
inserted (suc n) p [] = p ∷ []
inserted (suc n) p (q ∷ ps) = q ∷ inserted n p ps

abbrev pub new_pipe : ℕ → ℕ → ℕ → Pipe
new_pipe k n at = record { number = k; name = n; start = at; end = at; access = Writing }

abbrev pub spanning : Pipe → ℕ → ℕ → Pipe
spanning p start end = record { number = p.number; name = p.name; start = start; end = end; access = p.access }

abbrev pub accessed : Pipe → Access → Pipe
accessed p access = record { number = p.number; name = p.name; start = p.start; end = p.end; access = access }

-- what a Close leaves of it: nothing of an empty one
abbrev pub closed : Pipe → List Pipe
closed p = cond (nat_lt p.start p.end) (accessed p Closed ∷ []) []
