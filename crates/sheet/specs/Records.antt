-- The record that a text begins with.
use Rattle.std.specs.Prelude.{◌≡◌, ℕ, ◌+◌, cond, List, [], ◌∷◌, ◌++◌, drop, ◌==◌}
use Rattle.sheet.specs.declared.fault.Fault.{Fault}
use Rattle.sheet.specs.declared.fault.Fault.TheVariants.{Memory, Unclosed, Behind}

pub data Mark : Type 0 where
  Comma : Mark
  -- of so many bytes
  Line : ℕ → Mark
  End : Mark
  Byte : Mark

-- a CR with this text behind it: a line end if an LF follows
abbrev pub returned : List ℕ → Mark
returned [] = Byte
returned (b ∷ bs) = cond (b == 10) (Line 2) Byte

-- what a text begins with: a comma, a line end of so many bytes, nothing, or any other byte
abbrev pub mark_of : List ℕ → Mark
mark_of [] = End
mark_of (b ∷ bs) = cond (b == 44) Comma (cond (b == 10) (Line 1) (cond (b == 13) (returned bs) Byte))

pub data Outcome : Type 0 where
  -- the fields, the line ends passed, and the text behind the record
  read : List (List ℕ) → ℕ → List ℕ → Outcome
  -- the line of the quote that is not closed
  unclosed : ℕ → Outcome
  -- the line of the byte behind a closing quote
  behind : ℕ → Outcome

-- where a byte stands: at the front of a field, in a field without quotes, inside the quote that the line opened, or
-- behind a quote inside that quote
pub data Place : Type 0 where
  front : Place
  plain : Place
  inside : ℕ → Place
  closed : ℕ → Place

-- behind the last byte of a field, with the fields up to it: the next field, the end of the record, or another byte
abbrev pub parted : Mark → List (List ℕ) → ℕ → List ℕ → Outcome → Outcome → Outcome
parted Comma fields n text next other = next
parted (Line k) fields n text next other = read fields (n + 1) (drop k text)
parted End fields n text next other = read fields n []
parted Byte fields n text next other = other

-- the outcome of a text from such a place on, behind whole fields, a part of a field and n line ends
unfoldable pub from : Place → List (List ℕ) → List ℕ → ℕ → List ℕ → Outcome
from front fields field n [] = read (fields ++ field ∷ []) n []
from front fields field n (b ∷ bs) =
    cond (b == 34)
    (from (inside (n + 1)) fields field n bs)
    (parted (mark_of (b ∷ bs)) (fields ++ field ∷ []) n (b ∷ bs) (from front (fields ++ field ∷ []) [] n bs) (from plain fields (field ++ b ∷ []) n bs))
from plain fields field n [] = read (fields ++ field ∷ []) n []
from plain fields field n (b ∷ bs) =
    parted (mark_of (b ∷ bs)) (fields ++ field ∷ []) n (b ∷ bs) (from front (fields ++ field ∷ []) [] n bs) (from plain fields (field ++ b ∷ []) n bs)
from (inside opened) fields field n [] = unclosed opened
from (inside opened) fields field n (b ∷ bs) =
    cond (b == 34)
    (from (closed opened) fields field n bs)
    (from (inside opened) fields (field ++ b ∷ []) (n + cond (b == 10) 1 0) bs)
from (closed opened) fields field n [] = read (fields ++ field ∷ []) n []
from (closed opened) fields field n (b ∷ bs) =
    cond (b == 34)
    (from (inside opened) fields (field ++ b ∷ []) n bs)
    (parted (mark_of (b ∷ bs)) (fields ++ field ∷ []) n (b ∷ bs) (from front (fields ++ field ∷ []) [] n bs) (behind (n + 1)))

-- the record that a text behind n line ends begins with
abbrev pub record_of : ℕ → List ℕ → Outcome
record_of n text = from front [] [] n text

-- the outcome that a fault stands for; want of memory stands for none
abbrev pub Faults : Fault → Outcome → Type 0
Faults Memory o = Unit {0}
Faults (Unclosed line) o = o ≡ unclosed line
Faults (Behind line) o = o ≡ behind line
