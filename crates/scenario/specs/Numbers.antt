-- The number that a text of decimal digits says.
use Rattle.std.specs.Prelude.{ℕ, ◌+◌, ◌-◌, ◌*◌, min, cond, ◌&&◌, List, [], ◌∷◌, Some, None, Option, nat_le}

-- a byte from '0' to '9' as what it counts
abbrev pub digit_of : ℕ → Option ℕ
digit_of b = cond (nat_le 48 b && nat_le b 57) (Some (b - 48)) None

-- one more digit; a number above 4,294,967,295 counts as that
abbrev pub with_digit : ℕ → ℕ → ℕ
with_digit v d = min (v * 10 + d) 4294967295

-- what is said of a digit, if there is one
abbrev pub of_digit : Option ℕ → (ℕ → Option ℕ) → Option ℕ
of_digit (Some d) f = f d
of_digit None f = None

-- the number of a value with these bytes behind it
abbrev pub value_from : List ℕ → ℕ → Option ℕ
value_from [] v = Some v
value_from (b ∷ bs) v = of_digit (digit_of b) (λ d. value_from bs (with_digit v d))

-- the number that the text says; None where it has no byte, or one that is no digit
abbrev pub number_of : List ℕ → Option ℕ
number_of [] = None
number_of (b ∷ bs) = value_from (b ∷ bs) 0
