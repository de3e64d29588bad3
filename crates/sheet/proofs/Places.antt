-- The outcome of a text, place by place, and what the loops of the reader keep.
use Rattle.std.proofs.Common.{◌≡◌, ◌≢◌, ℕ, ◌+◌, ◌-◌, ◌<◌, ◌≤◌, cond, eqb, List, [], ◌∷◌, ◌++◌, length, get_or, take, drop, refl, append_assoc, append-nil, add-zero, arith, length-append}
use Rattle.std.proofs.lemmas.List.{take_rest}
use Rattle.std.proofs.lemmas.Bool.{eq-eqb}
use Rattle.std.proofs.lemmas.Bool.Decides.{nat_tests}
use Rattle.sheet.specs.declared.reader.Reader.{Reader}
use Rattle.sheet.specs.Records.{Byte, Place, mark_of, from, record_of, front, plain, inside, closed, unclosed}
use Rattle.sheet.specs.Rows.{doubled, line_ends}
use Rattle.sheet.specs.Readers.{text_left, lines_passed}
use Rattle.sheet.specs.Steps.{EndsQuote, ended, from_reader}

module _ (fields : List (List ℕ)) (field : List ℕ) (n : ℕ) where
  pub plain_byte : (b : ℕ) (bs : List ℕ) → mark_of (b ∷ bs) ≡ Byte → from plain fields field n (b ∷ bs) ≡ from plain fields (field ++ b ∷ []) n bs
  unfolding from
  plain_byte b bs m = rw m

  pub plain_end : (l : List ℕ) → mark_of l ≢ Byte → from plain fields field n l ≡ ended (fields ++ field ∷ []) n l
  unfolding from
  plain_end [] h = refl
  plain_end (b ∷ bs) h = grind (arith, nat_tests)

  pub closed_end : (opened : ℕ) (l : List ℕ) → get_or l 0 0 ≢ 34 → from (closed opened) fields field n l ≡ ended (fields ++ field ∷ []) n l
  unfolding from
  closed_end opened [] h = refl
  closed_end opened (b ∷ bs) h = grind (arith, nat_tests)

  pub front-plain : (l : List ℕ) → get_or l 0 0 ≢ 34 → from front fields field n l ≡ from plain fields field n l
  unfolding from
  front-plain [] h = refl
  front-plain (b ∷ bs) h = grind (arith, nat_tests)

  pub front-quote : (l : List ℕ) → get_or l 0 0 ≡ 34 → from front fields field n l ≡ from (inside (n + 1)) fields field n (take (length l - 1) (drop 1 l))
  unfolding from
  front-quote [] h = absurd (omega arith)
  front-quote (b ∷ bs) h = rw (take_rest (b ∷ bs) 1, eq-eqb b 34 h)

  pub inside-nil : (opened : ℕ) (l : List ℕ) → length l < 1 → from (inside opened) fields field n l ≡ unclosed opened
  unfolding from
  inside-nil opened [] h = refl
  inside-nil opened (b ∷ bs) h = absurd (omega arith)

  pub inside_end : (opened : ℕ) (l : List ℕ) → EndsQuote l → 0 < length l → from (inside opened) fields field n l ≡ ended (fields ++ field ∷ []) n (take (length l - 1) (drop 1 l))
  unfolding from
  inside_end opened [] h some = absurd (omega arith)
  inside_end opened (b ∷ bs) h some = rw (take_rest (b ∷ bs) 1, eq-eqb b 34 (h.0 some)) (closed_end opened bs h.1)

-- the quotes of a field, doubled, are read as the field
pub inside-doubled : (f text : List ℕ) (opened : ℕ) (fields : List (List ℕ)) (g : List ℕ) (n : ℕ) → from (inside opened) fields g n (doubled f ++ text) ≡ from (inside opened) fields (g ++ f) (n + line_ends f) text
unfolding from
inside-doubled [] text opened fields g n = simp (append-nil, add-zero)
inside-doubled (b ∷ f) text opened fields g n =
    grind (arith, nat_tests, append_assoc, inside-doubled f text opened fields (g ++ b ∷ []) n, inside-doubled f text opened fields (g ++ b ∷ []) (n + cond (eqb b 10) 1 0))

pub inside_byte : (opened : ℕ) (fields : List (List ℕ)) (field : List ℕ) (n b : ℕ) (rest : List ℕ) → from (inside opened) fields field n (doubled (b ∷ []) ++ rest) ≡ from (inside opened) fields (field ++ b ∷ []) (n + cond (eqb b 10) 1 0) rest
inside_byte opened fields field n b rest = simp add-zero at (inside-doubled (b ∷ []) rest opened fields field n)

pub length_doubled : (b : ℕ) (rest : List ℕ) → length rest ≤ length (doubled (b ∷ []) ++ rest)
length_doubled b rest = omega (arith, length-append (doubled (b ∷ [])) rest)

-- what the functions that read a field need
pub ruleset reading = (nat_tests, plain_byte, plain_end, front-plain, front-quote, inside-nil, inside_byte, inside_end, length_doubled)

-- inside a field, which goes on at the same kind of place
pub record FieldOn (place : Place) (old : Reader) (field : List ℕ) (new : Reader) : Type 0 where
  pub within : length (text_left new) ≤ length (text_left old)
  pub same : (fields : List (List ℕ)) → from_reader place fields [] old ≡ from_reader place fields field new

-- before one more field of a record
pub record RecordOn (old : Reader) (fields : List (List ℕ)) (new : Reader) : Type 0 where
  pub within : length (text_left new) ≤ length (text_left old)
  pub same : record_of (lines_passed old) (text_left old) ≡ from_reader front fields [] new
