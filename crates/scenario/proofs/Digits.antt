-- A text of digits: the number that it says, cut off at the largest.
use Rattle.std.proofs.Common.{◌≡◌, ℕ, ◌+◌, ◌-◌, ◌*◌, ◌^◌, ◌<◌, min, Bool, eqb, ◌&&◌, true, false, List, [], ◌∷◌, length, Some, None, Ok, Err, Result, refl, sym, ap, ◌∙◌, rules, arith}
use Rattle.std.proofs.lemmas.Bool.{eqb-true, and_parts}
use Rattle.std.proofs.lemmas.Str.Parse.{IsNumeralModel, numerals_by_fold, parse_digits}
use Rattle.std.specs.List.{list_all}
use Rattle.std.specs.Char.{is_ascii_digit}
use Rattle.std.specs.Result.{OkIff, result_unwrap_or}
use Rattle.std.specs.Str.Parse.{ParsesUnsigned}
use Rattle.scenario.specs.Numbers.{with_digit, value_from, number_of}

abbrev read_on : ℕ → List ℕ → ℕ
read_on n [] = n
read_on n (c ∷ cs) = read_on (10 * n + (c - 48)) cs

numeral : IsNumeralModel (λ ds. list_all is_ascii_digit ds ≡ true) (read_on 0)
numeral = numerals_by_fold _ (search rules) read_on (search rules)

cut_off : (ds : List ℕ) (n v : ℕ) → v ≡ min n 4294967295 → list_all is_ascii_digit ds ≡ true → value_from ds v ≡ Some (min (read_on n ds) 4294967295)
cut_off [] n v e h = ap (λ x. Some x) e
cut_off (c ∷ cs) n v e h =
    let p = and_parts (is_ascii_digit c) (list_all is_ascii_digit cs) h in
    rw p.0 (cut_off cs (10 * n + (c - 48)) (with_digit v (c - 48)) (omega arith) p.1)

stops : (ds : List ℕ) (v : ℕ) → list_all is_ascii_digit ds ≡ false → value_from ds v ≡ None
stops [] v h = cc
stops (c ∷ cs) v h = at (is_ascii_digit c) refl h (stops cs (with_digit v (c - 48))) where
  at : (b : Bool) → is_ascii_digit c ≡ b → (b && list_all is_ascii_digit cs) ≡ false → (list_all is_ascii_digit cs ≡ false → value_from cs (with_digit v (c - 48)) ≡ None) → value_from (c ∷ cs) v ≡ None
  at true e rest next = rw e (next rest)
  at false e rest next = rw e

pub no_text : (ds : List ℕ) → eqb (length ds) 0 ≡ true → None ≡ number_of ds
no_text [] h = refl
no_text (c ∷ cs) h = absurd (omega (arith, eqb-true (length (c ∷ cs)) 0 h))

pub no_number : (ds : List ℕ) → list_all is_ascii_digit ds ≡ false → None ≡ number_of ds
no_number [] h = refl
no_number (c ∷ cs) h = sym (stops (c ∷ cs) 0 h)

-- what parse gives, or the largest number
pub parsed : {E : Type 0} (ds : List ℕ) (r : Result ℕ E) → ParsesUnsigned 32 10 ds r → eqb (length ds) 0 ≡ false → list_all is_ascii_digit ds ≡ true → Some (result_unwrap_or r 4294967295) ≡ number_of ds
parsed [] r h some all = cc
parsed (c ∷ cs) r h some all = at r (parse_digits numeral 32 (c ∷ cs) r h all) ∙ sym (cut_off (c ∷ cs) 0 0 refl all) where
  at : {E : Type 0} (r : Result ℕ E) → OkIff r ((0 < length (c ∷ cs)) × (read_on 0 (c ∷ cs) < 2 ^ 32)) (read_on 0 (c ∷ cs)) → Some (result_unwrap_or r 4294967295) ≡ Some (min (read_on 0 (c ∷ cs)) 4294967295)
  at (Ok x) k = let e : x ≡ min (read_on 0 (c ∷ cs)) 4294967295 = omega (arith, k.0.1, k.1) in ap (λ y. Some y) e
  at (Err e) k =
      let large : read_on 0 (c ∷ cs) < 2 ^ 32 → ⊥ = λ l. k (omega arith, l) in
      let m : 4294967295 ≡ min (read_on 0 (c ∷ cs)) 4294967295 = omega (arith, large) in
      ap (λ y. Some y) m
