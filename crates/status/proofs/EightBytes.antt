-- Rows of eight bytes, written one behind the other.
use Rattle.std.proofs.Common.{◌≡◌, ℕ, ◌+◌, ◌*◌, ◌<◌, ◌≤◌, List, [], ◌∷◌, ◌++◌, length, get_or, take, sym, refl, ap, ◌∙◌, arith}
use Rattle.std.proofs.lemmas.List.{append_assoc, append-nil, length-append, length-take-le, take_more}
use Rattle.volume.specs.Parts.{with_part}
use Rattle.model.specs.Tables.{bytes_of}
use Rattle.status.proofs.Parts.{part_more}

module _ {X : Type 0} (f : X → List ℕ) where
  bytes_of_push : (xs : List X) (x : X) → bytes_of f (xs ++ x ∷ []) ≡ bytes_of f xs ++ f x
  bytes_of_push [] x = append-nil (f x)
  bytes_of_push (y ∷ xs) x = ap (λ r. f y ++ r) (bytes_of_push xs x) ∙ sym (append_assoc (f y) (bytes_of f xs) (f x))

  module _ (eight : (x : X) → length (f x) ≡ 8) where
    pub length-bytes_of : (xs : List X) → length (bytes_of f xs) ≡ 8 * length xs
    length-bytes_of [] = refl
    length-bytes_of (x ∷ xs) = omega (arith, length-append (f x) (bytes_of f xs), eight x, length-bytes_of xs)

    -- after i rows, one more
    pub row_more : (b out next : List ℕ) (from : ℕ) (xs : List X) (i : ℕ) (x : X) (row : List ℕ) → from + 8 * length xs ≤ length b → i < length xs → out ≡ with_part b from (bytes_of f (take i xs)) → x ≡ get_or xs i x → row ≡ f x → next ≡ with_part out (from + 8 * i) row → next ≡ with_part b from (bytes_of f (take (i + 1) xs))
    row_more b out next from xs i x row fits inside is item told put =
        let at = from + 8 * i in
        let wide = length-bytes_of (take i xs) in
        let few = length-take-le i xs (omega arith) in
        let push : bytes_of f (take (i + 1) xs) ≡ bytes_of f (take i xs) ++ row =
        ap (bytes_of f) (take_more xs i x inside ∙ ap (λ y. take i xs ++ y ∷ []) (sym item)) ∙ bytes_of_push (take i xs) x ∙ ap (λ r. bytes_of f (take i xs) ++ r) (sym told) in
        put ∙ ap (λ o. with_part o at row) is ∙ part_more b from (bytes_of f (take i xs)) row at (omega arith) (omega arith) ∙ ap (with_part b from) (sym push)
