-- The pointer table: its entries over zeros.
use Rattle.std.proofs.Common.{◌≡◌, ℕ, ◌+◌, ◌*◌, ◌≤◌, List, ◌++◌, length, replicate, Some, Option, sym, refl, ap, ◌∙◌, arith, rules}
use Rattle.std.proofs.lemmas.List.{places, same_lists, append_assoc, length-append}
use Rattle.build.specs.Builds.{front}
use Rattle.volume.specs.Parts.{with_part}
use Rattle.model.specs.declared.pipe.Area.{Area}
use Rattle.model.specs.declared.pipe.Pipe.{Pipe}
use Rattle.model.specs.Sectors.{area_end}
use Rattle.model.specs.Tables.{bytes_of, end_pointer, pipe_pointer, padded, pointer_table}
use Rattle.status.specs.Written.{pointer_entries}
use Rattle.status.proofs.Parts.{part_more, part-front}
use Rattle.status.proofs.EightBytes.{length-bytes_of}

pub length-padded : (n : ℕ) (xs : List ℕ) → length xs ≤ n → length (padded n xs) ≡ n
length-padded n xs few = search (rules, places)

-- bytes over n zeros are those bytes with zeros behind them
over_zeros : (n : ℕ) (b xs : List ℕ) → length xs ≤ n → front xs (front (replicate n 0) b) ≡ front (padded n xs) b
over_zeros n b xs few = same_lists _ _ (search (rules, places)) (λ k d h. grind (arith, places))

-- three parts, one behind the other, from the first byte on
three_parts : (b o₁ o₂ o₃ s t u : List ℕ) (n m : ℕ) → o₁ ≡ with_part b 0 s → o₂ ≡ with_part o₁ n t → o₃ ≡ with_part o₂ m u → n ≡ length s → m ≡ length s + length t → length s + length t ≤ length b → o₃ ≡ front (s ++ (t ++ u)) b
three_parts b o₁ o₂ o₃ s t u n m is₁ is₂ is₃ first second fits =
    let both = length-append s t in
    let two : o₂ ≡ with_part b 0 (s ++ t) = is₂ ∙ ap (λ o. with_part o n t) is₁ ∙ part_more b 0 s t n (omega arith) (omega arith) in
    is₃ ∙ ap (λ o. with_part o m u) two ∙ part_more b 0 (s ++ t) u m (omega arith) (omega arith) ∙ ap (with_part b 0) (append_assoc s t u) ∙ part-front b (s ++ (t ++ u))

pipes_long : (ps : List Pipe) → length (bytes_of pipe_pointer ps) ≡ 8 * length ps
pipes_long ps = length-bytes_of pipe_pointer (λ p. refl) ps

pub length-pointer_entries : (a : Area) (ps : List Pipe) → length (pointer_entries a ps) ≡ 16 + 8 * length ps
length-pointer_entries a ps = omega (arith, pipes_long ps, length-append (bytes_of pipe_pointer ps) (end_pointer 63 (area_end a)))

module _ (a : Area) (ps : List Pipe) (b : List ℕ) where
  pub entries-put : (o₁ o₂ o₃ low high : List ℕ) → low ≡ end_pointer 0 a.first → high ≡ end_pointer 63 (area_end a) → 16 + 8 * length ps ≤ length b → o₁ ≡ with_part b 0 low → o₂ ≡ with_part o₁ 8 (bytes_of pipe_pointer ps) → o₃ ≡ with_part o₂ (8 + 8 * length ps) high → o₃ ≡ front (pointer_entries a ps) b
  entries-put o₁ o₂ o₃ low high l h fits is₁ is₂ is₃ =
      let many = pipes_long ps in
      three_parts b o₁ o₂ o₃ (end_pointer 0 a.first) (bytes_of pipe_pointer ps) (end_pointer 63 (area_end a)) 8 (8 + 8 * length ps)
      (is₁ ∙ ap (with_part b 0) l) is₂ (is₃ ∙ ap (with_part o₂ (8 + 8 * length ps)) h) refl (omega arith) (omega arith)

  pub pointers_put : (area : Option Area) (zeros out : List ℕ) → area ≡ Some a → length ps ≤ 62 → zeros ≡ front (replicate 512 0) b → out ≡ front (pointer_entries a ps) zeros → out ≡ front (pointer_table area ps) b
  pointers_put area zeros out is few z o =
      let wide = length-pointer_entries a ps in
      o ∙ ap (front (pointer_entries a ps)) z ∙ over_zeros 512 b (pointer_entries a ps) (omega arith) ∙ ap (λ x. front (pointer_table x ps) b) (sym is)
