-- Bytes with a part overwritten: what stands in the part, and what stands beside it.
use Rattle.std.proofs.Common.{◌≡◌, ℕ, ◌+◌, ◌<◌, ◌≤◌, ◌⊎◌, List, length, get_or, drop, sym, ◌∙◌, inl, inr, ⊎_elim, add_assoc, arith, rules}
use Rattle.std.proofs.lemmas.List.{places, same_lists, drop-drop, take-append-drop, length-take, length-drop, get_or-take, get_or-drop}
use Rattle.volume.specs.Parts.{part, with_part}

length_part : (bytes : List ℕ) (from k : ℕ) → from + k ≤ length bytes → length (part bytes from k) ≡ k
length_part bytes from k h = omega (arith, length-take k (drop from bytes), length-drop from bytes)

get_or_part : (bytes : List ℕ) (from k m z : ℕ) → m < k → get_or (part bytes from k) m z ≡ get_or bytes (from + m) z
get_or_part bytes from k m z few = get_or-take k (drop from bytes) m z few ∙ get_or-drop from bytes m z

-- two parts are the same where their bytes are
pub same_parts : (xs ys : List ℕ) (i j k : ℕ) → i + k ≤ length xs → j + k ≤ length ys → ((m z : ℕ) → m < k → get_or xs (i + m) z ≡ get_or ys (j + m) z) → part xs i k ≡ part ys j k
same_parts xs ys i j k hi hj same =
    let wide = length_part xs i k hi in
    same_lists (part xs i k) (part ys j k) (wide ∙ sym (length_part ys j k hj))
    (λ m z h. let few : m < k = omega arith in get_or_part xs i k m z few ∙ same m z few ∙ sym (get_or_part ys j k m z few))

module _ (bytes : List ℕ) (from : ℕ) (new : List ℕ) (fits : from + length new ≤ length bytes) where
  pub length-with_part : length (with_part bytes from new) ≡ length bytes
  length-with_part = search (rules, places)

  with_part_in : (m z : ℕ) → m < length new → get_or (with_part bytes from new) (from + m) z ≡ get_or new m z
  with_part_in m z h = search (rules, places)

  pub with_part_out : (m z : ℕ) → (m < from) ⊎ (from + length new ≤ m) → get_or (with_part bytes from new) m z ≡ get_or bytes m z
  with_part_out m z side = ⊎_elim (λ h. search (rules, places)) (λ h. grind (arith, places)) side

  pub part_in : (i k : ℕ) → i + k ≤ length new → part (with_part bytes from new) (from + i) k ≡ part new i k
  part_in i k h =
      let long = length-with_part in
      same_parts (with_part bytes from new) new (from + i) i k (omega arith) h
      (λ m z few. rw add_assoc (with_part_in (i + m) z (omega arith)))

  pub part_new : part (with_part bytes from new) from (length new) ≡ new
  part_new =
      let long = length-with_part in
      same_lists _ _ (length_part (with_part bytes from new) from (length new) (omega arith))
      (λ m z h.
      let few : m < length new = omega (arith, length_part (with_part bytes from new) from (length new) (omega arith)) in
      get_or_part (with_part bytes from new) from (length new) m z few ∙ with_part_in m z few)

  pub part_out : (i k : ℕ) → i + k ≤ length bytes → (i + k ≤ from) ⊎ (from + length new ≤ i) → part (with_part bytes from new) i k ≡ part bytes i k
  part_out i k h side =
      let long = length-with_part in
      same_parts (with_part bytes from new) bytes i i k (omega arith) h
      (λ m z few. with_part_out (i + m) z (⊎_elim (λ u. inl (omega arith)) (λ u. inr (omega arith)) side))

  pub drop-with_part : (k : ℕ) → from + length new ≤ k → drop k (with_part bytes from new) ≡ drop k bytes
  drop-with_part k h =
      same_lists _ _ (search (rules, places))
      (λ m z few. get_or-drop k (with_part bytes from new) m z ∙ with_part_out (k + m) z (inr (omega arith)) ∙ sym (get_or-drop k bytes m z))

-- a part that is put in its own place changes nothing
pub own_part : (bytes : List ℕ) (from k : ℕ) → from + k ≤ length bytes → with_part bytes from (part bytes from k) ≡ bytes
own_part bytes from k h =
    rw (length_part bytes from k h, ← drop-drop k from bytes, take-append-drop k (drop from bytes), take-append-drop from bytes)

-- a part within a part that is put in place
pub part-within : (bytes : List ℕ) (from : ℕ) (new : List ℕ) (i : ℕ) (small : List ℕ) → from + length new ≤ length bytes → i + length small ≤ length new → with_part bytes from (with_part new i small) ≡ with_part (with_part bytes from new) (from + i) small
part-within bytes from new i small fits within = same_lists _ _ (search (rules, places)) (λ k d h. grind (arith, places))
