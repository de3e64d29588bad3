-- Bytes overwritten by one part behind the other.
use Rattle.std.proofs.Common.{◌≡◌, ℕ, ◌+◌, ◌≤◌, List, ◌++◌, length, take, drop, ap, zero-add, arith, rules}
use borrow.Rule.Slice.PartMut.{put_mid}
use Rattle.std.proofs.lemmas.List.{places, same_lists}
use Rattle.build.specs.Builds.{front}
use Rattle.volume.specs.Parts.{with_part}

-- s from `at` on, and t right behind it
pub part_more : (b : List ℕ) (at : ℕ) (s t : List ℕ) (n : ℕ) → at + length s ≤ length b → n ≡ at + length s → with_part (with_part b at s) n t ≡ with_part b at (s ++ t)
part_more b at s t n fits is = same_lists _ _ (search (rules, places)) (λ k d h. grind (arith, places))

pub part-front : (b xs : List ℕ) → with_part b 0 xs ≡ front xs b
part-front b xs = ap (λ n. xs ++ drop n b) (zero-add (length xs))

-- s over the front of b, which is o then, and t over the m bytes that stand from n on
pub front_more : (b o p s t : List ℕ) (n m : ℕ) → length b ≡ n + m → length s ≡ n → o ≡ front s b → p ≡ front t (take m (drop n o)) → put_mid n m o p ≡ front (s ++ t) b
front_more b o p s t n m long wide is put = same_lists _ _ (search (rules, places)) (λ k d h. grind (arith, places))
