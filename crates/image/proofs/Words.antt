-- The four words that an image opens with, read as chunks of four bytes.
use Rattle.std.proofs.Common.{◌≡◌, ℕ, ◌+◌, ◌*◌, ◌<◌, ◌≤◌, List, [], get_or, drop, zero, suc, arith}
use Rattle.std.proofs.lemmas.List.{places}
use Rattle.std.specs.Simd.{first_chunks}
use Rattle.image.specs.Images.{word, head_of}
use Rattle.image.specs.declared.header.Header.{Header}

chunk_at : (n k i : ℕ) (xs : List ℕ) → k < n → i < 4 → get_or (get_or (first_chunks 4 n xs) k []) i 0 ≡ get_or xs (4 * k + i) 0
chunk_at zero k i xs h l = absurd (omega arith)
chunk_at (suc n) zero i xs h l = grind (arith, places)
chunk_at (suc n) (suc k) i xs h l =
    let e = chunk_at n k i (drop 4 xs) (omega arith) l in
    grind (arith, places)

word_of_chunk : (n k j : ℕ) (xs : List ℕ) → k < n → j ≡ 4 * k → word (get_or (first_chunks 4 n xs) k []) 0 ≡ word xs j
word_of_chunk n k j xs h is =
    let b = chunk_at n k 0 xs h (omega arith) in
    let c = chunk_at n k 1 xs h (omega arith) in
    let d = chunk_at n k 2 xs h (omega arith) in
    let e = chunk_at n k 3 xs h (omega arith) in
    grind arith

abbrev head_in : List (List ℕ) → Header
head_in chunks = record { count = word (get_or chunks 0 []) 0; map = word (get_or chunks 1 []) 0; blocks = word (get_or chunks 2 []) 0 }

module _ (chunks : List (List ℕ)) (n : ℕ) (bs : List ℕ) (is : chunks ≡ first_chunks 4 n bs) (enough : 4 ≤ n) where
  pub length_read : word (get_or chunks 3 []) 0 ≡ word bs 12
  length_read = rw is (word_of_chunk n 3 12 bs (omega arith) (omega arith))

  pub head_read : head_in chunks ≡ head_of bs
  head_read =
      let c = word_of_chunk n 0 0 bs (omega arith) (omega arith) in
      let m = word_of_chunk n 1 4 bs (omega arith) (omega arith) in
      let b = word_of_chunk n 2 8 bs (omega arith) (omega arith) in
      cc
