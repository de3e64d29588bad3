-- A block laid on plain bytes changes that block of their meaning, and nothing else.
use Rattle.std.specs.Prelude.{Ok}
use Rattle.std.proofs.Common.{◌≡◌, ℕ, ◌+◌, ◌*◌, ◌<◌, ◌≤◌, ◌≢◌, List, length, refl, sym, ap, ◌∙◌, inl, inr, ⊎_elim, arith}
use mathlib.Core.Path.{fun_ext}
use Rattle.std.proofs.lemmas.Bool.{cases_lt, cond-true, lt-ltb}
use Rattle.std.proofs.lemmas.Bool.Decides.{nat_tests}
use Rattle.volume.specs.Meanings.{with_block, written, answer_of, bytes_or, read_answer, read_buffer}
use Rattle.volume.specs.Parts.{part}
use Rattle.volume.proofs.Overwritten.{length-with_part, part_new, part_out, drop-with_part}
use Rattle.bank.specs.Sectors.{overwritten, block_count, block_bytes, beyond, bottom_of, bank_meaning}
use Rattle.bank.specs.Soundness.{block_within}

module _ (bytes block : List ℕ) (n : ℕ) (below : n < block_count (length bytes)) (size : length block ≡ 512) where
  fits : 512 * n + length block ≤ length bytes
  fits = omega (arith, block_within (length bytes) n below)

  length-overwritten : length (overwritten bytes n block) ≡ length bytes
  length-overwritten = length-with_part bytes (512 * n) block fits

  own : block_bytes (overwritten bytes n block) n ≡ block
  own = ap (part (overwritten bytes n block) (512 * n)) (sym size) ∙ part_new bytes (512 * n) block fits

  other : (k : ℕ) → k ≢ n → k < block_count (length bytes) → block_bytes (overwritten bytes n block) k ≡ block_bytes bytes k
  other k ne lt =
      part_out bytes (512 * n) block fits (512 * k) 512 (block_within (length bytes) k lt)
      (⊎_elim (λ u. inl (omega arith)) (λ u. inr (omega (arith, ne))) (cases_lt k n))

  bottoms : (k : ℕ) → bottom_of (overwritten bytes n block) k ≡ with_block (bottom_of bytes) n block k
  bottoms k = rw length-overwritten (grind (arith, nat_tests, own, other))

  pub block_written : bank_meaning (overwritten bytes n block) ≡ written (bank_meaning bytes) n block
  block_written =
      rw (cond-true _ _ _ (lt-ltb n (block_count (length bytes)) below), fun_ext bottoms, length-overwritten) refl

  pub beyond-written : beyond (overwritten bytes n block) ≡ beyond bytes
  beyond-written = rw length-overwritten (drop-with_part bytes (512 * n) block fits (512 * block_count (length bytes)) (omega arith))

-- a block below the count is read from its place
pub read_answer_lem : (bytes : List ℕ) (n : ℕ) → n < block_count (length bytes) → read_answer (bank_meaning bytes) n ≡ Ok tt
read_answer_lem bytes n below =
    let t = lt-ltb n (block_count (length bytes)) below in
    cond-true _ _ _ t ∙ ap answer_of (cond-true _ _ _ t)

pub read_buffer_lem : (bytes before : List ℕ) (n : ℕ) → n < block_count (length bytes) → read_buffer (bank_meaning bytes) n before ≡ block_bytes bytes n
read_buffer_lem bytes before n below =
    let t = lt-ltb n (block_count (length bytes)) below in
    cond-true _ _ _ t ∙ ap (bytes_or before) (cond-true _ _ _ t)
