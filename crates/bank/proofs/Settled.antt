-- Bytes with the held sector put back: their length, their blocks, and a block laid on the held sector.
use Rattle.std.proofs.Common.{◌≡◌, ℕ, ◌+◌, ◌*◌, ◌/◌, ◌%◌, ◌≤◌, ◌≢◌, IsTrue, List, length, Some, None, vec_items, Option, sym, refl, ap, ◌∙◌, inl, inr, ⊎_elim, arith}
use Rattle.std.proofs.lemmas.Bool.{cases_lt, eqb-true}
use Rattle.volume.specs.Parts.{part, with_part}
use Rattle.volume.proofs.Overwritten.{length-with_part, part_in, part_out, own_part, part-within}
use Rattle.bank.specs.Sectors.{held_end, is_held, settled, block_bytes, overwritten}
use Rattle.bank.specs.Banks.{all_bytes}
use Rattle.bank.specs.declared.Bank.{Bank}
use Rattle.bank.specs.declared.held.Held.{Held}

pub length-settled : (bytes : List ℕ) (held : Option Held) → held_end held ≤ length bytes → length (settled bytes held) ≡ length bytes
length-settled bytes None inside = refl
length-settled bytes (Some held) inside = length-with_part bytes (1024 * held.sector) held.bytes (omega (arith, held.full))

pub length_all : (b : Bank) → length (all_bytes b) ≡ length (vec_items b.bytes)
length_all b = length-settled (vec_items b.bytes) b.held b.inside

-- a held sector that is the bytes' own changes nothing
pub own_sector : (bytes : List ℕ) (held : Held) → held.bytes ≡ part bytes (1024 * held.sector) 1024 → 1024 * held.sector + 1024 ≤ length bytes → settled bytes (Some held) ≡ bytes
own_sector bytes held own inside = ap (with_part bytes (1024 * held.sector)) own ∙ own_part bytes (1024 * held.sector) 1024 inside

module _ (bytes : List ℕ) (held : Held) (n : ℕ) (inside : 1024 * held.sector + 1024 ≤ length bytes) where
  fits : 1024 * held.sector + length held.bytes ≤ length bytes
  fits = omega (arith, held.full)

  -- block n is half n mod 2 of sector n div 2
  half : held.sector ≡ n / 2 → 1024 * held.sector + 512 * (n % 2) ≡ 512 * n
  half e = omega arith

  held_block : held.sector ≡ n / 2 → block_bytes (settled bytes (Some held)) n ≡ block_bytes held.bytes (n % 2)
  held_block e =
      ap (λ (from : ℕ). part (settled bytes (Some held)) from 512) (sym (half e))
      ∙ part_in bytes (1024 * held.sector) held.bytes fits (512 * (n % 2)) 512 (omega (arith, held.full))

  other_block : (held.sector ≡ n / 2 → ⊥) → 512 * n + 512 ≤ length bytes → block_bytes (settled bytes (Some held)) n ≡ block_bytes bytes n
  other_block ne within =
      part_out bytes (1024 * held.sector) held.bytes fits (512 * n) 512 within
      (⊎_elim (λ u. inr (omega (arith, held.full))) (λ u. inl (omega (arith, ne))) (cases_lt held.sector (n / 2)))

  laid : (block : List ℕ) → length block ≡ 512 → held.sector ≡ n / 2 → with_part bytes (1024 * held.sector) (overwritten held.bytes (n % 2) block) ≡ overwritten (settled bytes (Some held)) n block
  laid block size e =
      part-within bytes (1024 * held.sector) held.bytes (512 * (n % 2)) block fits (omega (arith, held.full))
      ∙ ap (λ (from : ℕ). with_part (settled bytes (Some held)) from block) (half e)

module _ (bytes : List ℕ) (at : Option Held) (n : ℕ) (inside : held_end at ≤ length bytes) where
  -- a block is read from the held sector if it is there, and else from the bytes
  pub block_held : (held : Held) → at ≡ Some held → held.sector ≡ n / 2 → block_bytes held.bytes (n % 2) ≡ block_bytes (settled bytes at) n
  block_held held is e = rw is (sym (held_block bytes held n (rw is at inside) e))

  pub block_beside : ((held : Held) → at ≡ Some held → held.sector ≢ n / 2) → 512 * n + 512 ≤ length bytes → block_bytes bytes n ≡ block_bytes (settled bytes at) n
  block_beside ne within = go at refl where
    go : (a : Option Held) → at ≡ a → block_bytes bytes n ≡ block_bytes (settled bytes a) n
    go None is = refl
    go (Some held) is = sym (other_block bytes held n (rw is at inside) (ne held is) within)

  -- a block laid on its half of the held sector is laid on its place in all the bytes
  pub block_laid : (held : Held) (block : List ℕ) → at ≡ Some held → IsTrue (is_held at (n / 2)) → length block ≡ 512 → with_part bytes (1024 * held.sector) (overwritten held.bytes (n % 2) block) ≡ overwritten (settled bytes at) n block
  block_laid held block is here size = rw is (laid bytes held n (rw is at inside) block size (eqb-true _ _ (rw is at here)))
