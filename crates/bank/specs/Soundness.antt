-- The meaning of plain bytes is sound.
use Rattle.std.specs.Prelude.{◌≡◌, ℕ, ◌+◌, ◌*◌, ◌<◌, ◌≤◌, Bool, true, false, cond, List, length, drop, refl}
use Rattle.std.proofs.Common.{ap, arith, length-take, length-drop}
use Rattle.std.proofs.lemmas.Bool.{ltb-true}
use Rattle.volume.specs.Meanings.{Sound, sound, lost}
use Rattle.bank.specs.Sectors.{block_count, bank_meaning}

-- a block below the count lies within the bytes
pub block_within : (n k : ℕ) → k < block_count n → 512 * k + 512 ≤ n
block_within n k h = omega arith

sound_if : (t : Bool) (x bytes : List ℕ) → cond t (sound x) lost ≡ sound bytes → (t ≡ true) × (x ≡ bytes)
sound_if true x bytes e = (refl, cc)
sound_if false x bytes e = grind arith

pub bank_sound : (bytes : List ℕ) → Sound (bank_meaning bytes)
bank_sound bytes = record {
  few = omega arith;
  apart = λ i j hi hj e. e;
  whole = λ k b e.
      let p = sound_if _ _ _ e in
      let w = block_within (length bytes) k (ltb-true k _ p.0) in
      omega (arith, ap length p.1, length-take 512 (drop (512 * k) bytes), length-drop (512 * k) bytes);
}
