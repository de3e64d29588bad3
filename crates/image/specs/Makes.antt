-- A new image: its header, and zeros behind it.
use Rattle.std.specs.Prelude.{◌≡◌, ℕ, ◌*◌, ◌<◌, Bool, cond, ◌⊎◌, List, ◌++◌, replicate, Option, MatchOption, nat_lt}
use Rattle.volume.specs.Meanings.{sound, lost, Meaning}
use Rattle.image.specs.Images.{image_meaning}

-- a volume of that many blocks, all sound, all zero
abbrev pub zeroed : Bool → ℕ → Meaning
zeroed writable count = record {
  count = count;
  writable = writable;
  place = λ n. n;
  bottom = λ k. cond (nat_lt k count) (sound (replicate 512 0)) lost;
}

-- no header for a count that no image has; else a header that, with 513 zeros for each block behind it, is such a volume
abbrev pub New : ℕ → Option (List ℕ) → Type 0
New count r = MatchOption r ((count < 1) ⊎ (1048576 < count)) (λ head. (writable : Bool) → image_meaning writable (head ++ replicate (513 * count) 0) ≡ zeroed writable count)
