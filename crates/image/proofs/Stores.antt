-- What a stored block changes of an image: that block, and nothing else.
use Rattle.std.proofs.Common.{◌≡◌, ℕ, ◌+◌, ◌*◌, ◌<◌, ◌≤◌, Bool, true, ◌≢◌, ◌⊎◌, List, length, get_or, set, sym, ap, ◌∙◌, inl, inr, ⊎_elim, arith}
use mathlib.Core.Path.{fun_ext}
use Rattle.std.proofs.lemmas.List.{length-set, get_or-set_same, get_or-set_other}
use Rattle.std.proofs.lemmas.Bool.{cond-true, lt-ltb, cases_lt}
use Rattle.std.proofs.lemmas.Bool.Decides.{nat_tests}
use Rattle.volume.proofs.Overwritten.{same_parts, length-with_part, with_part_out, part_new}
use Rattle.volume.specs.Parts.{part}
use Rattle.volume.specs.Meanings.{with_block, with_bottom, written}
use Rattle.image.specs.Images.{header_of, block_at, image_meaning, stored, Fits}
use Rattle.image.specs.Heads.{header_same, own_fits}
use Rattle.image.specs.declared.header.Header.{Header}

module _ (h : Header) (bs d : List ℕ) (i : ℕ) (fits : Fits h (length bs)) (within : i < h.count) (block : length d ≡ 512) where
  marked : length (set bs (h.map + i) 0) ≡ length bs
  marked = length-set bs (h.map + i) 0

  room : h.blocks + 512 * i + length d ≤ length (set bs (h.map + i) 0)
  room = omega (arith, marked)

  pub length-stored : length (stored h bs i d) ≡ length bs
  length-stored = length-with_part (set bs (h.map + i) 0) (h.blocks + 512 * i) d room ∙ marked

  -- a byte outside the block is as it was, but for the map byte
  byte_kept : (k z : ℕ) → (k < h.blocks + 512 * i) ⊎ (h.blocks + 512 * i + length d ≤ k) → k ≢ h.map + i → get_or (stored h bs i d) k z ≡ get_or bs k z
  byte_kept k z side ne = with_part_out (set bs (h.map + i) 0) (h.blocks + 512 * i) d room k z side ∙ get_or-set_other bs (h.map + i) k 0 z ne

  -- the map lies on one side of every block
  side : (j k : ℕ) → j < h.count → k < h.count → (h.map + k < h.blocks + 512 * j) ⊎ (h.blocks + 512 * j + length d ≤ h.map + k)
  side j k lj lk = ⊎_elim (λ u. inl (omega arith)) (λ u. inr (omega arith)) fits.apart

  pub header_kept : (k : ℕ) → k < 16 → get_or (stored h bs i d) k 0 ≡ get_or bs k 0
  header_kept k lt =
      let b : 16 ≤ h.blocks = fits.blocks_past (omega arith) in
      let m : 16 ≤ h.map = fits.map_past (omega arith) in
      byte_kept k 0 (inl (omega arith)) (λ e. omega arith)

  own_part : part (stored h bs i d) (h.blocks + 512 * i) 512 ≡ d
  own_part = ap (part (stored h bs i d) (h.blocks + 512 * i)) (sym block) ∙ part_new (set bs (h.map + i) 0) (h.blocks + 512 * i) d room

  own_byte : get_or (stored h bs i d) (h.map + i) 0 ≡ 0
  own_byte = with_part_out (set bs (h.map + i) 0) (h.blocks + 512 * i) d room (h.map + i) 0 (side i i within within) ∙ get_or-set_same bs (h.map + i) 0 0 (omega arith)

  other_byte : (k : ℕ) → k ≢ i → k < h.count → get_or (stored h bs i d) (h.map + k) 0 ≡ get_or bs (h.map + k) 0
  other_byte k ne lt = byte_kept (h.map + k) 0 (side i k within lt) (λ e. ne (omega arith))

  other_part : (k : ℕ) → k ≢ i → k < h.count → part (stored h bs i d) (h.blocks + 512 * k) 512 ≡ part bs (h.blocks + 512 * k) 512
  other_part k ne lt =
      let long = length-stored in
      same_parts (stored h bs i d) bs (h.blocks + 512 * k) (h.blocks + 512 * k) 512 (omega arith) (omega arith)
      (λ j z few.
      let off : (h.blocks + 512 * k + j < h.blocks + 512 * i) ⊎ (h.blocks + 512 * i + length d ≤ h.blocks + 512 * k + j) = ⊎_elim (λ u. inl (omega arith)) (λ u. inr (omega (arith, ne))) (cases_lt k i) in
      byte_kept (h.blocks + 512 * k + j) z off (λ e. ⊎_elim (λ u. omega arith) (λ u. omega arith) (side k i lt within)))

  pub blocks-stored : (k : ℕ) → block_at h (stored h bs i d) k ≡ with_block (block_at h bs) i d k
  blocks-stored k = grind (arith, nat_tests, own_part, own_byte, other_byte, other_part)

-- bytes that are an image with a block stored have its header, and mean the image after the write
module _ (h : Header) (bs d cs : List ℕ) (i : ℕ) (own : h ≡ header_of bs) (within : i < h.count) (block : length d ≡ 512) (is : cs ≡ stored h bs i d) where
  fits : Fits h (length bs)
  fits = own_fits h bs own

  pub header-stored : h ≡ header_of cs
  header-stored = rw (own, is) (sym (header_same (stored h bs i d) bs (length-stored h bs d i fits within block) (header_kept h bs d i fits within block)))

  pub meaning_stored : (writable : Bool) → image_meaning writable cs ≡ with_bottom (image_meaning writable bs) (with_block (block_at h bs) i d)
  meaning_stored writable =
      let blocks : block_at h cs ≡ with_block (block_at h bs) i d = ap (block_at h) is ∙ fun_ext (blocks-stored h bs d i fits within block) in
      rw (← header-stored, ← own, blocks)

  pub meaning-stored : image_meaning true cs ≡ written (image_meaning true bs) i d
  meaning-stored = meaning_stored true ∙ rw (← own, cond-true _ _ _ (lt-ltb i h.count within))
