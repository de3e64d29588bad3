-- The law of an image's meaning.
use Rattle.std.specs.Prelude.{◌≡◌, ℕ, ◌+◌, ◌*◌, Bool, true, false, cond, List, length, drop, refl}
use Rattle.std.proofs.Common.{ap, arith, length-take, length-drop}
use Rattle.std.proofs.lemmas.Bool.{ltb-true}
use Rattle.volume.specs.Meanings.{sound, lost, Sound}
use Rattle.image.specs.Images.{header_of, block_at, image_meaning, Fits}
use Rattle.image.specs.declared.header.Header.{Header}
use Rattle.image.specs.Heads.{header_fits}

sound_if : (s t : Bool) (x b : List ℕ) → cond s (cond t (sound x) lost) lost ≡ sound b → (s ≡ true) × (x ≡ b)
sound_if true true x b e = (refl, cc)
sound_if true false x b e = grind arith
sound_if false t x b e = grind arith

blocks-whole : (h : Header) (bs : List ℕ) → Fits h (length bs) → (k : ℕ) (b : List ℕ) → block_at h bs k ≡ sound b → length b ≡ 512
blocks-whole h bs fits k b e =
    let p = sound_if _ _ _ _ e in
    let lt = ltb-true k h.count p.0 in
    omega (arith, ap length p.1, length-take 512 (drop (h.blocks + 512 * k) bs), length-drop (h.blocks + 512 * k) bs, fits.blocks_within)

pub image_sound : (writable : Bool) (bs : List ℕ) → Sound (image_meaning writable bs)
image_sound writable bs = record { few = (header_fits bs).few; apart = λ i j hi hj e. e; whole = blocks-whole (header_of bs) bs (header_fits bs) }
