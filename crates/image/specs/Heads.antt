-- What the check gives of a header, and that bytes which agree on the header have the same.
use Rattle.std.specs.Prelude.{◌≡◌, ℕ, ◌+◌, ◌*◌, ◌<◌, Bool, true, false, cond, ◌⊎◌, List, length, Ok, Err, nat_le, slice_index, refl}
use Rattle.std.proofs.Common.{inl, inr, ⊎_elim, arith}
use Rattle.std.proofs.lemmas.Bool.{leb-true}
use Rattle.std.proofs.lemmas.Bool.Decides.{nat_tests}
use Rattle.image.specs.Images.{word, head_of, sound_head, header_of, Fits}
use Rattle.image.specs.declared.header.Header.{Header}
use Rattle.image.specs.declared.fault.Fault.TheVariants.{Count, Map, Blocks, Overlap}

none : (n : ℕ) → Fits (record { count = 0; map = 0; blocks = 0 }) n
none n = record { few = omega arith; map_within = omega arith; blocks_within = omega arith; map_past = λ h. omega arith; blocks_past = λ h. omega arith; apart = inl (omega arith) }

head_fits : (h : Header) (n : ℕ) (a b c d : Bool) → (a ≡ true → (nat_le 1 h.count ≡ true) × (nat_le h.count 1048576 ≡ true)) → (b ≡ true → (nat_le 16 h.map ≡ true) × (nat_le (h.map + h.count) n ≡ true)) → (c ≡ true → (nat_le 16 h.blocks ≡ true) × (nat_le (h.blocks + 512 * h.count) n ≡ true)) → (d ≡ true → (nat_le (h.map + h.count) h.blocks ≡ true) ⊎ (nat_le (h.blocks + 512 * h.count) h.map ≡ true)) → Fits (sound_head (cond a (cond b (cond c (cond d (Ok h) (Err Overlap)) (Err Blocks)) (Err Map)) (Err Count))) n
head_fits h n true true true true fa fb fc fd =
    let a = fa refl in
    let b = fb refl in
    let c = fc refl in
    record {
      few = leb-true _ _ a.1;
      map_within = leb-true _ _ b.1;
      blocks_within = leb-true _ _ c.1;
      map_past = λ _. leb-true _ _ b.0;
      blocks_past = λ _. leb-true _ _ c.0;
      apart = ⊎_elim (λ e. inl (leb-true _ _ e)) (λ e. inr (leb-true _ _ e)) (fd refl);
    }
head_fits h n true true true false fa fb fc fd = none n
head_fits h n true true false d fa fb fc fd = none n
head_fits h n true false c d fa fb fc fd = none n
head_fits h n false b c d fa fb fc fd = none n

pub header_fits : (bs : List ℕ) → Fits (header_of bs) (length bs)
unfolding header_of
header_fits bs = record {
  few = grind (arith, nat_tests);
  map_within = grind (arith, nat_tests);
  blocks_within = grind (arith, nat_tests);
  map_past = λ h. grind (arith, nat_tests);
  blocks_past = λ h. grind (arith, nat_tests);
  apart = grind (arith, nat_tests);
}

pub header_same : (bs cs : List ℕ) → length bs ≡ length cs → ((k : ℕ) → k < 16 → slice_index bs k ≡ slice_index cs k) → header_of bs ≡ header_of cs
unfolding header_of
header_same bs cs long same =
    let w : (i : ℕ) → i + 3 < 16 → word bs i ≡ word cs i = λ i h.
    let a = same i (omega arith) in
    let b = same (i + 1) (omega arith) in
    let c = same (i + 2) (omega arith) in
    let d = same (i + 3) (omega arith) in cc in
    let w0 : word bs 0 ≡ word cs 0 = w 0 (omega arith) in
    let w4 : word bs 4 ≡ word cs 4 = w 4 (omega arith) in
    let w8 : word bs 8 ≡ word cs 8 = w 8 (omega arith) in
    let w12 : word bs 12 ≡ word cs 12 = w 12 (omega arith) in
    let head : head_of bs ≡ head_of cs = cc in
    cc

pub own_fits : (h : Header) (bs : List ℕ) → h ≡ header_of bs → Fits h (length bs)
own_fits h bs own = rw own (header_fits bs)
