-- A new image: a header that says where its map and its blocks lie, with zeros behind it, is a volume of sound blocks of zeros.
use Rattle.std.proofs.Common.{◌≡◌, ℕ, ◌+◌, ◌-◌, ◌*◌, ◌<◌, ◌≤◌, Bool, true, List, ◌++◌, length, get_or, take, drop, replicate, refl, sym, ap, ◌∙◌, arith}
use mathlib.Core.Path.{fun_ext}
use Rattle.std.proofs.lemmas.List.{length-append, length-replicate, get_or_append_left, get_or-append_right, get_or-replicate, drop-replicate, take-replicate, drop-drop, drop_at}
use Rattle.std.proofs.lemmas.Bool.Decides.{nat_tests}
use Rattle.image.specs.Images.{word, header_of, block_at, image_meaning}
use Rattle.image.specs.Makes.{zeroed}
use Rattle.image.specs.declared.header.Header.{Header}

abbrev new_head : ℕ → Header
new_head count = record { count = count; map = 16; blocks = 16 + count }

module _ (hd : List ℕ) (count : ℕ) (least : 1 ≤ count) (most : count ≤ 1048576) (sixteen : length hd ≡ 16) (counts : word hd 0 ≡ count) (maps : word hd 4 ≡ 16) (starts : word hd 8 ≡ 16 + count) (ends : word hd 12 ≡ 16 + 513 * count) where
  long : length (hd ++ replicate (513 * count) 0) ≡ 16 + 513 * count
  long = omega (arith, length-append hd (replicate (513 * count) 0), length-replicate {A = ℕ} (513 * count) 0)

  word_hd : (i : ℕ) → i + 3 < 16 → word (hd ++ replicate (513 * count) 0) i ≡ word hd i
  word_hd i h =
      let at : (k : ℕ) → k < 16 → get_or (hd ++ replicate (513 * count) 0) k 0 ≡ get_or hd k 0 = λ k lt. get_or_append_left hd (replicate (513 * count) 0) 0 k (omega arith) in
      let a = at i (omega arith) in
      let b = at (i + 1) (omega arith) in
      let c = at (i + 2) (omega arith) in
      let d = at (i + 3) (omega arith) in
      cc

  new_header : header_of (hd ++ replicate (513 * count) 0) ≡ new_head count
  unfolding header_of
  new_header =
      let w0 = word_hd 0 (omega arith) in
      let w4 = word_hd 4 (omega arith) in
      let w8 = word_hd 8 (omega arith) in
      let w12 = word_hd 12 (omega arith) in
      let n = long in
      grind (arith, nat_tests)

  zero_at : (k : ℕ) → k < 513 * count → get_or (hd ++ replicate (513 * count) 0) (16 + k) 0 ≡ 0
  zero_at k h = get_or-append_right hd (replicate (513 * count) 0) 16 (16 + k) 0 sixteen (omega arith) ∙ ap (λ j. get_or (replicate (513 * count) 0) j 0) (omega arith) ∙ get_or-replicate (513 * count) k 0 0 h

  zero_block : (k : ℕ) → k < count → take 512 (drop (16 + count + 512 * k) (hd ++ replicate (513 * count) 0)) ≡ replicate 512 0
  zero_block k h =
      let zs : List ℕ = replicate (513 * count) 0 in
      let behind : drop (16 + count + 512 * k) (hd ++ zs) ≡ replicate (513 * count - (count + 512 * k)) 0 = ap (λ j. drop j (hd ++ zs)) (omega arith) ∙ sym (drop-drop (count + 512 * k) 16 (hd ++ zs)) ∙ ap (drop (count + 512 * k)) (drop_at hd zs 16 sixteen) ∙ drop-replicate (count + 512 * k) (513 * count) 0 in
      ap (take 512) behind ∙ take-replicate 512 (513 * count - (count + 512 * k)) 0 (omega arith)

  new_block : (k : ℕ) → block_at (new_head count) (hd ++ replicate (513 * count) 0) k ≡ (zeroed true count).bottom k
  new_block k = grind (arith, nat_tests, zero_at, zero_block)

  pub new_image : (writable : Bool) → image_meaning writable (hd ++ replicate (513 * count) 0) ≡ zeroed writable count
  new_image writable = rw (new_header, fun_ext new_block) refl
