-- The block at a place, under spared tracks.
use Rattle.std.proofs.Common.{◌≡◌, ℕ, ◌+◌, ◌-◌, ◌*◌, ◌/◌, ◌%◌, ◌<◌, ◌≤◌, Bool, true, false, ltb, List, Some, None, sym, refl, ap, ◌∙◌, arith}
use Rattle.std.specs.Bool.{then_some}
use Rattle.std.proofs.lemmas.Nat.{div-add-mod', div-mul-add, mod-mul-add, div_below, mod_below, mul-add-lt, mul-le}
use Rattle.std.proofs.lemmas.Bool.{ltb-true, ltb-false}
use Rattle.volume.specs.Layouts.{BlockAt}
use Rattle.placement.specs.Tracks.{track_layout, ShapeFits, ListFits}
use Rattle.placement.specs.Shifts.{shift, rank, shift_least, shift_same, rank-shift, shift-rank, positive, split, place-shift, spared_lawful}
use Rattle.placement.specs.declared.shape.Shape.{Shape}

module _ (d : Shape) (ss : List ℕ) (shape : ShapeFits d) (list : ListFits d ss) where
  pub place_small : (n : ℕ) → n < (track_layout d ss).count → shift (d.firmware + n / d.sectors) ss * d.sectors + n % d.sectors < 4294967296
  place_small n h =
      omega (arith, place-shift d ss shape list n h, (spared_lawful d ss shape list).within n h, mul-le d.tracks d.sectors 65535 64 shape.1 shape.2)

  module _ (p : ℕ) where
    at : (n : ℕ) → n < (track_layout d ss).count → (track_layout d ss).place n ≡ p → shift (d.firmware + n / d.sectors) ss ≡ p / d.sectors
    at n h e = (split d.sectors (shift (d.firmware + n / d.sectors) ss) n p (positive (d.tracks - d.firmware - d.spares) d.sectors n h) (sym (place-shift d ss shape list n h) ∙ e)).0

    -- no block lies on a firmware track
    pub none_firmware : p / d.sectors < d.firmware → BlockAt (track_layout d ss) p None
    none_firmware low n h e = omega (arith, at n h e, shift_least ss (d.firmware + n / d.sectors))

    -- nor on a spared one
    pub none_spared : rank (p / d.sectors) 0 ss ≡ None → BlockAt (track_layout d ss) p None
    none_spared none n h e =
        let was = rank-shift ss d.firmware d.tracks (d.firmware + n / d.sectors) 0 list.0 in
        let here = ap (λ u. rank u 0 ss) (at n h e) in
        absurd (cc)

    module _ (m : ℕ) (from : d.firmware ≤ p / d.sectors) (ranked : rank (p / d.sectors) 0 ss ≡ Some m) where
      -- the logical track there
      abbrev k : ℕ
      k = p / d.sectors - d.firmware - m

      pub back : (m ≤ p / d.sectors - d.firmware) × (shift (d.firmware + k) ss ≡ p / d.sectors)
      back =
          let r = shift-rank ss d.firmware d.tracks (p / d.sectors) 0 m list.0 from ranked in
          (omega (arith, r), ap (λ t. shift t ss) (omega (arith, r)) ∙ r.2)

      -- nor on one of those kept back
      none_reserve : d.tracks - d.firmware - d.spares ≤ k → BlockAt (track_layout d ss) p None
      none_reserve high n h e =
          let c = d.tracks - d.firmware - d.spares in
          let same = shift_same ss (d.firmware + n / d.sectors) (d.firmware + k) (at n h e ∙ sym back.1) in
          omega (arith, same, div_below n d.sectors c (positive c d.sectors n h) h)

      some_block : 0 < d.sectors → k < d.tracks - d.firmware - d.spares → BlockAt (track_layout d ss) p (Some (k * d.sectors + p % d.sectors))
      some_block pos low =
          let s = d.sectors in
          let r = mod_below p s pos in
          let n = k * s + p % s in
          let below : n < (track_layout d ss).count = omega (arith, mul-add-lt k s (p % s) (d.tracks - d.firmware - d.spares) low r) in
          let track : shift (d.firmware + n / s) ss ≡ p / s = ap (λ q. shift (d.firmware + q) ss) (div-mul-add k s (p % s) r) ∙ back.1 in
          (below, place-shift d ss shape list n below ∙ ap (λ q. q * s + n % s) track ∙ ap (λ q. p / s * s + q) (mod-mul-add k s (p % s) r) ∙ div-add-mod' p s)

      -- on any other track the sector's block is as many tracks up, less those spared below
      pub some_or_none : 0 < d.sectors → BlockAt (track_layout d ss) p (then_some (ltb k (d.tracks - d.firmware - d.spares)) (k * d.sectors + p % d.sectors))
      some_or_none pos =
          let c = d.tracks - d.firmware - d.spares in
          by (ltb k c) (λ e. some_block pos (ltb-true k c e)) (λ e. none_reserve (ltb-false k c e)) where
            by : (t : Bool) → (t ≡ true → BlockAt (track_layout d ss) p (Some (k * d.sectors + p % d.sectors))) → (t ≡ false → BlockAt (track_layout d ss) p None) → BlockAt (track_layout d ss) p (then_some t (k * d.sectors + p % d.sectors))
            by true some none = some refl
            by false some none = none refl
