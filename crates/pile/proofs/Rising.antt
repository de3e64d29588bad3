-- A pile level by level: from the bottom up for the count and the block at a place, from the top down for a block's place.
use Rattle.std.proofs.Common.{◌≡◌, ℕ, ◌<◌, Bool, true, false, cond, leb, List, [], ◌∷◌, take, Some, None, fold, Option, sym, refl, ap, ◌∙◌, arith, MatchOption}
use Rattle.volume.specs.Layouts.{Layout, Lawful, BlockAt, BlockOn, fitting, layered}
use Rattle.volume.specs.Fits.{fitting-place}
use Rattle.pile.specs.Piles.{pile_layout}

-- the block at a place, one level up
pub block_on : (u l : Layout) → Lawful u → Lawful l → (place : ℕ) (block r : Option ℕ) → BlockAt l place block → BlockOn u l.count block r → BlockAt (layered u l) place r
block_on u l ul ll place None r below on =
    rw on (λ n h e. below (u.place n) (fitting-place u l.count ul n h).1 e)
block_on u l ul ll place (Some m) r below on = at (leb u.total l.count) r (fitting-place u l.count ul) on where
  at : (t : Bool) (r : Option ℕ) → ((n : ℕ) → n < cond t u.count 0 → (n < u.count) × (u.place n < l.count)) → cond t (BlockAt u m r) (r ≡ None)
      → MatchOption r ((n : ℕ) → n < cond t u.count 0 → l.place (u.place n) ≡ place → ⊥) (λ n. (n < cond t u.count 0) × (l.place (u.place n) ≡ place))
  at true (Some n) low on = (on.0, ap l.place on.1 ∙ below.1)
  at true None low on = λ n h e. on n (low n h).0 (ll.apart (u.place n) m (low n h).1 below.0 (e ∙ sym below.1))
  at false (Some n) low on = absurd (cc)
  at false None low on = λ n h e. omega arith

module _ {P : Type 0} (layout : P → Layout) (bottom : P) (above : List P) where
  -- the bottom and the lowest i above it
  abbrev pub lowest : ℕ → Layout
  lowest i = pile_layout layout bottom (take i above)

  abbrev pub whole : Layout
  whole = pile_layout layout bottom above

  pub pile_total : whole.total ≡ (layout bottom).total
  pile_total = rising above (layout bottom) where
    rising : (uppers : List P) (lower : Layout) → (fold (λ lower upper. layered (layout upper) lower) lower uppers).total ≡ lower.total
    rising [] lower = refl
    rising (u ∷ us) lower = rising us (layered (layout u) lower)

  -- the count of the whole, by the counts alone
  pub pile_count : fold (λ there u. fitting (layout u).total there (layout u).count) (layout bottom).count above ≡ whole.count
  pile_count = rising above (layout bottom) where
    rising : (uppers : List P) (lower : Layout) → fold (λ there u. fitting (layout u).total there (layout u).count) lower.count uppers ≡ (fold (λ lower upper. layered (layout upper) lower) lower uppers).count
    rising [] lower = refl
    rising (u ∷ us) lower = rising us (layered (layout u) lower)

  -- block, of the lowest i, lies where block n of the whole pile does
  abbrev pub Lowered : ℕ → ℕ → ℕ → Type 0
  Lowered n i block = (block < (lowest i).count) × ((lowest i).place block ≡ whole.place n)
