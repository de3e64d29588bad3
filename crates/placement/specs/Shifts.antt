-- How places are worked out: a track moves on past the spared ones, and is led back by counting those below it.
use Rattle.std.specs.Prelude.{◌≡◌, ℕ, zero, suc, ◌+◌, ◌-◌, ◌*◌, ◌/◌, ◌%◌, ◌<◌, ◌≤◌, Bool, true, false, cond, not, ◌||◌, ◌⊎◌, List, [], ◌∷◌, length, Some, None, filter, Option, ◌==◌, nat_le, nat_lt, slice_index, refl}
use Rattle.std.proofs.Common.{sym, ap, ◌∙◌, inl, inr, ⊎_elim, arith, mul-zero, mul-le-mul_right}
use Rattle.std.specs.List.{range_with_len}
use Rattle.std.proofs.lemmas.Bool.Decides.{nat_tests}
use Rattle.std.proofs.lemmas.Bool.{and_parts, leb-true, ltb-true, eq-eqb, ne_eqb, cases_lt, cases_order, cond-true, cond-false}
use Rattle.std.proofs.lemmas.Nat.{div-add-mod', div-mul-add, mod-mul-add, div_below, mod_below, mul-add-lt}
use Rattle.volume.specs.Layouts.{Lawful}
use Rattle.placement.specs.Tracks.{is_spared, usable, track_layout, rising, ShapeFits, ListFits}
use Rattle.placement.specs.declared.shape.Shape.{Shape}

abbrev pub step : ℕ → ℕ → ℕ
step s t = t + cond (nat_le s t) 1 0

-- track t, moved on past each spared track at or below it
abbrev pub shift : ℕ → List ℕ → ℕ
shift t [] = t
shift t (s ∷ ss) = shift (step s t) ss

-- how many spared tracks lie below u, or None where u is spared itself; n of them are counted already
abbrev pub rank : ℕ → ℕ → List ℕ → Option ℕ
rank u n [] = Some n
rank u n (s ∷ ss) = cond (s == u) None (rank u (n + cond (nat_lt s u) 1 0) ss)

-- Moving on

pub step_cases : (s t : ℕ) → ((s ≤ t) × (step s t ≡ t + 1)) ⊎ ((t < s) × (step s t ≡ t))
step_cases s t = ⊎_elim (λ h. inr (h, grind (arith, nat_tests))) (λ h. inl (h, grind (arith, nat_tests))) (cases_lt t s)

step_lt : (s a b : ℕ) → a < b → step s a < step s b
step_lt s a b h = grind (arith, nat_tests)

shift_lt : (ss : List ℕ) (a b : ℕ) → a < b → shift a ss < shift b ss
shift_lt [] a b h = h
shift_lt (s ∷ ss) a b h = shift_lt ss (step s a) (step s b) (step_lt s a b h)

pub shift_same : (ss : List ℕ) (a b : ℕ) → shift a ss ≡ shift b ss → a ≡ b
shift_same ss a b e = grind (arith, shift_lt ss a b, shift_lt ss b a)

shift-most : (ss : List ℕ) (t : ℕ) → shift t ss ≤ t + length ss
shift-most [] t = omega arith
shift-most (s ∷ ss) t =
    grind (arith, nat_tests, shift-most ss (step s t))

pub shift_least : (ss : List ℕ) (t : ℕ) → t ≤ shift t ss
shift_least [] t = omega arith
shift_least (s ∷ ss) t =
    grind (arith, nat_tests, shift_least ss (step s t))

-- Rising lists

pub rising_head : (lo hi s : ℕ) (ss : List ℕ) → rising lo hi (s ∷ ss) ≡ true → (lo ≤ s) × (s < hi) × (rising (s + 1) hi ss ≡ true)
rising_head lo hi s ss e =
    let p = and_parts _ _ e in
    let q = and_parts _ _ p.0 in
    (leb-true lo s q.0, ltb-true s hi q.1, p.1)

pub rising-from : (lo hi s : ℕ) (ss : List ℕ) → lo ≤ s → s < hi → rising (s + 1) hi ss ≡ true → rising lo hi (s ∷ ss) ≡ true
rising-from lo hi s ss low high rest = grind (arith, nat_tests)

-- the first track is below all that are spared, or is the first of them
rising_cases : (lo hi : ℕ) (ss : List ℕ) → rising lo hi ss ≡ true → (rising (lo + 1) hi ss ≡ true) ⊎ ((rest : List ℕ) × (ss ≡ lo ∷ rest) × (rising (lo + 1) hi rest ≡ true))
rising_cases lo hi [] e = inl refl
rising_cases lo hi (s ∷ ss) e =
    let p = rising_head lo hi s ss e in
    ⊎_elim
    (λ h. inl (rising-from (lo + 1) hi s ss (omega arith) p.1 p.2))
    (λ h. let same : s ≡ lo = omega (arith, p) in inr (ss, ap (λ y. y ∷ ss) same, sym (ap (λ y. rising (y + 1) hi ss) same) ∙ p.2))
    (cases_lt lo s)

shift_none : (ss : List ℕ) (lo hi t : ℕ) → rising lo hi ss ≡ true → t < lo → shift t ss ≡ t
shift_none [] lo hi t e h = refl
shift_none (s ∷ ss) lo hi t e h =
    let p = rising_head lo hi s ss e in
    grind (arith, nat_tests, p.0, shift_none ss (s + 1) hi t p.2 (omega (arith, p)))

spared_none : (ss : List ℕ) (lo hi t : ℕ) → rising lo hi ss ≡ true → t < lo → is_spared ss t ≡ false
spared_none [] lo hi t e h = refl
spared_none (s ∷ ss) lo hi t e h =
    let p = rising_head lo hi s ss e in
    grind (arith, nat_tests, p.0, spared_none ss (s + 1) hi t p.2 (omega (arith, p)))

-- The tracks that are not spared

kept_first : (t : ℕ) (rest ss : List ℕ) (k : ℕ) → shift t ss ≡ t → ((j : ℕ) → k ≡ j + 1 → slice_index rest j ≡ shift (t + 1 + j) ss) → slice_index (t ∷ rest) k ≡ shift (t + k) ss
kept_first t rest ss zero first more = sym (ap (λ y. shift y ss) (omega arith) ∙ first)
kept_first t rest ss (suc k) first more = more k (omega arith) ∙ ap (λ y. shift y ss) (omega arith)

-- the k-th of the n tracks from lo up that pass a test, where the test is not to be spared
kept_shift : (test : ℕ → Bool) (n lo hi k : ℕ) (ss : List ℕ) → rising lo hi ss ≡ true → ((t : ℕ) → lo ≤ t → test t ≡ not (is_spared ss t)) → k + length ss < n → slice_index (filter test (range_with_len lo n)) k ≡ shift (lo + k) ss
kept_shift test zero lo hi k ss e same h = absurd (omega arith)
kept_shift test (suc n) lo hi k ss e same h =
    let rest = filter test (range_with_len (lo + 1) n) in
    ⊎_elim
    (λ above.
    let kept = cond-true _ (lo ∷ rest) rest (same lo (omega arith) ∙ ap not (spared_none ss (lo + 1) hi lo above (omega arith))) in
    ap (λ y. slice_index y k) kept ∙ kept_first lo rest ss k (shift_none ss (lo + 1) hi lo above (omega arith)) (λ j is. kept_shift test n (lo + 1) hi j ss above (λ t g. same t (omega arith)) (omega arith)))
    (λ p.
    let left = cond-false _ (lo ∷ rest) rest (same lo (omega arith) ∙ ap (λ y. not (is_spared y lo)) p.1 ∙ ap (λ b. not (b || is_spared p.0 lo)) (eq-eqb lo lo refl)) in
    let others : (t : ℕ) → lo + 1 ≤ t → test t ≡ not (is_spared p.0 t) = λ t g. same t (omega arith) ∙ ap (λ y. not (is_spared y t)) p.1 ∙ ap (λ b. not (b || is_spared p.0 t)) (ne_eqb lo t (λ q. omega arith)) in
    let moved : step lo (lo + k) ≡ lo + 1 + k = ⊎_elim (λ q. omega arith) (λ q. omega arith) (step_cases lo (lo + k)) in
    ap (λ y. slice_index y k) left ∙ kept_shift test n (lo + 1) hi k p.0 p.2 others (omega (arith, ap length p.1)) ∙ sym (ap (shift (lo + k)) p.1 ∙ ap (λ y. shift y p.0) moved))
    (rising_cases lo hi ss e)

-- Places

pub positive : (c s n : ℕ) → n < c * s → 0 < s
positive c s n h = ⊎_elim (λ p. p) (λ z. let e : s ≡ 0 = omega arith in absurd (omega (arith, ap (λ y. c * y) e ∙ mul-zero c))) (cases_lt 0 s)

pub split : (s a n p : ℕ) → 0 < s → a * s + n % s ≡ p → (a ≡ p / s) × (n % s ≡ p % s)
split s a n p pos e =
    let r = mod_below n s pos in
    (sym (div-mul-add a s (n % s) r) ∙ ap (λ y. y / s) e, sym (mod-mul-add a s (n % s) r) ∙ ap (λ y. y % s) e)

module _ (d : Shape) (ss : List ℕ) (shape : ShapeFits d) (list : ListFits d ss) where
  -- logical track k is track f + k, moved on past the spared ones
  pub usable-shift : (k : ℕ) → k < d.tracks - d.firmware - d.spares → slice_index (usable d ss) k ≡ shift (d.firmware + k) ss
  usable-shift k h = kept_shift (λ t. not (is_spared ss t)) (d.tracks - d.firmware) d.firmware d.tracks k ss list.0 (λ t g. refl) (omega arith)

  pub place-shift : (n : ℕ) → n < (track_layout d ss).count → (track_layout d ss).place n ≡ shift (d.firmware + n / d.sectors) ss * d.sectors + n % d.sectors
  place-shift n h = ap (λ t. t * d.sectors + n % d.sectors) (usable-shift (n / d.sectors) (div_below n d.sectors (d.tracks - d.firmware - d.spares) (positive (d.tracks - d.firmware - d.spares) d.sectors n h) h))

  pub spared_lawful : Lawful (track_layout d ss)
  spared_lawful =
      let s = d.sectors in
      let c = d.tracks - d.firmware - d.spares in
      let track : ℕ → ℕ = λ n. shift (d.firmware + n / s) ss in
      record {
        few = mul-le-mul_right s (omega arith);
        within = λ n h.
            let pos = positive c s n h in
            let low : track n < d.tracks = omega (arith, shift-most ss (d.firmware + n / s), div_below n s c pos h) in
            omega (arith, place-shift n h, mul-add-lt (track n) s (n % s) d.tracks low (mod_below n s pos));
        apart = λ i j hi hj e.
            let p = track j * s + j % s in
            let a = split s (track i) i p (positive c s i hi) (sym (place-shift i hi) ∙ e ∙ place-shift j hj) in
            let b = split s (track j) j p (positive c s j hj) refl in
            let same : i / s ≡ j / s = omega (arith, shift_same ss (d.firmware + i / s) (d.firmware + j / s) (a.0 ∙ sym b.0)) in
            sym (div-add-mod' i s) ∙ (ap (λ q. q * s + i % s) same ∙ ap (λ r. j / s * s + r) (a.1 ∙ sym b.1)) ∙ div-add-mod' j s;
      }

-- Counting back

rank_step : (u n s : ℕ) (ss : List ℕ) → s < u → rank u n (s ∷ ss) ≡ rank u (n + 1) ss
rank_step u n s ss h = grind (arith, nat_tests)

rank_skip : (u n s : ℕ) (ss : List ℕ) → u < s → rank u n (s ∷ ss) ≡ rank u n ss
rank_skip u n s ss h = grind (arith, nat_tests)

rank_hit : (u n s : ℕ) (ss : List ℕ) → s ≡ u → rank u n (s ∷ ss) ≡ None
rank_hit u n s ss h = grind (arith, nat_tests)

-- a track below them all comes after none
rank_none : (ss : List ℕ) (lo hi u n : ℕ) → rising lo hi ss ≡ true → u < lo → rank u n ss ≡ Some n
rank_none [] lo hi u n e h = refl
rank_none (s ∷ ss) lo hi u n e h =
    let p = rising_head lo hi s ss e in
    rank_skip u n s ss (omega (arith, p)) ∙ rank_none ss (s + 1) hi u n p.2 (omega (arith, p))

-- the track that a shift gives is not spared, and comes after as many as it was moved by
pub rank-shift : (ss : List ℕ) (lo hi t n : ℕ) → rising lo hi ss ≡ true → rank (shift t ss) n ss ≡ Some (n + (shift t ss - t))
rank-shift [] lo hi t n e = ap Some (omega arith)
rank-shift (s ∷ ss) lo hi t n e =
    let p = rising_head lo hi s ss e in
    let least = shift_least ss (step s t) in
    grind (arith, nat_tests, shift_none ss (s + 1) hi t p.2, rank-shift ss (s + 1) hi (step s t) n p.2, rank-shift ss (s + 1) hi (step s t) (n + 1) p.2)

-- and where a track comes after m spared ones, a shift of the track m below gives it
pub shift-rank : (ss : List ℕ) (lo hi u n m : ℕ) → rising lo hi ss ≡ true → lo ≤ u → rank u n ss ≡ Some m → (n ≤ m) × (lo + (m - n) ≤ u) × (shift (u - (m - n)) ss ≡ u)
shift-rank [] lo hi u n m e h r = let same : n ≡ m = cc in (omega arith, omega arith, omega arith)
shift-rank (s ∷ ss) lo hi u n m e h r =
    let p = rising_head lo hi s ss e in
    ⊎_elim
    (λ same. let none = rank_hit u n s ss same in absurd (cc))
    (λ apart. ⊎_elim
    (λ above.
    let q = shift-rank ss (s + 1) hi u (n + 1) m p.2 (omega arith) (sym (rank_step u n s ss above) ∙ r) in
    let first : step s (u - (m - n)) ≡ u - (m - (n + 1)) = grind (arith, nat_tests, q.0, q.1) in
    (omega (arith, q), omega (arith, q, p), ap (λ y. shift y ss) first ∙ q.2))
    (λ below.
    let up = rising-from s hi s ss (omega arith) p.1 p.2 in
    let none = rank_none (s ∷ ss) s hi u n up below in
    let same : n ≡ m = cc in
    (omega arith, omega arith, ap (λ y. shift y (s ∷ ss)) (omega arith) ∙ shift_none (s ∷ ss) s hi u up below))
    apart)
    (cases_order s u)
