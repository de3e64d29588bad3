-- The law of blocks.
use Rattle.std.proofs.Common.{◌≡◌, ℕ, ◌<◌, ◌≤◌, Bool, true, false, cond, eqb, List, ◌∷◌, Some, None, Option, sym, refl, ap, ◌∙◌, subst, inl, inr, arith}
use Rattle.std.proofs.lemmas.Bool.{ne_eqb, eqb-true}
use Rattle.volume.specs.Meanings.{Block, sound, Meaning}
use Rattle.model.specs.declared.pipe.Area.{Area}
use Rattle.model.specs.Worlds.{World}
use Rattle.model.specs.Sectors.{area_end, overwritten}
use Rattle.model.specs.Effects.{Effect, nothing}
use Rattle.model.specs.Laws.{Covered, laid, laid_in_turn}
use Rattle.model.proofs.Changes.{Change, still, renames, lays, covers, begins, reopens, hands_out, brings, closes}
use Rattle.model.proofs.Entries.{Lies, found, all_found, all_lie, next_below}
use Rattle.model.proofs.PipeLaw.{Piped, enter}

-- every block of the area that there is has been covered
abbrev pub CoveredArea : (ℕ → ℕ) → List Effect → Option Area → Type 0
CoveredArea place es None = Unit {0}
CoveredArea place es (Some a) = (n : ℕ) → a.first ≤ n → n < area_end a → Covered place (place n) es

abbrev pub LaidOver : Meaning → List Effect → (ℕ → Block) → Type 0
LaidOver m₀ es bottom = (q : ℕ) → (Covered m₀.place q es → ⊥) → bottom q ≡ laid_in_turn m₀.place q es (m₀.bottom q)

pub record Laid (m₀ : Meaning) (es : List Effect) (w : World) : Type 0 where
  pub place : w.volume.place ≡ m₀.place
  pub area : CoveredArea m₀.place es w.area
  pub blocks : LaidOver m₀ es w.volume.bottom

still_covered : (place : ℕ → ℕ) (es : List Effect) (e : Effect) (o : Option Area) → CoveredArea place es o → CoveredArea place (e ∷ es) o
still_covered place es e None c = tt
still_covered place es e (Some a) c = λ n x y. inr (c n x y)

covered_at : (place : ℕ → ℕ) (es : List Effect) (o : Option Area) (a : Area) → o ≡ Some a → CoveredArea place es o → CoveredArea place es (Some a)
covered_at place es o a e c = subst (CoveredArea place es) e c

-- a Write laid on the block at its place, at q: the place now and at the making are one
laid_alike : (bottom : ℕ → Block) (q r r₀ first : ℕ) (new : List ℕ) (old : Block) → r ≡ r₀ → bottom q ≡ old → cond (eqb q r) (sound (overwritten first new (bottom r))) (bottom q) ≡ cond (eqb q r₀) (sound (overwritten first new old)) old
laid_alike bottom q r r₀ first new old f g = go (eqb q r) refl ∙ ap (λ x. cond (eqb q x) (sound (overwritten first new old)) old) f
  where
    go : (b : Bool) → eqb q r ≡ b → cond b (sound (overwritten first new (bottom r))) (bottom q) ≡ cond b (sound (overwritten first new old)) old
    go true h = ap (λ x. sound (overwritten first new x)) (sym (ap bottom (eqb-true q r h)) ∙ g)
    go false h = g

module _ (m₀ : Meaning) (es : List Effect) (w : World) (c : Laid m₀ es w) where
  -- an effect that lays nothing, and leaves volume and area
  quiet : (e : Effect) (v : World) → v.volume ≡ w.volume → v.area ≡ w.area → ((q : ℕ) (b : Block) → b ≡ laid m₀.place q e b) → Laid m₀ (e ∷ es) v
  quiet e v same area lays-none = record {
    place = ap (λ (m : Meaning). m.place) same ∙ c.place;
    area = subst (CoveredArea m₀.place (e ∷ es)) (sym area) (still_covered _ es e _ c.area);
    blocks = λ q n. ap (λ (m : Meaning). m.bottom q) same ∙ c.blocks q (λ x. n (inr x)) ∙ lays-none q _;
  }

pub keep_laid : (m₀ : Meaning) (es : List Effect) (e : Effect) (w v : World) → Change w e v → Piped es w → Laid m₀ es w → Laid m₀ (e ∷ es) v
keep_laid m₀ es e w v still b c = quiet m₀ es w c nothing w refl refl (λ q b. refl)
keep_laid m₀ es e w v (renames s) b c = quiet m₀ es w c e v refl refl (λ q b. refl)
keep_laid m₀ es e w v (lays i first new p q) b c = record {
  place = c.place;
  area = still_covered _ es e _ c.area;
  blocks = λ q n. laid_alike w.volume.bottom q (w.volume.place i) (m₀.place i) first new _ (ap (λ (f : ℕ → ℕ). f i) c.place) (c.blocks q (λ x. n (inr x)));
}
keep_laid m₀ es e w v (covers f l p) b c = record { place = c.place; area = λ n x y. inl (n, x, y, refl); blocks = λ q n. c.blocks q (λ x. n (inr x)) }
keep_laid m₀ es e w v (begins a n k p q r) b c = quiet m₀ es w c e v refl refl (λ q b. refl)
keep_laid m₀ es e w v (reopens a n p q r) b c = quiet m₀ es w c e v refl refl (λ q b. refl)
keep_laid m₀ es e w v (hands_out a k p bytes q r s t) b c = quiet m₀ es w c e v refl refl (λ q b. refl)
keep_laid m₀ es e w v (brings a k p bytes ea g lim lc) b c =
    let s = enter w.area ea b.orderly in
    let l = all_found (Lies a.first (area_end a)) (found k p w.pipes g) (all_lie _ w.pipes _ s.rising) in
    let h = next_below p.number a.first w.pipes (area_end a) s.rising in
    let u : Covered m₀.place (m₀.place p.end) es = covered_at _ es w.area a ea c.area p.end (omega arith) (omega arith) in
    record {
      place = c.place;
      area = still_covered _ es e w.area c.area;
      blocks = λ q n. let apart : eqb q (w.volume.place p.end) ≡ false = ne_eqb _ _ (λ z. n (inr (subst (λ r. Covered m₀.place r es) (sym (z ∙ ap (λ (f : ℕ → ℕ). f p.end) c.place)) u))) in
          rw apart (c.blocks q (λ x. n (inr x)));
    }
keep_laid m₀ es e w v (closes a k p q r) b c = quiet m₀ es w c e v refl refl (λ q b. refl)
