-- A placement on a lawful placement is lawful, and a lawful pile on a sound volume is sound.
use Rattle.std.specs.Prelude.{◌≡◌, ℕ, ◌<◌, ◌≤◌, Bool, true, false, cond, nat_le, refl}
use Rattle.std.proofs.Common.{arith}
use Rattle.std.proofs.lemmas.Bool.{leb-true}
use Rattle.volume.specs.Meanings.{Meaning, Sound}
use Rattle.volume.specs.Layouts.{Layout, Lawful, fitting, layered, piled}

-- a block below such a count: what is needed is there
pub below_fitting : (a b c n : ℕ) → n < fitting a b c → (a ≤ b) × (n < c)
below_fitting a b c n = at (nat_le a b) (leb-true a b) where
  at : (t : Bool) → (t ≡ true → a ≤ b) → n < cond t c 0 → (a ≤ b) × (n < c)
  at true f h = (f refl, h)
  at false f h = absurd (omega arith)

pub fitting-most : (a b c d : ℕ) → (a ≤ b → c ≤ d) → fitting a b c ≤ d
fitting-most a b c d = at (nat_le a b) (leb-true a b) where
  at : (t : Bool) → (t ≡ true → a ≤ b) → (a ≤ b → c ≤ d) → cond t c 0 ≤ d
  at true f h = h (f refl)
  at false f h = omega arith

-- a block below the count has a place that the lower has
pub fitting-place : (l : Layout) (there : ℕ) → Lawful l → (n : ℕ) → n < fitting l.total there l.count → (n < l.count) × (l.place n < there)
fitting-place l there law n h =
    let f = below_fitting l.total there l.count n h in
    (f.1, omega (arith, f, law.within n f.1))

pub layered_lawful : (u l : Layout) → Lawful u → Lawful l → Lawful (layered u l)
layered_lawful u l ul ll =
    let low = fitting-place u l.count ul in
    record {
      few = fitting-most u.total l.count u.count l.total (λ h. omega (arith, ul.few, ll.few));
      within = λ n h. ll.within (u.place n) (low n h).1;
      apart = λ i j hi hj e. ul.apart i j (low i hi).0 (low j hj).0 (ll.apart (u.place i) (u.place j) (low i hi).1 (low j hj).1 e);
    }

pub piled_sound : (l : Layout) (m : Meaning) → Lawful l → Sound m → Sound (piled l m)
piled_sound l m law s =
    let low = fitting-place l m.count law in
    record {
      few = fitting-most l.total m.count l.count 1048576 (λ h. omega (arith, law.few, s.few));
      apart = λ i j hi hj e. law.apart i j (low i hi).0 (low j hj).0 (s.apart (l.place i) (l.place j) (low i hi).1 (low j hj).1 e);
      whole = s.whole;
    }
