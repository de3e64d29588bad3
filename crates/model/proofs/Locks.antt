-- The law of locks.
use Rattle.std.proofs.Common.{◌≡◌, ℕ, zero, suc, ◌+◌, ◌≤◌, Bool, true, false, cond, not, eqb, ◌⊎◌, List, [], ◌∷◌, replicate, refl, ap, inl, inr, ⊎_elim, arith}
use Rattle.std.proofs.lemmas.Bool.{eqb-true}
use Rattle.packet.specs.Commands.{lock}
use Rattle.model.specs.Answers.{semaphore}
use Rattle.model.specs.Worlds.{World}
use Rattle.model.specs.Semaphores.{blank, has, replaced, no_names}
use Rattle.model.specs.Steps.{call, step}
use Rattle.model.specs.Runs.{History}
use Rattle.model.specs.Effects.{Effect, effects, SemaphoreEffect, on_semaphores}
use Rattle.model.specs.Laws as laws
use Rattle.model.proofs.Changes.{SemaphoreChange, locks, unlocks, clears, Change, still, renames, lays, covers, begins, reopens, hands_out, brings, closes}

-- how many entries have the name
abbrev entries : ℕ → List ℕ → ℕ
entries n [] = 0
entries n (x ∷ t) = cond (eqb n x) (suc (entries n t)) (entries n t)

abbrev one : Bool → ℕ
one b = cond b 1 0

alike : (x y z : ℕ) → eqb x y ≡ true → eqb z x ≡ eqb z y
alike x y z e = ap (eqb z) (eqb-true x y e)

entries-replaced : (x y m : ℕ) (t : List ℕ) → has x t ≡ true → entries m (replaced x y t) + one (eqb m x) ≡ entries m t + one (eqb m y)
entries-replaced x y m [] h = grind arith
entries-replaced x y m (z ∷ t) h =
    let ih = entries-replaced x y m t in
    let al = alike x z m in
    grind arith

entries_none : (n : ℕ) (t : List ℕ) → has n t ≡ false → entries n t ≡ 0
entries_none n [] h = refl
entries_none n (x ∷ t) h = let ih = entries_none n t in grind arith

entries_some : (n : ℕ) (t : List ℕ) → has n t ≡ true → 1 ≤ entries n t
entries_some n [] h = grind arith
entries_some n (x ∷ t) h = let ih = entries_some n t in grind arith

-- the entries that hold the name; blanks hold none
abbrev pub held : ℕ → List ℕ → ℕ
held n t = cond (eqb n blank) 0 (entries n t)

-- l Locks, u Unlocks, o entries
pub record Counted (l u o : ℕ) : Type 0 where
  pub sum : l ≡ u + o
  pub few : o ≤ 1

abbrev pub Held : List Effect → World → Type 0
Held es w = (n : ℕ) → Counted (laws.locks n es) (laws.unlocks n es) (held n w.semaphores)

same_entries : (m n : ℕ) (t : List ℕ) → eqb m n ≡ true → entries m t ≡ entries n t
same_entries m n t e = ap (λ x. entries x t) (eqb-true m n e)

same-blank : (m n : ℕ) → eqb m n ≡ true → eqb m blank ≡ eqb n blank
same-blank m n e = ap (λ x. eqb x blank) (eqb-true m n e)

module _ (n m : ℕ) (t : List ℕ) (l u : ℕ) where
  one_more : not (eqb n blank) ≡ true → not (has n t) ≡ true → has blank t ≡ true → Counted l u (held m t) → Counted (cond (eqb m n) (suc l) l) u (held m (replaced blank n t))
  one_more p q r c =
      let o = entries-replaced blank n m t r in
      let z = entries_none n t in
      let so = same_entries m n t in
      let sb = same-blank m n in
      grind arith

  one_less : not (eqb n blank) ≡ true → has n t ≡ true → Counted l u (held m t) → Counted l (cond (eqb m n) (suc u) u) (held m (replaced n blank t))
  one_less p q c =
      let o = entries-replaced n blank m t q in
      let z = entries_some n t q in
      let so = same_entries m n t in
      let sb = same-blank m n in
      grind arith

none_held : (m k : ℕ) → held m (replicate k blank) ≡ 0
none_held m zero = grind arith
none_held m (suc k) = let ih = none_held m k in grind arith

pub fresh : (m : ℕ) → Counted 0 0 (held m no_names)
fresh m = let z = none_held m 32 in record { sum = grind arith; few = grind arith }

keep_names : (es : List Effect) (w : World) (e : SemaphoreEffect) (names : List ℕ) → SemaphoreChange w.semaphores e names → Held es w → (m : ℕ) → Counted (laws.locks m (on_semaphores e ∷ es)) (laws.unlocks m (on_semaphores e ∷ es)) (held m names)
keep_names es w _ _ (locks n p q r) inv m = one_more n m w.semaphores _ _ p q r (inv m)
keep_names es w _ _ (unlocks n p q) inv m = one_less n m w.semaphores _ _ p q (inv m)
keep_names es w _ _ clears inv m = fresh m

pub keep_held : (es : List Effect) (e : Effect) (w v : World) → Change w e v → Held es w → Held (e ∷ es) v
keep_held es _ w _ still inv = inv
keep_held es _ w _ (renames s) inv = keep_names es w _ _ s inv
keep_held es _ w _ (lays n first new p q) inv = inv
keep_held es _ w _ (covers f l p) inv = inv
keep_held es _ w _ (begins a n k p q r) inv = inv
keep_held es _ w _ (reopens a n p q r) inv = inv
keep_held es _ w _ (hands_out a k p bytes q r s t) inv = inv
keep_held es _ w _ (brings a k p bytes q r s t) inv = inv
keep_held es _ w _ (closes a k p q r) inv = inv

held-answers : (n : ℕ) (w : World) → held n w.semaphores ≡ 1 → (step w (call (lock n))).0 ≡ semaphore 0x80
held-answers n w e = let z = entries_none n w.semaphores in grind arith

answers-held : (n : ℕ) (w : World) → held n w.semaphores ≤ 1 → (step w (call (lock n))).0 ≡ semaphore 0x80 → held n w.semaphores ≡ 1
answers-held n w f e = let z = entries_some n w.semaphores in grind arith

none_or_one : (o : ℕ) → o ≤ 1 → (o ≡ 0) ⊎ (o ≡ 1)
none_or_one zero h = inl refl
none_or_one (suc k) h = inr (omega arith)

pub law_of_locks : (h : History) (w : World) → Held (effects h) w → laws.LawOfLocks h w
law_of_locks h w inv n =
    let c = inv n in
    let near : (held n w.semaphores ≡ 0) ⊎ (held n w.semaphores ≡ 1) = none_or_one _ c.few in (
      ⊎_elim (λ z. inl (omega arith)) (λ z. inr (omega arith)) near,
      ((λ e. held-answers n w (omega arith)), λ e. let o = answers-held n w c.few e in omega arith),
    )
