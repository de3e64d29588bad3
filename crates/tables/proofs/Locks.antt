-- A lock and an unlock by what their search finds.
use Rattle.std.proofs.Common.{◌≡◌, ℕ, ◌<◌, true, false, eqb, Bool, List, [], ◌∷◌, length, set, Some, None, Option, Ok, Err, sym, refl, ap, ◌∙◌}
use Rattle.std.specs.Option.{is_some}
use Rattle.std.proofs.lemmas.List.{set_split}
use Rattle.std.proofs.lemmas.Bool.{cond-true, cond-false, ne_eqb}
use Rattle.model.specs.Semaphores.{blank, has, replaced}
use Rattle.model.specs.Pipes.{there}
use Rattle.tables.specs.declared.answers.LockRefusal.{LockRefusal}
use Rattle.tables.specs.declared.answers.LockRefusal.TheVariants as lock
use Rattle.tables.specs.declared.answers.UnlockRefusal.{UnlockRefusal}
use Rattle.tables.specs.declared.answers.UnlockRefusal.TheVariants as unlock
use Rattle.tables.specs.Places.{place}
use Rattle.tables.specs.Locks.{lock_outcome, unlock_outcome}
use Rattle.tables.proofs.Firsts.{instead, there_by, instead_by}

has-place : (n : ℕ) (xs : List ℕ) → has n xs ≡ there (place (eqb n) xs)
has-place n = there_by (eqb n) (has n) refl (λ _ _. refl)

replaced-set : (n m i : ℕ) (xs : List ℕ) → place (eqb n) xs ≡ Some i → i < length xs → replaced n m xs ≡ set xs i m
replaced-set n m i xs e inside =
    instead_by (eqb n) (replaced n m) (m ∷ []) refl (λ _ _. refl) xs ∙ ap (λ o. instead (m ∷ []) o xs) e ∙ sym (set_split xs i m inside)

there-some : (o : Option ℕ) → is_some o ≡ there o
there-some None = refl
there-some (Some i) = refl

module _ (n : ℕ) (xs : List ℕ) (other : n ≡ blank → ⊥) where
  not-blank : eqb n blank ≡ false
  not-blank = ne_eqb n blank other

  has-some : (b : Bool) → is_some (place (eqb n) xs) ≡ b → has n xs ≡ b
  has-some b t = has-place n xs ∙ sym (there-some (place (eqb n) xs)) ∙ t

  pub lock_present : is_some (place (eqb n) xs) ≡ true → (Err lock.Present, xs) ≡ lock_outcome xs n
  lock_present t = sym (cond-false _ _ _ not-blank ∙ cond-true _ _ _ (has-some true t))

  pub lock_full : is_some (place (eqb n) xs) ≡ false → place (eqb blank) xs ≡ None → (Err lock.Full, xs) ≡ lock_outcome xs n
  lock_full t k = sym (cond-false _ _ _ not-blank ∙ cond-false _ _ _ (has-some false t) ∙ cond-false _ _ _ (has-place blank xs ∙ ap there k))

  pub lock_taken : (i : ℕ) → is_some (place (eqb n) xs) ≡ false → place (eqb blank) xs ≡ Some i → i < length xs → (Ok tt, set xs i n) ≡ lock_outcome xs n
  lock_taken i t k h =
      ap (λ l. (Ok tt, l)) (sym (replaced-set blank n i xs k h))
      ∙ sym (cond-false _ _ _ not-blank ∙ cond-false _ _ _ (has-some false t) ∙ cond-true _ _ _ (has-place blank xs ∙ ap there k))

  pub unlock_absent : place (eqb n) xs ≡ None → (Err unlock.Absent, xs) ≡ unlock_outcome xs n
  unlock_absent e = sym (cond-false _ _ _ not-blank ∙ cond-false _ _ _ (has-place n xs ∙ ap there e))

  pub unlock_removed : (i : ℕ) → place (eqb n) xs ≡ Some i → i < length xs → (Ok tt, set xs i blank) ≡ unlock_outcome xs n
  unlock_removed i e h =
      ap (λ l. (Ok tt, l)) (sym (replaced-set n blank i xs e h))
      ∙ sym (cond-false _ _ _ not-blank ∙ cond-true _ _ _ (has-place n xs ∙ ap there e))
