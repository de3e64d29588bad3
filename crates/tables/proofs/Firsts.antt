-- The first place that passes a test, and what the definitions that go through a list come to there.
use Rattle.std.proofs.Common.{◌≡◌, ℕ, suc, ◌+◌, Bool, true, false, cond, not, ◌||◌, ltb, List, [], ◌∷◌, ◌++◌, length, take, drop, Some, None, Option, sym, refl, ap, ◌∙◌, arith}
use Rattle.std.specs.List.{prefix_len, position}
use Rattle.std.proofs.lemmas.Bool.{cond-true, cond-false, cond_both}
use Rattle.std.proofs.lemmas.Bool.Decides.{nat_tests}
use Rattle.model.specs.Pipes.{there}
use Rattle.tables.specs.Places.{later, place}

-- std's place of one more element: it passes, or the place is that of the others
one_more : (b : Bool) (p n : ℕ) → cond (ltb (cond (not b) (1 + p) 0) (suc n)) (Some (cond (not b) (1 + p) 0)) None ≡ cond b (Some 0) (later (cond (ltb p n) (Some p) None))
one_more true p n = grind (arith, nat_tests)
one_more false p n = grind (arith, nat_tests)

module _ {X : Type 0} (test : X → Bool) where
  pub position-place : (xs : List X) → position test xs ≡ place test xs
  position-place [] = refl
  position-place (x ∷ xs) = one_more (test x) (prefix_len (λ y. not (test y)) xs) (length xs) ∙ ap (λ o. cond (test x) (Some 0) (later o)) (position-place xs)

  -- what holds of each list and its first place
  pub by_place :
      (P : List X → Option ℕ → Type 0) → P [] None → ((x : X) (xs : List X) → test x ≡ true → P (x ∷ xs) (Some 0)) →
      ((x : X) (xs : List X) (o : Option ℕ) → test x ≡ false → P xs o → P (x ∷ xs) (later o)) → (xs : List X) → P xs (place test xs)
  by_place P none here more [] = none
  by_place P none here more (x ∷ xs) =
      cond_both (test x) (Some 0) (later (place test xs)) (P (x ∷ xs)) (here x xs) (λ e. more x xs (place test xs) e (by_place P none here more xs))

there-later : (o : Option ℕ) → there (later o) ≡ there o
there-later None = refl
there-later (Some i) = refl

-- those of qs in place of the entry at o
abbrev pub instead : {X : Type 0} → List X → Option ℕ → List X → List X
instead qs None xs = xs
instead qs (Some i) xs = take i xs ++ (qs ++ drop (suc i) xs)

instead-later : {X : Type 0} (qs : List X) (o : Option ℕ) (x : X) (xs : List X) → x ∷ instead qs o xs ≡ instead qs (later o) (x ∷ xs)
instead-later qs None x xs = refl
instead-later qs (Some i) x xs = refl

-- f is a definition by recursion over a list: `refl` and `λ _ _. refl` show its two clauses
module _ {X : Type 0} (test : X → Bool) where
  pub there_by : (f : List X → Bool) → f [] ≡ false → ((x : X) (xs : List X) → f (x ∷ xs) ≡ (test x || f xs)) → (xs : List X) → f xs ≡ there (place test xs)
  there_by f none more =
      by_place test (λ xs o. f xs ≡ there o) none (λ x xs e. more x xs ∙ ap (λ b. b || f xs) e)
      (λ x xs o e h. more x xs ∙ ap (λ b. b || f xs) e ∙ h ∙ sym (there-later o))

  pub instead_by : (f : List X → List X) (qs : List X) → f [] ≡ [] → ((x : X) (xs : List X) → f (x ∷ xs) ≡ cond (test x) (qs ++ xs) (x ∷ f xs)) → (xs : List X) → f xs ≡ instead qs (place test xs) xs
  instead_by f qs none more =
      by_place test (λ xs o. f xs ≡ instead qs o xs) none (λ x xs e. more x xs ∙ cond-true _ _ _ e)
      (λ x xs o e h. more x xs ∙ cond-false _ _ _ e ∙ ap (λ l. x ∷ l) h ∙ instead-later qs o x xs)
