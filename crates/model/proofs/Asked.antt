-- What holds of the outcome of questions in turn: what holds at each refusal, and where every question is answered yes.
use Rattle.std.proofs.Common.{◌≡◌, Bool, true, List, [], ◌∷◌, Some, None, Option, refl}
use Rattle.std.proofs.lemmas.Bool.{cond_both}
use Rattle.model.specs.Answers.{Answer}
use Rattle.model.specs.Worlds.{World, ask, given}

-- P, if every question is answered yes
abbrev pub AllYes : List (Bool × Answer) → Type 0 → Type 0
AllYes [] P = P
AllYes (q ∷ qs) P = q.0 ≡ true → AllYes qs P

-- P at each refusal
abbrev pub EachNo : (Answer × World → Type 0) → World → List (Bool × Answer) → Type 0
EachNo P w [] = Unit {0}
EachNo P w (q ∷ qs) = P (q.1, w) × EachNo P w qs

module _ (P : Answer × World → Type 0) (w : World) where
  pub asked : (qs : List (Bool × Answer)) (done : Answer × World) → EachNo P w qs → AllYes qs (P done) → P (ask w qs done)
  asked [] done ns ys = ys
  asked (q ∷ qs) done ns ys = cond_both q.0 (ask w qs done) (q.1, w) P (λ e. asked qs done ns.1 (ys e)) (λ e. ns.0)

  pub given-one : {X : Type 0} (o : Option X) (otherwise : Answer) (done : X → Answer × World) → P (otherwise, w) → ((x : X) → o ≡ Some x → P (done x)) → P (given w o otherwise done)
  given-one None otherwise done n y = n
  given-one (Some x) otherwise done n y = y x refl
