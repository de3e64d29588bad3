-- What a search through runs finds, where it asks each run in turn.
use Rattle.std.proofs.Common.{◌≡◌, ℕ, suc, ◌+◌, ◌<◌, List, [], ◌∷◌, length, get_or, Some, None, Option, IfSome, IsSomeAnd, MatchOption, Bor, ap, ◌∙◌, subst, ⊎_elim, arith}
use denote.Param.Members.{Mut}
use Rattle.std.specs.Fn.{Called}
use Rattle.std.specs.Option.{option_map}
use Rattle.std.specs.List.{Contains}
use Rattle.std.specs.Bool.{IsTrue}
use Rattle.std.specs.Iterator.Runs.{Run as Turns, SomeRun, YieldsRefsInOrder, ItemsMapTo, AllItemsGive, IsFirstToGive, CallKeepsClosure}
use Rattle.std.proofs.lemmas.List.Elements.{Contains-append_cases}
use Rattle.pile.specs.declared.runs.Run.{Run}
use Rattle.pile.specs.Runs.{places_of, spelled, InRun, InBoth}
use Rattle.pile.proofs.Spelling.{in_from_has, has_from_run}

-- a place that no run has is not among their places
none_spelled : (runs : List Run) (q : ℕ) → ((k : ℕ) (d : Run) → k < length runs → InRun (get_or runs k d) q → ⊥) → Contains (spelled runs) q → ⊥
none_spelled [] q none h = omega (arith, h.1)
none_spelled (run ∷ runs) q none h =
    ⊎_elim
    (λ here. none 0 run (omega arith) (in_from_has run q here))
    (none_spelled runs q (λ k d lt. none (suc k) d (omega arith)))
    (Contains-append_cases (places_of run) (spelled runs) q h)

pub InBoth-swap : (A B : ℕ → Type 0) (r : Option ℕ) → InBoth A B r → InBoth B A r
InBoth-swap A B None none = λ q b a. none q a b
InBoth-swap A B (Some q) both = (both.1, both.0)

-- r is the first answer that is not `None`
abbrev pub FirstAnswer : {S F : Type 0} {steps : S → Option (Bor Run) → S → Type 0} → Turns steps → Mut F (Bor Run × Unit {0}) (Option ℕ) → F → Option ℕ → Type 0
FirstAnswer turns g f r = MatchOption r (IsTrue turns.whole × AllItemsGive turns g f None) (λ q. (i : ℕ) × (i < turns.len) × (turns.len ≡ i + 1) × IsFirstToGive turns g f (Some q) None i)

-- each run answers with a place that it shares with Q
module _ {S F : Type 0} {steps : S → Option (Bor Run) → S → Type 0} (turns : Turns steps) (g : Mut F (Bor Run × Unit {0}) (Option ℕ)) (f : F) (Q : ℕ → Type 0) (runs : List Run)
    (reads : ItemsMapTo turns (λ y. y.now) runs) (keeps : CallKeepsClosure g f) (answers : (x : Bor Run) (r : Option ℕ) → Called g f (x, tt) r f → InBoth (InRun x.now) Q r) where
  at_none : (o : Option (Bor Run)) (run : Run) → option_map (λ y. y.now) o ≡ Some run → IfSome o (λ x. Called g f (x, tt) None f) → InBoth (InRun run) Q None
  at_none None run is called = absurd (cc)
  at_none (Some x) run is called = let same : x.now ≡ run = cc in subst (λ r. InBoth (InRun r) Q None) same (answers x None called)

  at_some : (o : Option (Bor Run)) (run : Run) (q : ℕ) → option_map (λ y. y.now) o ≡ Some run → IsSomeAnd o (λ x. Called g f (x, tt) (Some q) f) → InBoth (InRun run) Q (Some q)
  at_some None run q is called = absurd (cc)
  at_some (Some x) run q is called = let same : x.now ≡ run = cc in subst (λ r. InBoth (InRun r) Q (Some q)) same (answers x (Some q) called)

  -- and so the first answer is a place of the runs that is in Q
  in_turns : (r : Option ℕ) → FirstAnswer turns g f r → InBoth (Contains (spelled runs)) Q r
  in_turns None all = λ q h in_q. none_spelled runs q (λ k d lt inside. at_none (turns.at k) (get_or runs k d) (reads.2 k d (omega (arith, reads.1 all.0))) (all.1 keeps k) q inside in_q) h
  in_turns (Some q) at =
      let d : Run = record { first = 0; count = 0 } in
      let found = at_some (turns.at at.0) (get_or runs at.0 d) q (reads.2 at.0 d at.1) (at.3 keeps).0 in
      (has_from_run runs at.0 d q (omega (arith, reads.0, at.1)) found.0, found.1)

-- the same from the clauses of `iter` and `find_map`
pub sought : {S F : Type 0} {steps : S → Option (Bor Run) → S → Type 0} (rest : S → List Run) (s : S) (g : Mut F (Bor Run × Unit {0}) (Option ℕ)) (f : F) (Q : ℕ → Type 0) (runs : List Run)
    → YieldsRefsInOrder steps rest → rest s ≡ runs → CallKeepsClosure g f → ((x : Bor Run) (r : Option ℕ) → Called g f (x, tt) r f → InBoth (InRun x.now) Q r)
    → (r : Option ℕ) → SomeRun steps s (λ turns. FirstAnswer turns g f r) → InBoth (Contains (spelled runs)) Q r
sought rest s g f Q runs yields is keeps answers r ran =
    let reads = subst (ItemsMapTo ran.0 (λ y. y.now)) (ap rest ran.1 ∙ is) (yields ran.0 ran.0.seen) in
    in_turns ran.0 g f Q runs reads keeps answers r ran.2
