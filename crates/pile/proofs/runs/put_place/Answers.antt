use Rattle.std.proofs.Common.{◌≡◌, ◌+◌, ◌-◌, ◌++◌, ◌∷◌, [], set, vec_items, vec_len, sym, refl, ap, ◌∙◌, subst, inl, inr, arith, rules}
use Rattle.std.proofs.lemmas.List.{set-get_or}
use Rattle.std.proofs.lemmas.Bool.{eqb-true, eqb-false}
use Rattle.pile.specs.Runs.{Placed}
use Rattle.pile.specs.declared.runs.Run.{Run}
use Rattle.pile.proofs.Spelling.{EndsElsewhere, count-within, placed_longer, placed_new}
use Rattle.pile.proofs.runs.put_place.Goals as goal
use Rattle.pile.proofs.runs.put_place.Goals.{in_default-via-in-Some+else-ends_at, in_default-via-in-None-1}

pub overflow_add-last : goal.overflow_add-last
overflow_add-last c =
    omega (arith, c.requires, count-within (vec_items c.args.runs.now) (vec_len c.args.runs.now - 1) c.in-Some.last.now (omega (arith, c.args.runs.now.ok.0, c.in-Some.ensures.variant.0 refl)) c.in-Some.ensures.value)

pub returns-in-Some : goal.returns-in-Some
returns-in-Some c =
    placed_longer (vec_items c.args.runs.now) (vec_len c.args.runs.now - 1) c.in-Some.last.now
    record { first = c.in-Some.last.now.first; count = c.in-Some.last.now.count + 1 } c.args.place
    (omega (arith, c.args.runs.now.ok.0, c.in-Some.ensures.variant.0 refl)) c.in-Some.ensures.value refl refl
    (eqb-true _ _ (sym c.if-ends_at.ensures))

-- the runs are as they were, and the last does not end there
pub returns-in_ok-push-in_default : goal.returns-in_ok-push-in_default
returns-in_ok-push-in_default c =
    let runs = vec_items c.args.runs.now in
    let n = vec_len c.args.runs.now in
    let new : Run = record { first = c.args.place; count = 1 } in
    let before : (vec_items c.in_default.runs ≡ runs) × EndsElsewhere runs c.args.place = elim c.in_default.branch [
      | in_default-via-in-Some+else-ends_at w ↦ (
        ap vec_items w.runs-is ∙ ap (set runs (n - 1)) w.in-Some.ensures.value ∙ set-get_or runs (n - 1) w.in-Some.last.now,
        inr (n - 1, w.in-Some.last.now, omega (arith, c.args.runs.now.ok.0, w.in-Some.ensures.variant.0 refl), w.in-Some.ensures.value, eqb-false _ _ (sym w.if-ends_at.ensures)),
      )
      | in_default-via-in-None-1 w ↦ (
        ap vec_items w.runs-is,
        inl (let none : n ≡ 0 = search (rules, c.last_mut.ensures.variant) in omega (arith, c.args.runs.now.ok.0)),
      )
    ] in
    subst (λ after. Placed runs after c.args.place) (sym (c.in_ok-push-in_default.ensures.items ∙ ap (λ xs. xs ++ new ∷ []) before.0)) (placed_new runs new refl before.1)
