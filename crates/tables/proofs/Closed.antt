-- Of some pipes, walked from the last, the one with the lowest number.
use Rattle.std.proofs.Common.{◌≡◌, ℕ, Bool, true, false, cond, not, ◌&&◌, ltb, List, [], ◌∷◌, ◌++◌, map, filter, reverse, Some, None, Option, Bor, sym, refl, ap, ◌∙◌, subst, arith}
use denote.Param.Members.{Mut}
use Rattle.std.specs.Fn.{CalledAt}
use Rattle.std.specs.Iterator.{KeyTurn, PicksMinByKey}
use Rattle.std.specs.List.{FoldsTo}
use Rattle.std.specs.Option.{option_map}
use Rattle.std.specs.Ordering.{nat_cmp, min_by_ordering}
use Rattle.std.proofs.lemmas.List.{append-nil, reverse-append}
use Rattle.std.proofs.lemmas.List.Elements.{filter-append}
use Rattle.std.proofs.lemmas.Iterator.{YieldsList}
use Rattle.std.proofs.lemmas.Iterator.Consumers.{YieldsList-end}
use Rattle.std.proofs.lemmas.Bool.Decides.{nat_tests}
use Rattle.model.specs.declared.pipe.Pipe.{Pipe}
use Rattle.model.specs.Pipes.{is_open, named, lower, closed_named}

abbrev lesser : Pipe → Pipe → Pipe
lesser p q = cond (ltb p.number q.number) p q

-- the best so far, and those to come
abbrev pub lowest_from : Pipe → List Pipe → Pipe
lowest_from best [] = best
lowest_from best (p ∷ ps) = lowest_from (lesser p best) ps

abbrev pub lowest : List Pipe → Option Pipe
lowest [] = None
lowest (p ∷ ps) = Some (lowest_from p ps)

lowest_from-push : (best : Pipe) (ps : List Pipe) (p : Pipe) → lowest_from best (ps ++ p ∷ []) ≡ lesser p (lowest_from best ps)
lowest_from-push best [] p = refl
lowest_from-push best (q ∷ ps) p = lowest_from-push (lesser q best) ps p

lowest-push : (ps : List Pipe) (p : Pipe) → lowest (ps ++ p ∷ []) ≡ Some (lower p (lowest ps))
lowest-push [] p = refl
lowest-push (q ∷ ps) p = ap (λ r. Some r) (lowest_from-push q ps p)

module _ (n : ℕ) where
  abbrev pub closed : Pipe → Bool
  closed p = named n p && not (is_open p.access)

  one_more : (p : Pipe) (ps : List Pipe) (b : Bool) → lowest (ps ++ cond b (p ∷ []) []) ≡ cond b (Some (lower p (lowest ps))) (lowest ps)
  one_more p ps true = lowest-push ps p
  one_more p ps false = ap lowest (append-nil ps)

  pub lowest_closed : (ps : List Pipe) → lowest (filter closed (reverse ps)) ≡ closed_named n ps
  lowest_closed [] = refl
  lowest_closed (p ∷ ps) =
      ap (λ l. lowest (filter closed l)) (reverse-append (p ∷ []) ps) ∙ ap lowest (filter-append closed (reverse ps) (p ∷ []))
      ∙ one_more p (filter closed (reverse ps)) (closed p) ∙ ap (λ o. cond (closed p) (Some (lower p o)) o) (lowest_closed ps)

-- what `min_by_key` picks by the number
least : {X : Type 0} (k m : ℕ) (x z : X) → min_by_ordering (nat_cmp k m) x z ≡ cond (ltb m k) z x
least k m x z = grind (arith, nat_tests)

module _ {S F : Type 0} (steps : S → Option (Bor Pipe) → S → Type 0) (g : Mut F (Bor (Bor Pipe) × Unit {0}) ℕ) (f : F) (numbers : (x : Bor Pipe) (k : ℕ) (f' : F) → CalledAt g f x k f' → (f' ≡ f) × (k ≡ x.now.number)) where
  abbrev Turn : (F × ℕ) × Bor Pipe → Bor Pipe → (F × ℕ) × Bor Pipe → Type 0
  Turn = KeyTurn min_by_ordering min_by_ordering g nat_cmp

  key_kept : (b : Bool) (k m : ℕ) (x y : Bor Pipe) → k ≡ x.now.number → m ≡ y.now.number → cond b k m ≡ (cond b x y).now.number
  key_kept true k m x y e h = e
  key_kept false k m x y e h = h

  now_kept : (b : Bool) (x y : Bor Pipe) → (cond b x y).now ≡ cond b x.now y.now
  now_kept true x y = refl
  now_kept false x y = refl

  turns : (j : (F × ℕ) × Bor Pipe) (xs : List (Bor Pipe)) (q : F × ℕ) (y : Bor Pipe) → j.0.0 ≡ f → j.0.1 ≡ j.1.now.number → FoldsTo Turn j xs (q, y) → y.now ≡ lowest_from j.1.now (map (λ x. x.now) xs)
  turns j [] q y same key e = ap (λ p. p.1.now) (sym e)
  turns j (x ∷ xs) q y same key e =
      let t = e.0 in
      let k = e.1.0 in
      let called = numbers x k t.0.0 (subst (λ (h : F). CalledAt g h x k t.0.0) same e.1.2) in
      let item : t.1 ≡ cond (ltb k j.0.1) x j.1 = e.1.5 ∙ ap (λ o. min_by_ordering o j.1 x) (sym e.1.3) ∙ least j.0.1 k j.1 x in
      let best : t.0.1 ≡ cond (ltb k j.0.1) k j.0.1 = e.1.4 ∙ ap (λ o. min_by_ordering o j.0.1 k) (sym e.1.3) ∙ least j.0.1 k j.0.1 k in
      let now : t.1.now ≡ lesser x.now j.1.now =
      ap (λ p. p.now) item ∙ now_kept (ltb k j.0.1) x j.1 ∙ ap (λ m. cond (ltb m j.0.1) x.now j.1.now) called.1 ∙ ap (λ m. cond (ltb x.now.number m) x.now j.1.now) key in
      turns t xs q y called.0 (best ∙ key_kept (ltb k j.0.1) k j.0.1 x j.1 called.1 key ∙ ap (λ p. p.now.number) (sym item)) e.2
      ∙ ap (λ p. lowest_from p (map (λ x. x.now) xs)) now

  pub lowest_picked : (s : S) (r : Option (Bor Pipe)) (all : List Pipe) → PicksMinByKey steps g nat_cmp s f r → YieldsList steps (λ x. x.now) s all → option_map (λ x. x.now) r ≡ lowest all
  lowest_picked s None all h road = ap lowest (YieldsList-end road [] h.1.0 h.1.1 None h.0 refl h.1.2).0
  lowest_picked s (Some y) all h road =
      let called = numbers h.0 h.2 h.3 h.6 in
      ap (λ r. Some r) (turns ((h.3, h.2), h.0) h.1 h.4 y called.0 called.1 h.7)
      ∙ ap lowest (YieldsList-end road (h.0 ∷ h.1) h.5.1.0 h.5.1.1 None h.5.0 refl h.5.1.2).0
