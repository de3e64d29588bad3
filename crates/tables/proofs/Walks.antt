-- The walk over all pipes for the best gap.
use Rattle.std.proofs.Common.{◌≡◌, ℕ, suc, ◌+◌, ◌<◌, ◌≤◌, Bool, cond, ltb, List, length, get_or, drop, sym, ap, ◌∙◌, arith}
use Rattle.std.proofs.lemmas.List.{at_drop_more, at_drop_all}
use Rattle.model.specs.declared.pipe.Gap.{Gap}
use Rattle.model.specs.declared.pipe.Pipe.{Pipe}
use Rattle.model.specs.Gaps.{gap, gaps, most, no_gap}
use Rattle.model.specs.Pipes.{is_writing}

pub no_gap_made : (g : Gap) → (g.below ≡ 0) × ((g.from ≡ 0) × (g.gives ≡ 0)) → g ≡ no_gap
no_gap_made g h =
    ap (λ n. record { below = n; from = g.from; gives = g.gives }) h.0 ∙ ap (λ n. record { below = 0; from = n; gives = g.gives }) h.1.0
    ∙ ap (λ n. record { below = 0; from = 0; gives = n }) h.1.1

-- before entry i, with as many pipes below
module _ (ps : List Pipe) (i below : ℕ) (counted : below ≡ i) (w : Bool) (low top : ℕ) (g : Gap) where
  abbrev wide : Gap → Gap
  wide f = cond (ltb g.gives f.gives) f g

  abbrev from : List Pipe → Gap
  from l = most g (gaps below w low l top)

  pub gaps-more :
      (d : Pipe) (f g' : Gap) → i < length ps → f ≡ gap below w low (get_or ps i d).start → g' ≡ wide f →
      most g' (gaps (i + 1) (is_writing (get_or ps i d).access) (get_or ps i d).end (drop (i + 1) ps) top) ≡ from (drop i ps)
  gaps-more d f g' inside is_f is-g =
      let p = get_or ps i d in
      let l = drop (i + 1) ps in
      let one : i + 1 ≡ suc below = omega arith in
      ap (λ x. most x (gaps (i + 1) (is_writing p.access) p.end l top)) (is-g ∙ ap wide is_f)
      ∙ ap (λ x. most (wide (gap below w low p.start)) (gaps x (is_writing p.access) p.end l top)) one
      ∙ sym (at_drop_more from ps i d inside)

  pub gaps_all : (f r : Gap) → length ps ≤ i → f ≡ gap below w low top → r ≡ wide f → r ≡ from (drop i ps)
  gaps_all f r past is_f is_r = is_r ∙ ap wide is_f ∙ sym (at_drop_all from ps i past)
