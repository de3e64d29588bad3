use Rattle.std.proofs.Common.{◌+◌, ◌<◌, length, refl, ◌∙◌, arith, rules, tests}
use Rattle.std.proofs.lemmas.Iterator.{YieldsList-from_slice}
use Rattle.std.proofs.lemmas.Iterator.Adapters.{serves_from_total}
use Rattle.std.proofs.lemmas.Iterator.Consumers.{fold_from_yields_List}
use Rattle.std.proofs.lemmas.List.Recursion.{is_sum_by}
use Rattle.placement.specs.Shifts.{step}
use Rattle.placement.proofs.Lists.{shift_folds}
use Rattle.placement.proofs.tracks.SparedTracks.track_of.Goals as goal

-- each call adds 1 at most, and there are 16 calls at most
pub fold-requires-clause-callable : goal.fold-requires-clause-callable
fold-requires-clause-callable c =
    let p = c.args.self.now in
    let calls = is_sum_by length (λ x. 1) refl (λ x xs. omega arith) p.spared.items in
    serves_from_total (YieldsList-from_slice p.spared.items cc) (λ x. 1) (λ n x q k. search (rules, tests))
    (λ n x h. let small : n + 1 < 4294967296 = omega (arith, h, calls, p.sized, p.listed.1) in search (rules, tests))

pub returns : goal.returns
returns c =
    let p = c.args.self.now in
    fold_from_yields_List _ (λ t s. step s t) _ _ c.fold.ensures.ran (YieldsList-from_slice p.spared.items cc) (λ a x b q k. search (rules, tests))
    ∙ shift_folds p.spared.items (p.shape.firmware + c.args.k)
