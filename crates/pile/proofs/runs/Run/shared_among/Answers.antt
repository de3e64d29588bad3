use Rattle.std.proofs.Common.{rules}
use Rattle.std.specs.List.{Contains}
use Rattle.pile.specs.Runs.{spelled, InRun}
use Rattle.pile.proofs.Sought.{InBoth-swap, sought}
use Rattle.pile.proofs.runs.Run.shared_among.Goals as goal

pub returns : goal.returns
returns c =
    InBoth-swap (Contains (spelled c.args.others.now)) (InRun c.args.self) c.find_map.result
    (sought (λ s. s.rest.now) c.iter.result _ _ (InRun c.args.self) c.args.others.now c.iter.ensures.runs c.iter.ensures.rest (λ a r f' k. search rules) (λ x r k. InBoth-swap (InRun c.args.self) (InRun x.now) r (search rules)) c.find_map.result c.find_map.ensures.runs)
