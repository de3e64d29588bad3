use Rattle.std.proofs.Common.{rules}
use Rattle.std.specs.List.{Contains}
use Rattle.pile.specs.Runs.{spelled}
use Rattle.pile.proofs.Sought.{sought}
use Rattle.pile.proofs.runs.shared_place.Goals as goal

pub returns : goal.returns
returns c =
    sought (λ s. s.rest.now) c.iter.result _ _ (Contains (spelled c.args.b.now)) c.args.a.now c.iter.ensures.runs c.iter.ensures.rest (λ a r f' k. search rules) (λ x r k. search rules) c.find_map.result c.find_map.ensures.runs
