use Rattle.std.proofs.Common.{◌∙◌, rules, tests}
use Rattle.std.proofs.lemmas.Iterator.Adapters.{YieldsList-from_rev_slice}
use Rattle.std.proofs.lemmas.Iterator.Consumers.{YieldsList-at, YieldsList-from_filter}
use Rattle.tables.specs.Entries.{pipes_of}
use Rattle.tables.proofs.Closed.{closed, lowest_closed, lowest_picked}
use Rattle.tables.proofs.Numbers.{copied_told}
use Rattle.tables.proofs.pipes.Pipes.closed_named.Goals as goal

pub returns : goal.returns
returns c =
    let n = c.args.name in
    let ps = pipes_of c.args.self.now in
    c.copied.ensures ∙ copied_told c.min_by_key.result
    ∙ lowest_picked _ _ _ (λ x k q h. search (rules, tests)) _ c.min_by_key.result _ c.min_by_key.ensures.ran
    (YieldsList-from_filter _ (closed n) (YieldsList-at c.filter.ensures.source (YieldsList-from_rev_slice ps cc)) c.filter.ensures.closure (λ x b q k. search (rules, tests)))
    ∙ lowest_closed n ps
