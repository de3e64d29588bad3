use Rattle.std.proofs.Common.{refl, ◌∙◌, rules, tests}
use Rattle.std.proofs.lemmas.Iterator.{YieldsList-from_slice}
use Rattle.std.proofs.lemmas.Iterator.Search.{find_from_yields_List}
use Rattle.model.specs.Pipes.{numbered}
use Rattle.model.proofs.Finding.{find_told}
use Rattle.status.proofs.Names.{name_told}
use Rattle.status.proofs.entries.Entries.pipe_name.Goals as goal

pub returns : goal.returns
returns c =
    let k = c.args.number in
    let ps = c.args.self.now.pipes.now in
    name_told _ c.find-pipe.result _ c.map_or.result
    (find_from_yields_List (numbered k) _ _ c.find-pipe.result c.find-pipe.ensures.ran (YieldsList-from_slice ps cc) (λ x b q h. search (rules, tests)) ∙ find_told k ps)
    c.map_or.ensures (λ x h. search rules) refl
