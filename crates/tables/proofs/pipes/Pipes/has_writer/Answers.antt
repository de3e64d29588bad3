use Rattle.std.proofs.Common.{ap, ◌∙◌, rules, tests}
use Rattle.model.specs.Pipes.{named_writing, any}
use Rattle.tables.proofs.Numbers.{any_told}
use Rattle.tables.proofs.pipes.Pipes.has_writer.Goals as goal

pub returns : goal.returns
returns c =
    let test = named_writing c.args.name in
    c.is_some.ensures ∙ any_told test c.pipes.result.now c.place_of.result (c.place_of.ensures.found test (λ x b q k. search (rules, tests))) ∙ ap (any test) c.pipes.ensures.pipes
