use Rattle.std.proofs.Common.{ap, ◌∙◌, rules, tests}
use Rattle.model.specs.Pipes.{numbered}
use Rattle.tables.specs.Places.{place}
use Rattle.tables.proofs.pipes.Pipes.place.Goals as goal

pub returns-clause-found : goal.returns-clause-found
returns-clause-found c = c.place_of.ensures.found (numbered c.args.number) (λ x b q k. search (rules, tests)) ∙ ap (place (numbered c.args.number)) c.pipes.ensures.pipes
