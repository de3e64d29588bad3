use Rattle.std.proofs.Common.{eqb, rules, tests}
use Rattle.tables.proofs.semaphores.Semaphores.place.Goals as goal

pub returns-clause-found : goal.returns-clause-found
returns-clause-found c = c.place_of.ensures.found (eqb c.args.name) (λ x b q k. search (rules, tests))
