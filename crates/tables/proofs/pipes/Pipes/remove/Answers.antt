use Rattle.std.proofs.Common.{[], Some, None, sym, ◌∙◌}
use Rattle.tables.specs.Entries.{pipes_of}
use Rattle.tables.proofs.Numbers.{instead_told}
use Rattle.tables.proofs.pipes.Pipes.remove.Goals as goal

pub returns-in-Some : goal.returns-in-Some
returns-in-Some c =
    c.remove.ensures.items ∙ instead_told c.args.number [] (pipes_of c.args.self.now) (Some c.in-Some.i) (sym c.in-Some.is ∙ c.place.ensures.found)

pub returns-in_default : goal.returns-in_default
returns-in_default c = instead_told c.args.number [] (pipes_of c.args.self.now) None (sym c.in_default.is ∙ c.place.ensures.found)
