use Rattle.std.proofs.Common.{[], ◌∷◌, None, sym, ◌∙◌}
use Rattle.tables.specs.Entries.{pipes_of}
use Rattle.tables.proofs.Numbers.{exchanged_told, instead_told}
use Rattle.tables.proofs.pipes.Pipes.exchange.Goals as goal

pub returns-in-Some : goal.returns-in-Some
returns-in-Some c =
    exchanged_told c.args.number c.args.pipe (pipes_of c.args.self.now) _ c.in-Some.i c.deref_mut.ensures.value c.in-Some.ensures.inside (sym c.in-Some.is ∙ c.place.ensures.found)

pub returns-in_default : goal.returns-in_default
returns-in_default c = instead_told c.args.number (c.args.pipe ∷ []) (pipes_of c.args.self.now) None (sym c.in_default.is ∙ c.place.ensures.found)
