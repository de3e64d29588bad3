use Rattle.std.proofs.Common.{◌≡◌, suc, ◌+◌, drop, Some, None, sym, ap, ◌∙◌, arith}
use Rattle.std.proofs.lemmas.List.{take_rest}
use Rattle.model.specs.Pipes.{first_start}
use Rattle.tables.specs.Entries.{pipes_of}
use Rattle.tables.proofs.Numbers.{next_told}
use Rattle.tables.proofs.pipes.Pipes.next_start.Goals as goal

pub returns-in-Some : goal.returns-in-Some
returns-in-Some c =
    let ps = pipes_of c.args.self.now in
    let top = c.args.top in
    let one : c.in-Some.i + 1 ≡ suc c.in-Some.i = omega arith in
    c.first_start.ensures
    ∙ ap (λ l. first_start l top) (take_rest c.pipes.result.now (c.in-Some.i + 1) ∙ ap (λ j. drop j c.pipes.result.now) one ∙ ap (drop (suc c.in-Some.i)) c.pipes.ensures.pipes)
    ∙ next_told c.args.number top ps (Some c.in-Some.i) (sym c.in-Some.is ∙ c.place.ensures.found)

pub returns-in-None : goal.returns-in-None
returns-in-None c = next_told c.args.number c.args.top (pipes_of c.args.self.now) None (sym c.in-None.is ∙ c.place.ensures.found)
