use Rattle.std.proofs.Common.{◌<◌, min, length, sym, ap, ◌∙◌, rules, tests}
use Rattle.std.proofs.lemmas.Bool.{cond-true, lt-ltb}
use Rattle.tables.specs.Entries.{pipes_of}
use Rattle.tables.proofs.Numbers.{inserted_told}
use Rattle.tables.proofs.pipes.Pipes.insert.Goals as goal

pub returns-clause-after : goal.returns-clause-after
returns-clause-after c =
    let ps = pipes_of c.args.self.now in
    let room : length ps < 62 = search (rules, tests) in
    c.insert.ensures.items ∙ inserted_told c.args.below _ c.args.pipe ps (c.min-below.ensures ∙ ap (min c.args.below) c.len.ensures.value) ∙ sym (cond-true _ _ _ (lt-ltb (length ps) 62 room))
