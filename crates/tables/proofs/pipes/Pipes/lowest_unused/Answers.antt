use Rattle.std.proofs.Common.{◌<◌, ◌≤◌, length, sym, ◌∙◌, rules, tests}
use Rattle.std.proofs.lemmas.Bool.{cond-true, cond-false, lt-ltb, le-ltb}
use Rattle.std.proofs.lemmas.Iterator.{first_from_Range}
use Rattle.tables.specs.Entries.{pipes_of}
use Rattle.tables.proofs.Numbers.{Unused, Used, unused_told}
use Rattle.tables.proofs.pipes.Pipes.lowest_unused.Goals as goal

pub returns-then-is_full : goal.returns-then-is_full
returns-then-is_full c =
    let full : 62 ≤ length (pipes_of c.args.self.now) = search (rules, tests) in
    sym (cond-false _ _ _ (le-ltb _ _ full))

pub returns : goal.returns
returns c =
    let ps = pipes_of c.args.self.now in
    let room : length ps < 62 = search (rules, tests) in
    unused_told ps c.find.result (first_from_Range _ _ _ c.find.result (Unused ps) (Used ps) c.find.ensures.ran (λ x q k. search (rules, tests)) (λ x q k. search (rules, tests)))
    ∙ sym (cond-true _ _ _ (lt-ltb (length ps) 62 room))
