use Rattle.std.proofs.Common.{rules, tests, arith}
use Rattle.model.specs.Tables.{entry_name}
use Rattle.status.proofs.Names.{numbers_named, entries_named}
use Rattle.status.proofs.entries.Entries.names.Goals as goal

pub returns-in-Some : goal.returns-in-Some
returns-in-Some c =
    let ps = c.args.self.now.pipes.now in
    entries_named _ ps c.from_fn.result _ c.in-Some.is (numbers_named _ (entry_name ps) c.from_fn.result _ 0 64 c.from_fn.ensures.items.long (omega arith) (λ i y q few h. search (rules, tests)) c.from_fn.ensures.items.each)
