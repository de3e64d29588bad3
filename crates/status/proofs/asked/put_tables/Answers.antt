use Rattle.std.proofs.Common.{◌∙◌, arith}
use Rattle.status.proofs.Selector.{answer_told, number_told, after_told}
use Rattle.status.proofs.asked.put_tables.Goals as goal

pub returns-clause-answer : goal.returns-clause-answer
returns-clause-answer c =
    let t = c.args.tables.now in
    let first = c.in_ok-front.ensures.cases in
    c.put.ensures.number ∙ answer_told t.names.now t.entries.area t.entries.pipes.now c.args.selector c.args.out.now first.enough (omega arith) (omega arith)

pub returns-clause-number : goal.returns-clause-number
returns-clause-number c =
    let t = c.args.tables.now in
    let first = c.in_ok-front.ensures.cases in
    c.put.ensures.number ∙ number_told t.names.now t.entries.area t.entries.pipes.now c.args.selector c.args.out.now first.enough (omega arith) (omega arith)

pub returns-clause-after : goal.returns-clause-after
returns-clause-after c =
    let t = c.args.tables.now in
    let first = c.in_ok-front.ensures.cases in
    after_told t.names.now t.entries.area t.entries.pipes.now c.args.selector c.args.out.now _ _ first.enough (omega arith) (omega arith) first.same c.put.ensures.after
