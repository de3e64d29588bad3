use Rattle.std.proofs.Common.{◌≡◌, ◌≤◌, Bool, cond, Some, None, length, ap, ◌∙◌, arith, rules}
use Rattle.tables.specs.Names.{names_of}
use Rattle.tables.specs.Entries.{pipes_of}
use Rattle.model.specs.Tables.{tables_asked}
use Rattle.status.specs.Written.{after_table}
use Rattle.controller.proofs.Told.{askable-selector}
use Rattle.controller.proofs.controller.Tables.put.Goals as goal

pub returns : goal.returns
returns c =
    let names = names_of c.args.self.now.semaphores in
    let pipes = pipes_of c.args.self.now.pipes in
    let asked = tables_asked names c.args.self.now.area pipes c.args.selector in
    let e = c.put_tables.ensures in
    let full : length names ≡ 32 = search rules in
    let few : length pipes ≤ 62 = rw c.pipes.ensures.pipes at c.pipes.ensures.few in
    let ok = askable-selector (length names) (length pipes) c.args.selector (length c.args.out.now) full few (omega arith) in
    let answer = rw (c.names.ensures, c.pipes.ensures.pipes) at e.answer in
    let after = rw (c.names.ensures, c.pipes.ensures.pipes) at e.after in
    record {
      count = answer ∙ ap (λ (t : Bool). cond t (Some (length asked)) None) ok;
      after = after ∙ ap (λ (t : Bool). after_table t asked c.args.out.now) ok;
    }
