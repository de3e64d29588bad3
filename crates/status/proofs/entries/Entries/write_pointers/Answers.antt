use Rattle.std.proofs.Common.{sym, ap, ◌∙◌}
use Rattle.build.specs.Builds.{front}
use Rattle.model.specs.Tables.{pointer_table}
use Rattle.status.proofs.Padding.{pointers_put}
use Rattle.status.proofs.entries.Entries.write_pointers.Goals as goal

pub returns-in-Some : goal.returns-in-Some
returns-in-Some c =
    pointers_put c.in-Some.area c.args.self.now.pipes.now c.args.out.now _ _ _ c.in-Some.is c.requires.few c.put_zeros.ensures c.put_entries.ensures

pub returns-in_default : goal.returns-in_default
returns-in_default c = c.put_zeros.ensures ∙ ap (λ a. front (pointer_table a c.args.self.now.pipes.now) c.args.out.now) (sym c.in_default.is)
