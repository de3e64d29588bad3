use Rattle.std.proofs.Common.{ap, ◌∙◌}
use Rattle.model.specs.Tables.{end_pointer}
use Rattle.status.proofs.Padding.{entries-put}
use Rattle.status.proofs.entries.put_entries.Goals as goal

pub returns : goal.returns
returns c =
    entries-put c.args.area c.args.pipes.now c.args.out.now _ _ _ _ _
    (c.end_pointer.ensures ∙ ap (end_pointer 0) c.from.ensures)
    (c.end_pointer-2.ensures ∙ ap (end_pointer 63) c.end.ensures)
    c.requires c.put_row.ensures c.put_rows.ensures c.put_row-2.ensures
