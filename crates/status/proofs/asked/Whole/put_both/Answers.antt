use Rattle.status.proofs.Lengths.{length-name_table}
use Rattle.status.proofs.Parts.{front_more}
use Rattle.status.proofs.asked.Whole.put_both.Goals as goal

pub returns : goal.returns
returns c =
    let entries = c.args.self.now.entries in
    front_more c.args.out.now _ _ _ _ 512 512 c.told-out (length-name_table entries.area entries.pipes.now) c.write_names.ensures c.write_pointers.ensures
