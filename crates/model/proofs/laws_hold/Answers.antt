use Rattle.model.proofs.Whole.{laws_hold, every_list, parts_kept}
use Rattle.model.proofs.laws_hold.Goals as goal

pub returns : goal.returns
returns c = record { runs = laws_hold; lists = every_list; parts = parts_kept }
