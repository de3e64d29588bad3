use Rattle.status.proofs.EightBytes.{row_more}
use Rattle.status.proofs.rows.put_rows.Goals as goal

pub loop-i-preserved : goal.loop-i-preserved
loop-i-preserved g c =
    row_more g.R.Row.bytes g.met.R.Row.eight _ _ _ _ _ _ _ _ c.requires c.loop-i-test.true c.loop-i.invariant c.index-rows-i.is c.row.ensures c.put_row.ensures
