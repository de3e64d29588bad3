use Rattle.std.proofs.Common.{refl, ◌∙◌}
use Rattle.std.proofs.lemmas.Fn.{called_at}
use Rattle.std.proofs.lemmas.Iterator.{YieldsList-from_slice}
use Rattle.std.proofs.lemmas.Iterator.Search.{position_from_yields_List}
use Rattle.tables.proofs.Firsts.{position-place}
use Rattle.tables.proofs.search.place_of.Goals as goal

pub returns-clause-found : goal.returns-clause-found
returns-clause-found g c is acts =
    position_from_yields_List is _ _ c.position.result c.position.ensures.ran (YieldsList-from_slice c.args.entries.now cc) (λ x b q k. acts x.now b q (called_at g.W.FnMut k refl))
    ∙ position-place is c.args.entries.now
