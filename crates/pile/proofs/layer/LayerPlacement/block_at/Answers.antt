use Rattle.pile.proofs.layer.LayerPlacement.block_at.Goals as goal

pub returns-in-Window : goal.returns-in-Window
returns-in-Window c = rw c.in-Window.is c.block_at-in-Window.ensures
