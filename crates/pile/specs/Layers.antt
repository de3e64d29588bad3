-- A layer of a room's pile means what the placement in it means.
use Rattle.std.specs.Prelude.{vec_items}
use Rattle.volume.specs.Layouts.{Layout, Lawful}
use Rattle.placement.specs.Owned.{spared_layout, window_layout}
use Rattle.placement.specs.Shifts.{spared_lawful}
use Rattle.placement.specs.Windows.{window_lawful}
use Rattle.pile.specs.declared.layer.Layer.{Layer}
use Rattle.pile.specs.declared.layer.Layer.TheVariants.{Tracks, Window}

abbrev pub layer_layout : Layer → Layout
layer_layout (Tracks p) = spared_layout p
layer_layout (Window w) = window_layout w

pub layer_lawful : (l : Layer) → Lawful (layer_layout l)
layer_lawful (Tracks p) = spared_lawful p.shape (vec_items p.spared) p.sized p.listed
layer_lawful (Window w) = window_lawful w.offset w.length w.total w.within
