-- What the crate's own types mean. A file that names a struct with a ghost field is not imported where the struct stands.
use Rattle.std.specs.Prelude.{ℕ, List, vec_items}
use Rattle.volume.specs.Layouts.{Layout}
use Rattle.placement.specs.Tracks.{track_layout}
use Rattle.placement.specs.Windows.{window}
use Rattle.placement.specs.declared.shape.Shape.{Shape}
use Rattle.placement.specs.declared.tracks.SparedTracks.{SparedTracks}
use Rattle.placement.specs.declared.window.Window.{Window}

abbrev pub no_tracks : Shape
no_tracks = record { tracks = 0; sectors = 0; firmware = 0; spares = 0 }

-- what a placement was set up with
abbrev pub set_up : SparedTracks → Shape × List ℕ
set_up p = (p.shape, vec_items p.spared)

abbrev pub spared_layout : SparedTracks → Layout
spared_layout p = track_layout p.shape (vec_items p.spared)

abbrev pub window_layout : Window → Layout
window_layout w = window w.offset w.length w.total
