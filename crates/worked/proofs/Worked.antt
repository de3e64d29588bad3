-- That a place has no block is shown for all blocks at once.
use Rattle.std.proofs.Common.{None, refl, lit<, lit≤}
use Rattle.volume.specs.Layouts.{BlockAt}
use Rattle.placement.specs.Tracks.{ShapeFits, ListFits}
use Rattle.placement.proofs.Inverse.{none_firmware, none_spared}
use Rattle.worked.specs.Rows.{drive, spares, example}

shape : ShapeFits drive
shape = (lit≤ tt, lit≤ tt, lit≤ tt, lit≤ tt)

list : ListFits drive spares
list = (refl, lit≤ tt)

pub no_block_of_firmware : BlockAt example 79 None
no_block_of_firmware = none_firmware drive spares shape list 79 (lit< tt)

pub no_block_of_spared : BlockAt example 1340 None
no_block_of_spared = none_spared drive spares shape list 1340 refl
