-- What the work image and the shelf image mean; the shelf image, whatever holds its bytes.
use Rattle.std.specs.Prelude.{ℕ, true, false, vec_items}
use Rattle.std.specs.declared.convert.AsSlice.{Ghosts}
use Rattle.volume.specs.Meanings.{Meaning}
use Rattle.image.specs.Images.{image_meaning}
use Rattle.image.specs.declared.work.WorkImage.{WorkImage}
use Rattle.image.specs.declared.shelf.ShelfImage.{ShelfImage}

abbrev pub work_meaning : WorkImage → Meaning
work_meaning w = image_meaning true (vec_items w.image.bytes)

abbrev pub shelf_meaning : {B : Type 0} {g : Ghosts B ℕ} → ShelfImage B g → Meaning
shelf_meaning {g = g} s = image_meaning false (g.items s.image.bytes)
