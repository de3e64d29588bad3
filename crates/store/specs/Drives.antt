-- What a drive means, and which block of its store a block is.
use Rattle.std.specs.Prelude.{ℕ, cond, Some, None, vec_items, Option, nat_lt}
use Rattle.volume.specs.Meanings.{Meaning, Sound}
use Rattle.volume.specs.Layouts.{piled}
use Rattle.volume.specs.Fits.{piled_sound}
use Rattle.pile.specs.Piles.{layout_of, pile_lawful}
use Rattle.pile.specs.Layers.{layer_layout, layer_lawful}
use Rattle.store.specs.Stores.{store_meaning, store_sound}
use Rattle.store.specs.declared.Store.{Store}
use Rattle.store.specs.declared.drive.Drive.{Drive}
use Rattle.store.specs.declared.drive.Drive.TheVariants.{Plain, Piled}

abbrev pub drive_meaning : Drive → Meaning
drive_meaning (Plain store) = store_meaning store
drive_meaning (Piled p) = piled (layout_of layer_layout p.pile) (store_meaning p.volume)

pub drive_sound : (d : Drive) → Sound (drive_meaning d)
drive_sound (Plain store) = store_sound store
drive_sound (Piled p) = piled_sound (layout_of layer_layout p.pile) (store_meaning p.volume) (pile_lawful layer_layout layer_lawful p.pile.bottom (vec_items p.pile.above)) (store_sound p.volume)

abbrev pub store_of : Drive → Store
store_of (Plain store) = store
store_of (Piled p) = p.volume

-- the bottom block that is block n
abbrev pub bottom_block : Meaning → ℕ → Option ℕ
bottom_block m n = cond (nat_lt n m.count) (Some (m.place n)) None

-- the bottom block that is the noted block
abbrev pub bottom_noted : Meaning → Option ℕ → Option ℕ
bottom_noted m (Some n) = bottom_block m n
bottom_noted m None = None
