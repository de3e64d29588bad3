-- What a place of a drive with spared tracks serves.
use Rattle.std.specs.Prelude.{◌≡◌, ℕ, ◌*◌, ◌/◌, cond, List, Some, None, Option, nat_le, nat_lt}
use Rattle.volume.specs.Layouts.{BlockAt}
use Rattle.placement.specs.Tracks.{is_spared, track_layout}
use Rattle.placement.specs.declared.shape.Shape.{Shape}
use Rattle.placement.specs.declared.tracks.uses.PlaceUse.{PlaceUse}
use Rattle.placement.specs.declared.tracks.uses.PlaceUse.TheVariants.{Block, Firmware, Spared, Reserve, Outside}

-- a usable track serves its blocks, or is kept in reserve
abbrev pub block_use : Option ℕ → PlaceUse
block_use (Some n) = Block n
block_use None = Reserve

-- the use of a place with this block
abbrev pub place_use : Shape → List ℕ → ℕ → Option ℕ → PlaceUse
place_use d ss place block =
    cond (nat_le (d.tracks * d.sectors) place) Outside
    (cond (nat_lt (place / d.sectors) d.firmware) Firmware
    (cond (is_spared ss (place / d.sectors)) Spared (block_use block)))

-- r is the place's use: the block is the one that lies there, and None exactly where none does
abbrev pub UseOf : Shape → List ℕ → ℕ → PlaceUse → Type 0
UseOf d ss place r = (block : Option ℕ) × BlockAt (track_layout d ss) place block × (r ≡ place_use d ss place block)
