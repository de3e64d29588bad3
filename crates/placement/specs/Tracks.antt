-- Spared tracks: logical track k is the k-th, from 0, of the tracks behind the firmware that are not spared.
use Rattle.std.specs.Prelude.{◌≡◌, ℕ, ◌+◌, ◌-◌, ◌*◌, ◌/◌, ◌%◌, ◌≤◌, Bool, true, cond, not, ◌&&◌, List, [], ◌∷◌, length, Ok, Err, filter, Result, ◌==◌, nat_le, nat_lt, slice_index}
use Rattle.std.specs.List.{range_with_len, list_any}
use Rattle.volume.specs.Layouts.{Layout}
use Rattle.placement.specs.declared.refusal.Refusal.{Refusal}
use Rattle.placement.specs.declared.refusal.Refusal.TheVariants as refusals
use Rattle.placement.specs.declared.shape.Shape.{Shape}

abbrev pub is_spared : List ℕ → ℕ → Bool
is_spared ss track = list_any (λ s. s == track) ss

-- the tracks behind the firmware that are not spared, in order
abbrev pub usable : Shape → List ℕ → List ℕ
usable d ss = filter (λ track. not (is_spared ss track)) (range_with_len d.firmware (d.tracks - d.firmware))

-- A block keeps its sector within the track. As many tracks as may be spared are kept back, spared or not.
abbrev pub track_layout : Shape → List ℕ → Layout
track_layout d ss = record {
  count = (d.tracks - d.firmware - d.spares) * d.sectors;
  total = d.tracks * d.sectors;
  place = λ n. slice_index (usable d ss) (n / d.sectors) * d.sectors + n % d.sectors;
}

-- strictly rising, from lo up and below hi
abbrev pub rising : ℕ → ℕ → List ℕ → Bool
rising lo hi [] = true
rising lo hi (s ∷ ss) = nat_le lo s && nat_lt s hi && rising (s + 1) hi ss

-- what every shape that was set up keeps, and every list with it
abbrev pub ShapeFits : Shape → Type 0
ShapeFits d = (d.firmware + d.spares ≤ d.tracks) × (d.tracks ≤ 65535) × (d.sectors ≤ 64) × (d.spares ≤ 16)

abbrev pub ListFits : Shape → List ℕ → Type 0
ListFits d ss = (rising d.firmware d.tracks ss ≡ true) × (length ss ≤ d.spares)

abbrev pub track_check : Shape → List ℕ → Result (Unit {0}) Refusal
track_check d ss =
    cond (nat_le 1 d.tracks && nat_le d.tracks 65535 && nat_le 1 d.sectors && nat_le d.sectors 64 && nat_le d.spares 16)
    (cond (nat_lt (d.firmware + d.spares) d.tracks)
    (cond (rising d.firmware d.tracks ss)
    (cond (nat_le (length ss) d.spares) (Ok tt) (Err refusals.Many))
    (Err refusals.Order))
    (Err refusals.Room))
    (Err refusals.Shape)
