-- The gaps between the entries, and the one that a new pipe takes.
use Rattle.std.specs.Prelude.{ℕ, suc, ◌+◌, ◌-◌, ◌/◌, Bool, false, cond, List, [], ◌∷◌, nat_lt}
use Rattle.model.specs.declared.pipe.Gap.{Gap}
use Rattle.model.specs.declared.pipe.Pipe.{Pipe}
use Rattle.model.specs.declared.pipe.Area.{Area}
use Rattle.model.specs.Pipes.{is_writing}
use Rattle.model.specs.Sectors.{area_end}

-- what the entry below keeps of a gap: half, rounded up, if it is open for write
abbrev pub keeps : Bool → ℕ → ℕ
keeps writing width = cond writing ((width + 1) / 2) 0

abbrev pub gap : ℕ → Bool → ℕ → ℕ → Gap
gap below writing low high = record { below = below; from = low + keeps writing (high - low); gives = (high - low) - keeps writing (high - low) }

-- the gaps from the lowest up: so many pipes stand below, and the entry below ends at low
abbrev pub gaps : ℕ → Bool → ℕ → List Pipe → ℕ → List Gap
gaps below writing low [] top = gap below writing low top ∷ []
gaps below writing low (p ∷ ps) top = gap below writing low p.start ∷ gaps (suc below) (is_writing p.access) p.end ps top

-- the one that gives most, the lower on a tie
abbrev pub most : Gap → List Gap → Gap
most g [] = g
most g (f ∷ fs) = most (cond (nat_lt g.gives f.gives) f g) fs

abbrev pub no_gap : Gap
no_gap = record { below = 0; from = 0; gives = 0 }

-- entry 0 stands below the first gap, and is not open for write
abbrev pub best_gap : Area → List Pipe → Gap
best_gap a ps = most no_gap (gaps 0 false a.first ps (area_end a))
