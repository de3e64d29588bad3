-- What a pile of placements means.
use Rattle.std.specs.Prelude.{List, [], ◌∷◌, vec_items, fold}
use Rattle.volume.specs.Layouts.{Layout, Lawful, layered}
use Rattle.volume.specs.Fits.{layered_lawful}
use Rattle.pile.specs.declared.Pile.{Pile}

-- the bottom one, and then each of the list on what is there
abbrev pub pile_layout : {P : Type 0} → (P → Layout) → P → List P → Layout
pile_layout layout bottom above = fold (λ lower upper. layered (layout upper) lower) (layout bottom) above

abbrev pub layout_of : {P : Type 0} → (P → Layout) → Pile P → Layout
layout_of layout pile = pile_layout layout pile.bottom (vec_items pile.above)

pub pile_lawful : {P : Type 0} (layout : P → Layout) → ((p : P) → Lawful (layout p)) → (bottom : P) (above : List P) → Lawful (pile_layout layout bottom above)
pile_lawful {P} layout lawful bottom above = rising above (layout bottom) (lawful bottom) where
  rising : (uppers : List P) (lower : Layout) → Lawful lower → Lawful (fold (λ lower upper. layered (layout upper) lower) lower uppers)
  rising [] lower low = low
  rising (u ∷ us) lower low = rising us (layered (layout u) lower) (layered_lawful (layout u) lower (lawful u) low)
