-- What a placement means, how one stands on another, and how one stands on a volume.
use Rattle.std.specs.Prelude.{◌≡◌, ℕ, ◌<◌, ◌≤◌, cond, Some, None, Option, MatchOption, ◌≢◌, nat_le, nat_lt}
use Rattle.volume.specs.Meanings.{Meaning}

-- Each block below the count has a place below the total.
pub record Layout : Type 0 where
  pub count : ℕ
  pub total : ℕ
  pub place : ℕ → ℕ

-- What every placement's layout keeps.
pub record Lawful (l : Layout) : Type 0 where
  pub few : l.count ≤ l.total
  pub within : (n : ℕ) → n < l.count → l.place n < l.total
  -- different blocks have different places
  pub apart : (i j : ℕ) → i < l.count → j < l.count → l.place i ≡ l.place j → i ≡ j

abbrev pub place_of : Layout → ℕ → Option ℕ
place_of l n = cond (nat_lt n l.count) (Some (l.place n)) None

-- r is the block at place p, and None exactly where no block has it
abbrev pub BlockAt : Layout → ℕ → Option ℕ → Type 0
BlockAt l p r = MatchOption r ((n : ℕ) → n < l.count → l.place n ≢ p) (λ n. (n < l.count) × (l.place n ≡ p))

-- the count of what stands on something: none where it needs more than there is
abbrev pub fitting : ℕ → ℕ → ℕ → ℕ
fitting needed there count = cond (nat_le needed there) count 0

-- where block n lies on what has so many blocks
abbrev pub place_on : Layout → ℕ → ℕ → Option ℕ
place_on l there n = cond (nat_lt n (fitting l.total there l.count)) (Some (l.place n)) None

-- r is the layout's block at a block of what has so many, and None where the layout does not fit or there is no such block
abbrev pub BlockOn : Layout → ℕ → Option ℕ → Option ℕ → Type 0
BlockOn l there block r = MatchOption block (r ≡ None) (λ m. cond (nat_le l.total there) (BlockAt l m r) (r ≡ None))

-- the upper's places are blocks of the lower
abbrev pub layered : Layout → Layout → Layout
layered upper lower = record {
  count = fitting upper.total lower.count upper.count;
  total = lower.total;
  place = λ n. lower.place (upper.place n);
}

-- the layout's places are blocks of the volume
abbrev pub piled : Layout → Meaning → Meaning
piled l m = record {
  count = fitting l.total m.count l.count;
  writable = m.writable;
  place = λ n. m.place (l.place n);
  bottom = m.bottom;
}
