-- How a record may be written, and that it reads back.
use Rattle.std.specs.Prelude.{◌≡◌, ℕ, ◌+◌, cond, List, [], ◌∷◌, ◌++◌, ◌==◌, ◌≢◌, slice_index}
use Rattle.std.specs.List.{AllByRecursion}
use Rattle.sheet.specs.Records.{record_of, read}

abbrev pub doubled : List ℕ → List ℕ
doubled [] = []
doubled (b ∷ bs) = cond (b == 34) (34 ∷ 34 ∷ doubled bs) (b ∷ doubled bs)

abbrev pub quoted : List ℕ → List ℕ
quoted field = 34 ∷ (doubled field ++ 34 ∷ [])

-- no comma, no LF and no CR
abbrev pub Ordinary : ℕ → Type 0
Ordinary b = (b ≢ 44) × (b ≢ 10) × (b ≢ 13)

-- any field may stand in quotes, and one of ordinary bytes that does not begin with a quote may stand as it is
pub data Field : List ℕ → List ℕ → Type 0 where
  bare : {f : List ℕ} → (slice_index f 0 ≢ 34) → AllByRecursion Ordinary f → Field f f
  in_quotes : {f : List ℕ} → Field f (quoted f)

-- fields parted by commas
pub data Row : List (List ℕ) → List ℕ → Type 0 where
  one : {f text : List ℕ} → Field f text → Row (f ∷ []) text
  more : {f text : List ℕ} {fs : List (List ℕ)} {texts : List ℕ} → Field f text → Row fs texts → Row (f ∷ fs) (text ++ 44 ∷ texts)

-- what ends a row, how many line ends that is, and what is left behind it
pub data Ending : List ℕ → ℕ → List ℕ → Type 0 where
  lf : {rest : List ℕ} → Ending (10 ∷ rest) 1 rest
  cr_lf : {rest : List ℕ} → Ending (13 ∷ 10 ∷ rest) 1 rest
  text_end : Ending [] 0 []

abbrev pub line_ends : List ℕ → ℕ
line_ends [] = 0
line_ends (b ∷ bs) = cond (b == 10) 1 0 + line_ends bs

-- Whatever bytes the fields have: a row of them, and its ending, is read as these fields, with what stands behind it left.
abbrev pub ReadsBack : Type 0
ReadsBack =
    (fields : List (List ℕ)) (row ending rest : List ℕ) (n k : ℕ) → Row fields row → Ending ending k rest →
    record_of n (row ++ ending) ≡ read fields (n + line_ends row + k) rest
