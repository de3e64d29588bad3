-- The semaphore table: a name that stands in it is locked.
use Rattle.std.specs.Prelude.{ℕ, Bool, false, cond, not, ◌||◌, List, [], ◌∷◌, replicate, ◌==◌}
use Rattle.model.specs.Answers.{Answer, bare, semaphore}
use Rattle.model.specs.Worlds.{World, with_semaphores}

-- eight blanks, 20h: an unused entry
abbrev pub blank : ℕ
blank = 0x2020202020202020

abbrev pub has : ℕ → List ℕ → Bool
has n [] = false
has n (x ∷ names) = n == x || has n names

-- the first entry that is x becomes y
abbrev pub replaced : ℕ → ℕ → List ℕ → List ℕ
replaced x y [] = []
replaced x y (z ∷ names) = cond (x == z) (y ∷ names) (z ∷ replaced x y names)

-- is the name other than blanks? is it not in the table? is there an unused entry?
abbrev pub lock_questions : World → ℕ → List (Bool × Answer)
lock_questions w n =
    (not (n == blank), bare 0x8F) ∷
    (not (has n w.semaphores), semaphore 0x80) ∷
    (has blank w.semaphores, semaphore 0xFD) ∷
    []

abbrev pub lock_done : World → ℕ → Answer × World
lock_done w n = (semaphore 0x00, with_semaphores w (replaced blank n w.semaphores))

-- is the name other than blanks? is it in the table?
abbrev pub unlock_questions : World → ℕ → List (Bool × Answer)
unlock_questions w n =
    (not (n == blank), bare 0x8F) ∷
    (has n w.semaphores, semaphore 0x00) ∷
    []

abbrev pub unlock_done : World → ℕ → Answer × World
unlock_done w n = (semaphore 0x80, with_semaphores w (replaced n blank w.semaphores))

abbrev pub no_names : List ℕ
no_names = replicate 32 blank

abbrev pub initialize_done : World → Answer × World
initialize_done w = (bare 0x00, with_semaphores w no_names)
