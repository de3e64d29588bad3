-- What holds after every list of requests from the making, of the history and of the world that it leads to.
use Rattle.std.specs.Prelude.{◌≡◌, ℕ, zero, suc, ◌+◌, ◌-◌, ◌<◌, ◌≤◌, Bool, true, false, cond, ◌⊎◌, ◌↔◌, List, [], ◌∷◌, ◌++◌, length, Some, None, Option, ◌==◌, slice_index_or}
use Rattle.std.specs.List.{AllByRecursion}
use Rattle.volume.specs.Meanings.{Block, sound, block_of}
use Rattle.volume.specs.Parts.{part}
use Rattle.packet.specs.Commands.{lock}
use Rattle.model.specs.declared.pipe.Pipe.{Pipe}
use Rattle.model.specs.Answers.{Answer, semaphore}
use Rattle.model.specs.Worlds.{World}
use Rattle.model.specs.Sectors.{overwritten}
use Rattle.model.specs.Steps.{Request, call, step}
use Rattle.model.specs.Runs.{History, requests, Making, Run}
use Rattle.model.specs.Effects.{Effect, on_semaphores, on_blocks, on_pipes, nothing, effects, SemaphoreEffect, locked, unlocked, cleared, written, covered, begun, handed_out, brought}

-- how many pass the test
abbrev pub count : (Effect → Bool) → List Effect → ℕ
count test [] = 0
count test (e ∷ es) = cond (test e) (suc (count test es)) (count test es)

-- those that came after the last that passes the test
abbrev pub since : (Effect → Bool) → List Effect → List Effect
since test [] = []
since test (e ∷ es) = cond (test e) [] (e ∷ since test es)

-- Locks

abbrev pub semaphore_test : (SemaphoreEffect → Bool) → Effect → Bool
semaphore_test test (on_semaphores e) = test e
semaphore_test test (on_blocks e) = false
semaphore_test test (on_pipes e) = false
semaphore_test test nothing = false

abbrev pub is_lock : ℕ → SemaphoreEffect → Bool
is_lock n (locked m) = n == m
is_lock n (unlocked m) = false
is_lock n cleared = false

abbrev pub is_unlock : ℕ → SemaphoreEffect → Bool
is_unlock n (locked m) = false
is_unlock n (unlocked m) = n == m
is_unlock n cleared = false

abbrev pub is_clear : SemaphoreEffect → Bool
is_clear (locked m) = false
is_clear (unlocked m) = false
is_clear cleared = true

abbrev pub since_clear : List Effect → List Effect
since_clear es = since (semaphore_test is_clear) es

-- Locks of the name answered 00h, and Unlocks of it answered 80h, since the making or the last accepted Initialize
abbrev pub locks : ℕ → List Effect → ℕ
locks n es = count (semaphore_test (is_lock n)) (since_clear es)

abbrev pub unlocks : ℕ → List Effect → ℕ
unlocks n es = count (semaphore_test (is_unlock n)) (since_clear es)

abbrev pub OneAhead : ℕ → List Effect → Type 0
OneAhead n es = locks n es ≡ unlocks n es + 1

-- For each name the Locks less the Unlocks are 0 or 1, and 1 exactly when a Lock of it would now answer 80h.
abbrev pub LawOfLocks : History → World → Type 0
LawOfLocks h w =
    (n : ℕ) →
    ((locks n (effects h) ≡ unlocks n (effects h)) ⊎ OneAhead n (effects h)) ×
    (OneAhead n (effects h) ↔ ((step w (call (lock n))).0 ≡ semaphore 0x80))

-- Pipes

abbrev pub begins : ℕ → Effect → Bool
begins k (on_semaphores e) = false
begins k (on_blocks e) = false
begins k (on_pipes (begun i)) = i == k
begins k (on_pipes (handed_out i bytes)) = false
begins k (on_pipes (brought i bytes)) = false
begins k nothing = false

-- since the Open Write that gave the number
abbrev pub since_begun : ℕ → List Effect → List Effect
since_begun k es = since (begins k) es

-- the block that was handed out of pipe k, or brought to it, if any
abbrev pub out_of : ℕ → Effect → Option Block
out_of k (on_semaphores e) = None
out_of k (on_blocks e) = None
out_of k (on_pipes (begun i)) = None
out_of k (on_pipes (handed_out i bytes)) = cond (i == k) (Some (sound bytes)) None
out_of k (on_pipes (brought i bytes)) = None
out_of k nothing = None

abbrev pub into : ℕ → Effect → Option Block
into k (on_semaphores e) = None
into k (on_blocks e) = None
into k (on_pipes (begun i)) = None
into k (on_pipes (handed_out i bytes)) = None
into k (on_pipes (brought i bytes)) = cond (i == k) (Some (sound bytes)) None
into k nothing = None

abbrev pub and_then : List Block → Option Block → List Block
and_then bs None = bs
and_then bs (Some b) = bs ++ (b ∷ [])

-- those blocks, the oldest first
abbrev pub in_order : (Effect → Option Block) → List Effect → List Block
in_order f [] = []
in_order f (e ∷ es) = and_then (in_order f es) (f e)

-- the blocks that pipe k's accepted Reads handed out, and those that its accepted Writes brought, since its Open Write
abbrev pub reads : ℕ → List Effect → List Block
reads k es = in_order (out_of k) (since_begun k es)

abbrev pub writes : ℕ → List Effect → List Block
writes k es = in_order (into k) (since_begun k es)

-- the n blocks that stand from block s on
abbrev pub standing : (ℕ → Block) → ℕ → ℕ → List Block
standing at s zero = []
standing at s (suc n) = at s ∷ standing at (suc s) n

-- What its Reads handed out, followed by what stands from its start up to its end, is what its Writes brought, in order.
abbrev pub Passes : List Effect → (ℕ → Block) → Pipe → Type 0
Passes es at p = reads p.number es ++ standing at p.start (p.end - p.start) ≡ writes p.number es

abbrev pub LawOfPipes : History → World → Type 0
LawOfPipes h w = AllByRecursion (Passes (effects h) (block_of w.volume)) w.pipes

-- Blocks

-- the bottom block at place q after this effect
abbrev pub laid : (ℕ → ℕ) → ℕ → Effect → Block → Block
laid place q (on_semaphores e) b = b
laid place q (on_blocks (written n first new)) b = cond (q == place n) (sound (overwritten first new b)) b
laid place q (on_blocks (covered f l)) b = b
laid place q (on_pipes e) b = b
laid place q nothing b = b

-- What laying data on a part of a sound block comes to: the part is the data, and every other byte is what it was.
pub record LaidOn (bytes : List ℕ) (first : ℕ) (new after : List ℕ) : Type 0 where
  pub same_length : length after ≡ length bytes
  pub inside : part after first (length new) ≡ new
  pub outside : (i z : ℕ) → (i < first) ⊎ (first + length new ≤ i) → slice_index_or after i z ≡ slice_index_or bytes i z

abbrev pub PartsKept : Type 0
PartsKept = (bytes : List ℕ) (first : ℕ) (new : List ℕ) → first + length new ≤ length bytes → LaidOn bytes first new (overwritten first new (sound bytes))

-- with every accepted sector Write laid on its place in turn
abbrev pub laid_in_turn : (ℕ → ℕ) → ℕ → List Effect → Block → Block
laid_in_turn place q [] b = b
laid_in_turn place q (e ∷ es) b = laid place q e (laid_in_turn place q es b)

-- q is the place of a block that an accepted Area Initialize named
abbrev pub Covers : (ℕ → ℕ) → ℕ → Effect → Type 0
Covers place q (on_semaphores e) = ⊥
Covers place q (on_blocks (written n first new)) = ⊥
Covers place q (on_blocks (covered f l)) = (n : ℕ) × (f ≤ n) × (n < f + l) × (place n ≡ q)
Covers place q (on_pipes e) = ⊥
Covers place q nothing = ⊥

abbrev pub Covered : (ℕ → ℕ) → ℕ → List Effect → Type 0
Covered place q [] = ⊥
Covered place q (e ∷ es) = Covers place q e ⊎ Covered place q es

-- Each bottom block is what it was at the making with every accepted sector Write laid on it in turn, unless a pipe area has covered it.
abbrev pub LawOfBlocks : World → History → World → Type 0
LawOfBlocks w₀ h w =
    (q : ℕ) → (Covered w₀.volume.place q (effects h) → ⊥) →
    w.volume.bottom q ≡ laid_in_turn w₀.volume.place q (effects h) (w₀.volume.bottom q)

pub record Laws (w₀ : World) (h : History) (w : World) : Type 0 where
  pub locks : LawOfLocks h w
  pub pipes : LawOfPipes h w
  pub blocks : LawOfBlocks w₀ h w

-- The laws hold of every run from a making.
abbrev pub LawsHold : Type 0
LawsHold = (w₀ : World) (h : History) (w : World) → Making w₀ → Run w₀ h w → Laws w₀ h w

-- Every list of requests, the newest first, refused ones included, is that of a run from every making, and the laws hold of it.
abbrev pub EveryList : Type 0
EveryList =
    (w₀ : World) → Making w₀ → (rs : List Request) →
    (h : History) × (w : World) × (requests h ≡ rs) × Run w₀ h w × Laws w₀ h w

-- What a call of the controller owes: every run that leads to the world at its entry goes on, by this request and this answer, to the world
-- at its exit, and the laws hold there.
abbrev pub Kept : World → Request → Answer → World → Type 0
Kept v r a w =
    (w₀ : World) (h : History) → Making w₀ → Run w₀ h v →
    Run w₀ (record { request = r; answer = a } ∷ h) w × Laws w₀ (record { request = r; answer = a } ∷ h) w

-- The defined answer and the defined world, and the laws kept.
pub record Does (v : World) (r : Request) (a : Answer) (w : World) : Type 0 where
  pub defined : step v r ≡ (a, w)
  pub laws : Kept v r a w
