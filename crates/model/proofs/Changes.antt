-- What a request changes, by its effect: all that the laws rest on of what the controller does.
use Rattle.std.proofs.Common.{◌≡◌, ℕ, ◌+◌, ◌<◌, ◌≤◌, true, not, eqb, leb, List, Some, Ok, Err, Result, refl}
use Rattle.std.proofs.lemmas.Bool.{ltb-true, leb-true, cond_both}
use Rattle.volume.specs.Meanings.{Block, sound, lost, block_of}
use Rattle.packet.specs.declared.fault.PacketFault.{PacketFault}
use Rattle.packet.specs.Commands.{Command, read, write, lock, unlock, initialize_semaphores, status, initialize_area, open_write, open_read, pipe_read, pipe_write, close, first_byte}
use Rattle.packet.specs.Commands as sectors
use Rattle.packet.specs.Packets.{decoded, in_range}
use Rattle.model.specs.declared.pipe.Pipe.{Pipe}
use Rattle.model.specs.declared.pipe.Area.{Area}
use Rattle.model.specs.Answers.{Answer, refused}
use Rattle.model.specs.Worlds.{World, with_semaphores}
use Rattle.model.specs.Semaphores.{blank, has, replaced, no_names, lock_questions, lock_done, unlock_questions, unlock_done}
use Rattle.model.specs.Sectors.{area_end, within, read_questions, read_done, write_questions, write_done}
use Rattle.model.specs.Pipes.{find, closed_named, lowest_unused, next_start}
use Rattle.model.specs.Gaps.{best_gap}
use Rattle.model.specs.PipeCommands.{area_questions, area_done, open_write_questions, open_write_done, open_write_in, open_read_questions, open_read_done, open_read_in, pipe_read_questions, pipe_read_done, pipe_read_of, pipe_write_questions, pipe_write_done, pipe_write_of, close_questions, close_done, close_of}
use Rattle.model.specs.Steps.{obey, obey_said, Request, packet, call, step}
use Rattle.model.specs.Effects.{Effect, on_semaphores, on_blocks, on_pipes, nothing, effect, effect_said, effect_of, SemaphoreEffect, locked, unlocked, cleared, written, covered, begun, handed_out, brought}
use Rattle.model.proofs.Asked.{asked, given-one}

pub data SemaphoreChange (names : List ℕ) : SemaphoreEffect → List ℕ → Type 0 where
  locks : (n : ℕ) → not (eqb n blank) ≡ true → not (has n names) ≡ true → has blank names ≡ true → SemaphoreChange names (locked n) (replaced blank n names)
  unlocks : (n : ℕ) → not (eqb n blank) ≡ true → has n names ≡ true → SemaphoreChange names (unlocked n) (replaced n blank names)
  clears : SemaphoreChange names cleared no_names

pub data Change (w : World) : Effect → World → Type 0 where
  still : Change w nothing w
  renames : {e : SemaphoreEffect} {names : List ℕ} → SemaphoreChange w.semaphores e names → Change w (on_semaphores e) (with_semaphores w names)
  lays : (n first : ℕ) (new : List ℕ) → n < w.volume.count → not (within n w.area) ≡ true → Change w (on_blocks (written n first new)) (write_done w n first new).1
  covers : (f l : ℕ) → f + l ≤ w.volume.count → Change w (on_blocks (covered f l)) (area_done w f l).1
  begins : (a : Area) (n k : ℕ) → w.area ≡ Some a → lowest_unused w.pipes ≡ Some k → 0 < (best_gap a w.pipes).gives → Change w (on_pipes (begun k)) (open_write_done w a n k).1
  reopens : (a : Area) (n : ℕ) (p : Pipe) → w.area ≡ Some a → closed_named n w.pipes ≡ Some p → Change w nothing (open_read_done w p).1
  hands_out : (a : Area) (k : ℕ) (p : Pipe) (bytes : List ℕ) → w.area ≡ Some a → find k w.pipes ≡ Some p → p.start < p.end → block_of w.volume p.start ≡ sound bytes → Change w (on_pipes (handed_out k bytes)) (pipe_read_done w p (sound bytes)).1
  brings : (a : Area) (k : ℕ) (p : Pipe) (bytes : List ℕ) → w.area ≡ Some a → find k w.pipes ≡ Some p → p.end < next_start p.number w.pipes (area_end a) → p.end < w.volume.count → Change w (on_pipes (brought k bytes)) (pipe_write_done w bytes p).1
  closes : (a : Area) (k : ℕ) (p : Pipe) → w.area ≡ Some a → find k w.pipes ≡ Some p → Change w nothing (close_done w p).1

abbrev pub Changed : World → Command → Answer × World → Type 0
Changed w c r = Change w (effect c r.0) r.1

read_changes : (w : World) (a : Area) (k l : ℕ) (p : Pipe) (b : Block) → w.area ≡ Some a → find k w.pipes ≡ Some p → p.start < p.end → block_of w.volume p.start ≡ b → Changed w (pipe_read k l) (pipe_read_done w p b)
read_changes w a k l p (sound bytes) ea ep lt e = hands_out a k p bytes ea ep lt e
read_changes w a k l p lost ea ep lt e = still

pub obey_changes : (w : World) (c : Command) → Changed w c (obey w c)
obey_changes w (read z d s) =
    asked (Changed w (read z d s)) w (read_questions w d (sectors.block_of z s)) (read_done w z s) (still, (still, tt)) λ p q. still
obey_changes w (write z d s b) =
    let n = sectors.block_of z s in
    asked (Changed w (write z d s b)) w (write_questions w z d n) (write_done w n (first_byte z s) b) (still, (still, (still, (still, (still, tt))))) λ p q r t u.
    lays n (first_byte z s) b (ltb-true _ _ q) t
obey_changes w (lock n) =
    asked (Changed w (lock n)) w (lock_questions w n) (lock_done w n) (still, (still, (still, tt))) λ p q r. renames (locks n p q r)
obey_changes w (unlock n) =
    asked (Changed w (unlock n)) w (unlock_questions w n) (unlock_done w n) (still, (still, tt)) λ p q. renames (unlocks n p q)
obey_changes w initialize_semaphores = renames clears
obey_changes w (status k) = still
obey_changes w (initialize_area f l) =
    asked (Changed w (initialize_area f l)) w (area_questions w f l) (area_done w f l) (still, (still, (still, tt))) λ p q r. covers f l (leb-true _ _ r)
obey_changes w (open_write n) =
    let P = Changed w (open_write n) in
    given-one P w w.area _ (open_write_in w n) still λ a ea.
    asked P w (open_write_questions w a n) _ (still, (still, (still, tt))) λ p q r.
    given-one P w (lowest_unused w.pipes) _ (open_write_done w a n) still λ k ek.
    begins a n k ea ek (ltb-true _ _ r)
obey_changes w (open_read n) =
    let P = Changed w (open_read n) in
    given-one P w w.area _ (open_read_in w n) still λ a ea.
    asked P w (open_read_questions w n) _ (still, (still, tt)) λ q r.
    given-one P w (closed_named n w.pipes) _ (open_read_done w) still λ p ep.
    reopens a n p ea ep
obey_changes w (pipe_read k l) =
    let P = Changed w (pipe_read k l) in
    given-one P w w.area _ _ still λ a ea.
    given-one P w (find k w.pipes) _ (pipe_read_of w l) still λ p ep.
    asked P w (pipe_read_questions w l p) _ (still, (still, (still, (still, tt)))) λ q r s t.
    read_changes w a k l p (block_of w.volume p.start) ea ep (ltb-true _ _ s) refl
obey_changes w (pipe_write k l b) =
    let P = Changed w (pipe_write k l b) in
    given-one P w w.area _ _ still λ a ea.
    given-one P w (find k w.pipes) _ (pipe_write_of w a l b) still λ p ep.
    asked P w (pipe_write_questions w a l p) (pipe_write_done w b p) (still, (still, (still, (still, (still, tt))))) λ q r s t u.
    brings a k p b ea ep (ltb-true _ _ s) (ltb-true _ _ t)
obey_changes w (close k) =
    let P = Changed w (close k) in
    given-one P w w.area _ _ still λ a ea.
    given-one P w (find k w.pipes) _ (close_of w) still λ p ep.
    asked P w (close_questions p) (close_done w p) (still, tt) λ q.
    closes a k p ea ep

-- what is refused did nothing
refused_changes : (w : World) (c : Command) (n : ℕ) → Change w (effect c (refused n)) w
refused_changes w (read z d s) n = still
refused_changes w (write z d s b) n = still
refused_changes w (lock m) n = still
refused_changes w (unlock m) n = still
refused_changes w initialize_semaphores n = still
refused_changes w (status k) n = still
refused_changes w (initialize_area f l) n = still
refused_changes w (open_write m) n = still
refused_changes w (open_read m) n = still
refused_changes w (pipe_read k l) n = still
refused_changes w (pipe_write k l b) n = still
refused_changes w (close k) n = still

said_changes : (w : World) (d : Result Command PacketFault) → Change w (effect_said d (obey_said w d).0) (obey_said w d).1
said_changes w (Ok c) = obey_changes w c
said_changes w (Err fault) = still

said_refused : (w : World) (d : Result Command PacketFault) (n : ℕ) → Change w (effect_said d (refused n)) w
said_refused w (Ok c) n = refused_changes w c n
said_refused w (Err fault) n = still

abbrev pub Stepped : World → Request → Answer × World → Type 0
Stepped w r o = Change w (effect_of r o.0) o.1

pub changes : (w : World) (r : Request) → Stepped w r (step w r)
changes w (packet room bytes) = cond_both (leb 1025 room) _ _ (Stepped w (packet room bytes)) (λ e. said_changes w (decoded bytes)) (λ e. said_refused w (decoded bytes) 1)
changes w (call c) = cond_both (in_range c) _ _ (Stepped w (call c)) (λ e. obey_changes w c) (λ e. refused_changes w c 6)
