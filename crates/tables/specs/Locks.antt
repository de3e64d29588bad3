-- What a lock and an unlock answer, and the names that they leave.
use Rattle.std.specs.Prelude.{ℕ, cond, List, Ok, Err, Result, ◌==◌}
use Rattle.model.specs.Semaphores.{blank, has, replaced}
use Rattle.tables.specs.declared.answers.LockRefusal.{LockRefusal}
use Rattle.tables.specs.declared.answers.LockRefusal.TheVariants as lock
use Rattle.tables.specs.declared.answers.UnlockRefusal.{UnlockRefusal}
use Rattle.tables.specs.declared.answers.UnlockRefusal.TheVariants as unlock

abbrev pub lock_byte : Result (Unit {0}) LockRefusal → ℕ
lock_byte (Ok u) = 0x00
lock_byte (Err lock.Present) = 0x80
lock_byte (Err lock.Full) = 0xFD
lock_byte (Err lock.Blank) = 0x8F

abbrev pub unlock_byte : Result (Unit {0}) UnlockRefusal → ℕ
unlock_byte (Ok u) = 0x80
unlock_byte (Err unlock.Absent) = 0x00
unlock_byte (Err unlock.Blank) = 0x8F

-- is the name blanks? is it in the table? is there an unused entry?
abbrev pub lock_outcome : List ℕ → ℕ → Result (Unit {0}) LockRefusal × List ℕ
lock_outcome names n =
    cond (n == blank) (Err lock.Blank, names) (
    cond (has n names) (Err lock.Present, names) (
    cond (has blank names) (Ok tt, replaced blank n names)
    (Err lock.Full, names)))

-- is the name blanks? is it in the table?
abbrev pub unlock_outcome : List ℕ → ℕ → Result (Unit {0}) UnlockRefusal × List ℕ
unlock_outcome names n =
    cond (n == blank) (Err unlock.Blank, names) (
    cond (has n names) (Ok tt, replaced n blank names)
    (Err unlock.Absent, names))
