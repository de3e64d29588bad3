-- What a Lock by call gives.
use Rattle.std.specs.Prelude.{◌≡◌, ℕ, Ok, Err, Result, IfOk}
use Rattle.tables.specs.declared.answers.LockRefusal.{LockRefusal}
use Rattle.model.specs.Answers.{Answer}
use Rattle.controller.specs.declared.holds.Hold.{Hold}
use Rattle.controller.specs.Answers.{lock_answer}

abbrev pub locked_answer : Result Hold LockRefusal → Answer
locked_answer (Ok h) = lock_answer (Ok tt)
locked_answer (Err r) = lock_answer (Err r)

-- a hold is of the name
abbrev pub HoldsName : ℕ → Result Hold LockRefusal → Type 0
HoldsName n r = IfOk r (λ h. h.name ≡ n)
