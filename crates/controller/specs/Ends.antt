-- What an open by call gives.
use Rattle.std.specs.Prelude.{◌≡◌, Ok, Err, Result}
use Rattle.model.specs.Answers.{Answer, opened}
use Rattle.controller.specs.declared.answers.PipeRefusal.{PipeRefusal}
use Rattle.controller.specs.declared.pipes.OpenedPipe.{OpenedPipe}
use Rattle.controller.specs.declared.ends.End.{End}
use Rattle.controller.specs.declared.ends.Opened.{Opened}
use Rattle.controller.specs.Answers.{pipe_answer}

-- an end keeps the number of its pipe
abbrev pub Opens : {M : Type 0} → OpenedPipe → Opened (End M) → Type 0
Opens p o = (o.end.number ≡ p.number) × (o.state ≡ p.state)

abbrev pub opened_end : {M : Type 0} → Result (Opened (End M)) PipeRefusal → Answer
opened_end (Ok o) = opened o.end.number o.state
opened_end (Err r) = pipe_answer (Err r)
