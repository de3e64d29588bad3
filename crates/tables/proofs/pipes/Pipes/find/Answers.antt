use Rattle.std.proofs.Common.{slice_index_or, None, Some, ap, ◌∙◌}
use Rattle.tables.specs.Entries.{pipes_of}
use Rattle.tables.proofs.Numbers.{no_pipe, picked_told}
use Rattle.tables.proofs.pipes.Pipes.find.Goals as goal

pub returns-in_err-i : goal.returns-in_err-i
returns-in_err-i c = c.from_residual.ensures ∙ picked_told c.args.number no_pipe (pipes_of c.args.self.now) None c.in_err-i.ensures.found

pub returns : goal.returns
returns c =
    let i = c.in_ok-i.i in
    ap (λ ps. Some (slice_index_or ps i no_pipe)) c.pipes.ensures.pipes ∙ picked_told c.args.number no_pipe (pipes_of c.args.self.now) (Some i) c.in_ok-i.ensures.found
