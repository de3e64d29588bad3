use Rattle.std.proofs.Common.{ap, ◌∙◌}
use Rattle.build.specs.Builds.{front}
use Rattle.status.proofs.Names.{names_told}
use Rattle.status.proofs.Parts.{part-front}
use Rattle.status.proofs.entries.Entries.write_names.Goals as goal

pub returns : goal.returns
returns c =
    let out = c.args.out.now in
    c.put_rows.ensures ∙ part-front out _ ∙ ap (λ x. front x out) (names_told _ _ _ c.names.ensures).1
