use Rattle.std.proofs.Common.{◌≡◌, true}
use Rattle.packet.specs.Packets.{in_range}
use Rattle.packet.specs.Views.{command_of}
use Rattle.build.proofs.Round.{reads_back}
use Rattle.build.proofs.build.Goals as goal

pub returns-clause-back : goal.returns-clause-back
returns-clause-back c =
    let good : in_range (command_of c.args.command.now) ≡ true = cc in
    let e = c.lay.ensures in
    reads_back _ _ _ _ e.typed good e.answer e.after
