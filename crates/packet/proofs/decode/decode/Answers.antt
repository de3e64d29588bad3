use Rattle.packet.proofs.Again.{bytes_said}
use Rattle.packet.proofs.decode.decode.Goals as goal

pub returns-clause-back : goal.returns-clause-back
returns-clause-back c = bytes_said c.args.packet.now c.type_inv.packet
