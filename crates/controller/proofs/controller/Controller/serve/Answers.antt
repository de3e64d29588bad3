use Rattle.std.proofs.Common.{◌≡◌, length, drop, Err, arith, length-append, length-drop, rules}
use Rattle.controller.specs.declared.serve.ServeRefusal.TheVariants.{ReplyBuffer}
use Rattle.controller.specs.Serves.{Served}
use Rattle.controller.specs.Worlds.{world_of}
use Rattle.controller.proofs.Served.{served_does, served_longer}
use Rattle.controller.proofs.controller.Controller.serve.Goals as goal

pub returns-in-Some : goal.returns-in-Some
returns-in-Some g c =
    let v = world_of g.V.Volume.meaning c.args.self.now in
    let first = c.in-Some.ensures.cases in
    let after = c.serve_said.new.reply in
    let long : length after ≡ 1025 = omega (arith, length-append after (drop 1025 c.args.reply.now), length-drop 1025 c.args.reply.now) in
    let s = served_longer v c.args.packet.now c.args.reply.now after c.serve_said.result _ first.enough long (rw (first.same) at c.serve_said.ensures) in
    record { served = s; does = served_does v c.args.packet.now c.args.reply.now _ _ _ s }

pub returns-in-None : goal.returns-in-None
returns-in-None g c =
    let v = world_of g.V.Volume.meaning c.args.self.now in
    let s : Served v c.args.packet.now c.args.reply.now c.args.reply.now (Err ReplyBuffer) v = search rules in
    record { served = s; does = served_does v c.args.packet.now c.args.reply.now _ _ _ s }
