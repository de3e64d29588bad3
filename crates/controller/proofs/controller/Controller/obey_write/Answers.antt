use Rattle.std.proofs.Common.{ℕ, sym, ap, ◌∙◌, arith}
use Rattle.volume.specs.Meanings.{written}
use Rattle.model.specs.Sectors.{within}
use Rattle.controller.specs.Worlds.{world_of}
use Rattle.controller.proofs.Writes.{wrote_whole}
use Rattle.controller.proofs.controller.Controller.obey_write.Goals as goal

pub returns-in_ok-write-in-Some : goal.returns-in_ok-write-in-Some
returns-in_ok-write-in-Some g c =
    let m = g.V.Volume.meaning in
    let at = c.block-n.ensures in
    let first = c.in-Some.ensures.cases in
    wrote_whole (world_of m c.args.self.now) c.args.at.size c.args.at.drive c.args.at.sector c.args.bytes.now c.in-Some.whole.now (m c.write.new.self)
    c.if-at-ne1.false (omega arith) (sym c.writable.ensures ∙ c.if-not-writable.false)
    (sym (c.covers.ensures ∙ ap (λ (n : ℕ). within n c.args.self.now.tables.area) at) ∙ c.if-covers.false)
    (omega arith) c.requires (g.met.V.Volume.sound c.args.self.now.volume) first.same
    (c.write.ensures.after ∙ ap (λ (n : ℕ). written (m c.args.self.now.volume) n c.in-Some.whole.now) at)
