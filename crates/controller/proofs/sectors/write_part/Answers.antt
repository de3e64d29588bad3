use Rattle.std.proofs.Common.{◌≡◌, ◌+◌, ◌-◌, length, Ok, sym, ap, ◌∙◌, rules}
use borrow.Rule.Slice.PartMut.{put_mid}
use Rattle.std.proofs.lemmas.Slice.{overwrites}
use Rattle.volume.specs.Meanings.{Meaning, Block}
use Rattle.volume.specs.Parts.{with_part}
use Rattle.model.specs.Sectors.{stored}
use Rattle.controller.specs.Parts.{part_written}
use Rattle.controller.proofs.Writes.{written-stored, read_done}
use Rattle.controller.proofs.sectors.write_part.Goals as goal

pub returns : goal.returns
returns g c =
    let m = g.V.Volume.meaning c.args.volume.now in
    let n = c.args.n in
    let d = c.args.bytes.now in
    let f = c.args.first in
    let b = c.read.new.buffer in
    let is = read_done m n _ b _ c.in_ok-read.ensures.answer c.read.ensures.buffer in
    let new : put_mid f (f + length d - f) b c.copy_from_slice.new.self ≡ with_part b f d = search (rules, overwrites) in
    ap (λ (v : Meaning). (Ok tt, v)) (c.write.ensures.after ∙ written-stored m n _ c.requires.below c.requires.writable ∙ ap (stored m n) new) ∙
    sym (ap (λ (x : Block). part_written m n f d x) is)
