use Rattle.std.proofs.Common.{rules}
use Rattle.std.proofs.lemmas.Slice.{overwrites}
use Rattle.image.specs.Heads.{own_fits}
use Rattle.image.proofs.Stores.{header-stored, meaning-stored}
use Rattle.image.proofs.checked.CheckedImage+Vec+u8.write.Goals as goal

pub slice_bounds-copy_from_slice-end : goal.slice_bounds-copy_from_slice-end
slice_bounds-copy_from_slice-end c = search (rules, own_fits _ _ c.args.self.now.own)

pub invariant_of-self : goal.invariant_of-self
invariant_of-self c = record { own = header-stored _ _ c.args.block.now _ c.args.n c.args.self.now.own c.if-n-count.false c.told-block (search (rules, overwrites)) }

pub returns-clause-after : goal.returns-clause-after
returns-clause-after c = meaning-stored _ _ c.args.block.now _ c.args.n c.args.self.now.own c.if-n-count.false c.told-block (search (rules, overwrites))
