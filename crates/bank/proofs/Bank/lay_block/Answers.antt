use Rattle.std.proofs.Common.{vec_items, ◌∙◌, ap}
use Rattle.bank.specs.Sectors.{overwritten}
use Rattle.bank.proofs.Settled.{block_laid}
use Rattle.bank.proofs.Bank.lay_block.Goals as goal

pub returns-in-Some : goal.returns-in-Some
returns-in-Some c =
    let b = c.hold.new.self in
    rw (c.lay_half.ensures.sector, c.lay_half.ensures.bytes)
    (block_laid (vec_items b.bytes) b.held c.args.n b.inside c.in-Some.held c.args.block.now c.in-Some.is c.hold.ensures.held c.told-block
    ∙ ap (λ x. overwritten x c.args.n c.args.block.now) c.hold.ensures.all)
