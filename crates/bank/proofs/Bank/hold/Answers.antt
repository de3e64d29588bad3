use Rattle.std.proofs.Common.{◌≡◌, ◌*◌, ◌≤◌, length, drop, Some, vec_items, refl, sym, ap, ◌∙◌, subst, arith}
use Rattle.std.proofs.lemmas.List.{take_at}
use Rattle.volume.specs.Parts.{with_part}
use Rattle.bank.specs.Sectors.{held_end, settled}
use Rattle.bank.proofs.Settled.{length-settled, own_sector}
use Rattle.bank.proofs.Bank.hold.Goals as goal

pub returns-in-None-clause-all : goal.returns-in-None-clause-all
returns-in-None-clause-all c =
    let bs = vec_items c.args.self.now.bytes in
    own_sector bs c.copy_of.result (rw (c.copy_of.ensures.bytes, c.as_slice.ensures.value, c.copy_of.ensures.sector) refl) (omega (arith, c.requires, c.copy_of.ensures.sector))
    ∙ sym (ap (settled bs) c.in-None.is)

pub returns-in-Some-clause-all : goal.returns-in-Some-clause-all
returns-in-Some-clause-all c =
    let bs = vec_items c.args.self.now.bytes in
    let old = c.in-Some.held in
    let held = c.exchange.new.self in
    let put : c.exchange.new.bytes ≡ settled bs (Some old) = c.exchange.ensures.put ∙ ap (λ l. with_part l (1024 * old.sector) old.bytes) c.as_mut_slice.ensures.value in
    let inside : held_end (Some old) ≤ length bs = subst (λ h. held_end h ≤ length bs) c.in-Some.is c.args.self.now.inside in
    let long : length c.exchange.new.bytes ≡ length bs = ap length put ∙ length-settled bs (Some old) inside in
    ap (λ l. with_part l (1024 * held.sector) held.bytes) (take_at c.exchange.new.bytes (drop (length c.exchange.new.bytes) bs) _ (long ∙ sym (ap length c.as_mut_slice.ensures.value) ∙ c.as_mut_slice.ensures.len))
    ∙ own_sector c.exchange.new.bytes held (rw (c.exchange.ensures.bytes, c.exchange.ensures.sector) refl) (omega (arith, c.requires, c.exchange.ensures.sector, long))
    ∙ put ∙ sym (ap (settled bs) c.in-Some.is)
