use Rattle.std.proofs.Common.{◌≡◌, ℕ, List, ◌++◌, length, take, sym, ap, ◌∙◌, rules}
use Rattle.std.proofs.lemmas.Bool.{cond-true}
use Rattle.std.proofs.lemmas.List.{take_at}
use Rattle.volume.specs.Parts.{part}
use Rattle.packet.specs.Commands.{first_byte, size_bytes}
use Rattle.model.specs.Answers.{sector}
use Rattle.model.proofs.Whole.{does}
use Rattle.controller.specs.Worlds.{world_of}
use Rattle.controller.proofs.controller.Controller.read.Goals as goal

pub returns-then-not-is_in_range-clause-does : goal.returns-then-not-is_in_range-clause-does
returns-then-not-is_in_range-clause-does g c = does _ _ _ _ (search rules)

pub returns-in_err-obey_read-clause-does : goal.returns-in_err-obey_read-clause-does
returns-in_err-obey_read-clause-does g c = does _ _ _ _ (search rules)

pub returns-clause-does : goal.returns-clause-does
returns-clause-does g c =
    let w = world_of g.V.Volume.meaning c.args.self.now in
    let n = size_bytes c.args.at.size in
    let put = c.copy_from_slice.new.self in
    let is : put ≡ part c.obey_read.new.block (first_byte c.args.at.size c.args.at.sector) n = search rules in
    let long : length put ≡ n = search rules in
    let front : take n (put ++ _) ≡ put = take_at put _ n long in
    does _ _ _ _ (cond-true _ _ _ (sym c.is_in_range.ensures ∙ c.if-not-is_in_range.false) ∙ c.in_ok-obey_read.ensures ∙ ap (λ (b : List ℕ). (sector b, w)) (sym (front ∙ is)))
