use Rattle.std.proofs.Common.{◌≡◌, ℕ, ◌+◌, ◌-◌, ◌<◌, List, Some, length, drop, refl, ap, ◌∙◌, arith, rules, length-append}
use Rattle.std.proofs.lemmas.Bool.{cond-true, le-leb}
use Rattle.model.specs.Tables.{tables_asked}
use Rattle.controller.specs.Worlds.{world_of}
use Rattle.controller.proofs.Told.{behind_first}
use Rattle.controller.proofs.controller.Controller.perform_status.Goals as goal

pub overflow_add-result : goal.overflow_add-result
overflow_add-result g c =
    let w = world_of g.V.Volume.meaning c.args.self.now in
    let t = tables_asked w.semaphores w.area w.pipes c.args.selector in
    let known = le-leb c.args.selector 3 c.requires in
    let told : c.put.result ≡ Some (length t) = c.put.ensures.count ∙ cond-true _ _ _ known in
    let many : c.unwrap-count.result ≡ length t = cc in
    let long : length c.put.new.out ≡ 1024 = search rules in
    let all = ap (λ (xs : List ℕ). length xs) (c.put.ensures.after ∙ cond-true _ _ _ known) in
    let fits : c.unwrap-count.result + 1 < 18446744073709551616 = omega (arith, length-append t (drop (length t) c.unwrap-behind.result.now), all) in
    search rules

pub returns : goal.returns
returns g c =
    let w = world_of g.V.Volume.meaning c.args.self.now in
    let b = c.args.reply.now in
    let t = tables_asked w.semaphores w.area w.pipes c.args.selector in
    let known = le-leb c.args.selector 3 c.requires in
    let told : c.put.result ≡ Some (length t) = c.put.ensures.count ∙ cond-true _ _ _ known in
    let many : c.unwrap-count.result ≡ length t = cc in
    let last : c.unwrap-behind.result.now ≡ drop (length b - 1024) b = search rules in
    record {
      counted = omega arith;
      reply = behind_first 1024 b t _ c.put.new.out c.told-reply last (c.put.ensures.after ∙ cond-true _ _ _ known);
      leads = refl;
    }
