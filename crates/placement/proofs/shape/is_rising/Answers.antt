use Rattle.std.proofs.Common.{leb, ltb, ◌&&◌, ◌∙◌, rules, tests, arith}
use Rattle.std.proofs.lemmas.Bool.{MatchBool-at_true, MatchBool-at_false}
use Rattle.std.proofs.lemmas.Iterator.{YieldsList-from_slice}
use Rattle.std.proofs.lemmas.Iterator.Search.{all_from_yields_List}
use Rattle.std.proofs.lemmas.List.Sorted.{answers_always}
use Rattle.placement.proofs.Lists.{rising_long, rising_unsorted, rising_sorted}
use Rattle.placement.proofs.shape.is_rising.Goals as goal

pub returns-then-list-saturating_sub : goal.returns-then-list-saturating_sub
returns-then-list-saturating_sub c = rising_long c.args.list.now c.args.lo c.args.hi (omega (arith, c.saturating_sub.ensures, c.if-list-saturating_sub.true))

pub returns-then-is_sorted_by : goal.returns-then-is_sorted_by
returns-then-is_sorted_by c =
    let xs = c.args.list.now in
    all_from_yields_List (λ x. leb c.args.lo x && ltb x c.args.hi) _ _ _ c.all.ensures.ran (YieldsList-from_slice xs cc) (λ x b q k. search (rules, tests))
    ∙ rising_sorted xs c.args.lo c.args.hi (MatchBool-at_true _ _ c.if-is_sorted_by.true (c.is_sorted_by.ensures.cases ltb (answers_always _ _ _ (λ f a r g called. search (rules, tests)))))

pub returns-else-is_sorted_by : goal.returns-else-is_sorted_by
returns-else-is_sorted_by c =
    c.if-is_sorted_by.false
    ∙ rising_unsorted c.args.list.now c.args.lo c.args.hi (MatchBool-at_false _ _ c.if-is_sorted_by.false (c.is_sorted_by.ensures.cases ltb (answers_always _ _ _ (λ f a r g called. search (rules, tests)))))
