-- The answer to a Status: the tables that its selector asks for.
use Rattle.std.proofs.Common.{◌≡◌, ℕ, ◌≤◌, Bool, true, false, cond, ◌&&◌, eqb, leb, List, ◌++◌, length, take, drop, Some, None, Option, sym, refl, ap, ◌∙◌, subst, arith, rules}
use Rattle.std.proofs.lemmas.Bool.{cond-true}
use Rattle.std.proofs.lemmas.List.{places, same_lists, take-append-drop}
use Rattle.std.proofs.lemmas.Bool.Decides.{nat_tests}
use Rattle.model.specs.declared.pipe.Area.{Area}
use Rattle.model.specs.declared.pipe.Pipe.{Pipe}
use Rattle.build.specs.Builds.{front}
use Rattle.model.specs.Tables.{tables_asked}
use Rattle.status.specs.Written.{after_table}
use Rattle.status.specs.Asked.{asked_length, selected_number, asked_answer, asked_number, after_asked}
use Rattle.status.proofs.Lengths.{length-tables_asked}

within : (b rest : Bool) (n m : ℕ) → rest ≡ true → n ≡ m → cond b (Some n) None ≡ cond (b && rest) (Some m) None
within true rest n m e h = ap (λ k. Some k) h ∙ sym (cond-true _ _ _ e)
within false rest n m e h = refl

-- of tables of the controller's sizes, in a buffer with room
pub answer_told : (names : List ℕ) (a : Option Area) (ps : List Pipe) (selector : ℕ) (b : List ℕ) → 1024 ≤ length b → length names ≡ 32 → length ps ≤ 62 → selected_number selector ≡ asked_answer names a ps selector b
answer_told names a ps selector b room all few =
    within (leb selector 3) _ (asked_length selector) (length (tables_asked names a ps selector))
    (grind (arith, nat_tests)) (sym (length-tables_asked names a ps selector all few))

pub number_told : (names : List ℕ) (a : Option Area) (ps : List Pipe) (selector : ℕ) (b : List ℕ) → 1024 ≤ length b → length names ≡ 32 → length ps ≤ 62 → selected_number selector ≡ asked_number names a ps selector b
number_told names a ps selector b room all few = within (leb selector 3) _ (asked_length selector) (asked_length selector) (grind (arith, nat_tests)) refl

asked_most : (p q r : Bool) → cond p 1024 (cond q 512 (cond r 512 256)) ≤ 1024
asked_most true q r = omega arith
asked_most false true r = omega arith
asked_most false false true = omega arith
asked_most false false false = omega arith

-- over the front of the first n bytes
front_within : (t b : List ℕ) (n : ℕ) → length t ≤ n → n ≤ length b → front t (take n b) ++ drop n b ≡ front t b
front_within t b n fits long = same_lists _ _ (search (rules, places)) (λ k d h. grind (arith, places))

after_within : (done rest : Bool) (t b : List ℕ) → rest ≡ true → length t ≤ 1024 → 1024 ≤ length b → after_table done t (take 1024 b) ++ drop 1024 b ≡ after_table (done && rest) t b
after_within true rest t b e fits long = front_within t b 1024 fits long ∙ sym (cond-true _ _ _ e)
after_within false rest t b e fits long = take-append-drop 1024 b

-- what was put in the first 1,024 bytes
pub after_told :
    (names : List ℕ) (a : Option Area) (ps : List Pipe) (selector : ℕ) (b first after : List ℕ) → 1024 ≤ length b → length names ≡ 32 → length ps ≤ 62 → first ≡ take 1024 b →
    after ≡ after_table (leb selector 3) (tables_asked names a ps selector) first → after ++ drop 1024 b ≡ after_asked names a ps selector b
after_told names a ps selector b first after room all few is put =
    let t = tables_asked names a ps selector in
    let fits : length t ≤ 1024 = subst (λ n. n ≤ 1024) (sym (length-tables_asked names a ps selector all few)) (asked_most (eqb selector 0) (eqb selector 1) (eqb selector 2)) in
    ap (λ x. x ++ drop 1024 b) (put ∙ ap (after_table (leb selector 3) t) is) ∙ after_within (leb selector 3) _ t b (grind (arith, nat_tests)) fits room
