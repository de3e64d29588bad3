-- The tables that a Status asks for, in the buffer of a call and behind the first byte of a reply.
use Rattle.std.proofs.Common.{◌≡◌, ℕ, suc, ◌-◌, ◌≤◌, Bool, true, false, cond, ◌&&◌, eqb, leb, List, [], ◌∷◌, ◌++◌, length, take, drop, set, Some, None, Option, sym, refl, ap, ◌∙◌, arith}
use Rattle.std.proofs.Math.Bool.{and-true}
use Rattle.std.proofs.lemmas.List.{take_at}
use Rattle.std.proofs.lemmas.Bool.{and_from, le-leb, eq-eqb}
use Rattle.build.specs.Builds.{front}
use Rattle.model.specs.Answers.{Answer, tables, refused}
use Rattle.model.specs.Worlds.{World}
use Rattle.status.specs.Asked.{askable}
use Rattle.controller.specs.Calls.{status_answer}

-- of the controller's tables and a buffer with room, the selector alone is asked
pub askable-selector : (n p s r : ℕ) → n ≡ 32 → p ≤ 62 → 1024 ≤ r → askable n p s r ≡ leb s 3
askable-selector n p s r full few room =
    let rest : (leb 1024 r && (eqb n 32 && leb p 62)) ≡ true = and_from (leb 1024 r) _ (le-leb 1024 r room) (and_from (eqb n 32) (leb p 62) (eq-eqb n 32 full) (le-leb p 62 few)) in
    ap (λ (b : Bool). leb s 3 && b) rest ∙ and-true (leb s 3)

-- the tables that were put in a call's buffer are its answer
pub told : (w : World) (t : Bool) (asked before after : List ℕ) (r : Option ℕ) → r ≡ cond t (Some (length asked)) None → after ≡ cond t (front asked before) before → ◌≡◌ {A = Answer × World} (cond t (tables asked, w) (refused 6, w)) (status_answer r after, w)
told w true asked before after r is put =
    let same : take (length asked) after ≡ asked = ap (take (length asked)) put ∙ take_at asked (drop (length asked) before) (length asked) refl in
    rw is (ap (λ (b : List ℕ). (tables b, w)) (sym same))
told w false asked before after r is put = rw is refl

-- what was put behind the first byte, and then that byte
pub behind_first : (n : ℕ) (b t last out : List ℕ) → length b ≡ suc n → last ≡ drop (length b - n) b → out ≡ front t last → set (take (length b - n) b ++ out) 0 0 ≡ front (0 ∷ t) b
behind_first n [] t last out l is e = absurd (omega arith)
behind_first n (x ∷ bs) t last out l is e =
    let one : length (x ∷ bs) - n ≡ 1 = omega arith in
    ap (λ k. set (take k (x ∷ bs) ++ out) 0 0) one ∙ ap (λ r. 0 ∷ r) (e ∙ ap (front t) (is ∙ ap (λ k. drop k (x ∷ bs)) one))
