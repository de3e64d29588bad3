-- The law of pipes: what holds of the table, the area and the volume after every request.
use Rattle.std.proofs.Common.{◌≡◌, ℕ, ◌+◌, ◌-◌, ◌<◌, ◌≤◌, true, not, eqb, ltb, List, [], ◌∷◌, ◌++◌, Some, None, Option, sym, refl, ap, ◌∙◌, subst, inl, inr, ⊎_elim, append_assoc, arith}
use native.Mathlib.Nat.{sub_self}
use Rattle.std.specs.List.{AllByRecursion}
use Rattle.std.proofs.ByRecursion.{All-weaker}
use Rattle.std.proofs.lemmas.Bool.{eq-eqb, cond_both, lt-ltb, le-leb, cases_lt, both_ways}
use Rattle.volume.specs.Meanings.{Block, sound, Meaning, block_of}
use Rattle.model.specs.declared.pipe.Access.TheVariants.{Closed, Reading}
use Rattle.model.specs.declared.pipe.Pipe.{Pipe}
use Rattle.model.specs.declared.pipe.Area.{Area}
use Rattle.model.specs.Worlds.{World}
use Rattle.model.specs.Sectors.{area_end, within, stored, overwritten}
use Rattle.model.specs.Pipes.{lowest_unused, next_start, exchanged, inserted, new_pipe, spanning, accessed, closed}
use Rattle.model.specs.Gaps.{best_gap}
use Rattle.model.specs.Effects.{Effect, on_blocks, on_pipes, written, begun, handed_out, brought}
use Rattle.model.specs.Laws.{standing, Passes, reads}
use Rattle.model.proofs.Changes.{Change, still, renames, lays, covers, begins, reopens, hands_out, brings, closes}
use Rattle.model.proofs.Entries.{all_both, Rising, EachOnce, Lies, all_lie, rising-from, start_above, Found, found, found_number, all_found, absent, rising-exchanged, all_exchanged, once_same, once_less, all_inserted, once_inserted, lowest_absent, rising-inserted, Outside, end_outside, closed_found}
use Rattle.model.proofs.Standing.{Apart, stored_here, standing_kept, standing_first, standing_last}

-- P is what holds of each pipe
pub record Orderly (P : Pipe → Type 0) (count : ℕ) (a : Area) (ps : List Pipe) : Type 0 where
  pub rising : Rising a.first ps (area_end a)
  pub once : EachOnce ps
  pub passes : AllByRecursion P ps
  pub inside : area_end a ≤ count

abbrev pub OrderlyIn : (Pipe → Type 0) → ℕ → Option Area → List Pipe → Type 0
OrderlyIn P count None ps = ps ≡ []
OrderlyIn P count (Some a) ps = Orderly P count a ps

pub record Piped (es : List Effect) (w : World) : Type 0 where
  pub apart : Apart w.volume
  pub orderly : OrderlyIn (Passes es (block_of w.volume)) w.volume.count w.area w.pipes

-- the area that there is
pub enter : {P : Pipe → Type 0} {count : ℕ} {ps : List Pipe} (o : Option Area) {a : Area} → o ≡ Some a → OrderlyIn P count o ps → Orderly P count a ps
enter {P} {count} {ps} o e h = subst (λ o. OrderlyIn P count o ps) e h

leave : {P : Pipe → Type 0} {count : ℕ} {ps : List Pipe} (o : Option Area) {a : Area} → o ≡ Some a → Orderly P count a ps → OrderlyIn P count o ps
leave {P} {count} {ps} o e h = subst (λ o. OrderlyIn P count o ps) (sym e) h

-- a block outside the area is outside every pipe
outside_area : (n : ℕ) (a : Area) (p : Pipe) → not (within n (Some a)) ≡ true → Lies a.first (area_end a) p → Outside n p
outside_area n a p e l =
    ⊎_elim (λ h. inr h)
    (λ h. ⊎_elim
    (λ i. absurd (let x = le-leb a.first n (omega arith) in let y = lt-ltb n (area_end a) (omega arith) in both_ways _ (rw (x, y)) e))
    (λ i. inl i) (cases_lt n p.end))
    (cases_lt n p.start)

laid_orderly : (es : List Effect) (m : Meaning) → Apart m → (n first : ℕ) (new bytes : List ℕ) → n < m.count → (o : Option Area) → not (within n o) ≡ true → (ps : List Pipe) → OrderlyIn (Passes es (block_of m)) m.count o ps → OrderlyIn (Passes (on_blocks (written n first new) ∷ es) (block_of (stored m n bytes))) m.count o ps
laid_orderly es m apart n first new bytes lt None e ps s = s
laid_orderly es m apart n first new bytes lt (Some a) e ps s = record {
  rising = s.rising;
  once = s.once;
  passes = All-weaker (λ x. Lies a.first (area_end a) x × Passes es (block_of m) x) _
      (λ x h. rw (standing_kept m apart n bytes x a.first (area_end a) lt s.inside h.0 (outside_area n a x e h.0)) h.1) ps (all_both _ _ ps (all_lie _ ps _ s.rising) s.passes);
  inside = s.inside;
}

module _ (es : List Effect) (m : Meaning) (apart : Apart m) (a : Area) (ps : List Pipe) (s : Orderly (Passes es (block_of m)) m.count a ps) where
  abbrev f : ℕ → Block
  f = block_of m

  begun_orderly : (n k : ℕ) → lowest_unused ps ≡ Some k → 0 < (best_gap a ps).gives → Orderly (Passes (on_pipes (begun k) ∷ es) f) m.count a (inserted (best_gap a ps).below (new_pipe k n (best_gap a ps).from) ps)
  begun_orderly n k e l =
      let none = lowest_absent k ps e in
      let p = new_pipe k n (best_gap a ps).from in
      let P = Passes (on_pipes (begun k) ∷ es) f in
      record {
        rising = rising-inserted k n a ps s.rising l;
        once = once_inserted p (best_gap a ps).below ps none s.once;
        passes = all_inserted p P (rw (eq-eqb k k refl, sub_self p.start)) (best_gap a ps).below ps
            (absent (Passes es f) P k (λ x d h. rw d h) ps none s.passes);
        inside = s.inside;
      }

  -- of a pipe that is in the table
  module _ (p : Pipe) (fd : Found p ps) where
    abbrev lie : Lies a.first (area_end a) p
    lie = all_found (Lies a.first (area_end a)) fd (all_lie _ ps _ s.rising)

    abbrev was : Passes es f p
    was = all_found (Passes es f) fd s.passes

    -- in its place one with the same number and blocks
    alike_orderly : (q : Pipe) → q.number ≡ p.number → q.start ≡ p.start → q.end ≡ p.end → Passes es f q → Orderly (Passes es f) m.count a (exchanged p.number (q ∷ []) ps)
    alike_orderly q n b e h =
        record {
          rising = rising-exchanged p (q ∷ []) (area_end a) _ (λ low rest x r t. rw (b, e) (x, lie.forth, r)) a.first fd s.rising refl;
          once = once_same p q n fd s.once;
          passes = all_exchanged p (q ∷ []) (Passes es f) (Passes es f) (λ x d h. h) (h, tt) fd s.once s.passes;
          inside = s.inside;
        }

    reopened_orderly : Orderly (Passes es f) m.count a (exchanged p.number (accessed p Reading ∷ []) ps)
    reopened_orderly = alike_orderly (accessed p Reading) refl refl refl was

    handed_orderly : (bytes : List ℕ) → p.start < p.end → f p.start ≡ sound bytes → Orderly (Passes (on_pipes (handed_out p.number bytes) ∷ es) f) m.count a (exchanged p.number (spanning p (p.start + 1) p.end ∷ []) ps)
    handed_orderly bytes lt eb =
        let q = spanning p (p.start + 1) p.end in
        let k = p.number in
        let same : eqb k k ≡ true = eq-eqb k k refl in
        let P = Passes (on_pipes (handed_out k bytes) ∷ es) f in
        record {
          rising = rising-exchanged p (q ∷ []) (area_end a) _ (λ low rest x r t. (omega arith, omega arith, r)) a.first fd s.rising refl;
          once = once_same p q refl fd s.once;
          passes = all_exchanged p (q ∷ []) (Passes es f) P (λ x d h. rw d h)
              (rw same (append_assoc (reads k es) (sound bytes ∷ []) _ ∙ ap (λ bs. reads k es ++ bs) (sym (standing_first f (sound bytes) p.start p.end lt eb)) ∙ was), tt)
              fd s.once s.passes;
          inside = s.inside;
        }

    brought_orderly : (bytes : List ℕ) → p.end < next_start p.number ps (area_end a) → p.end < m.count → Orderly (Passes (on_pipes (brought p.number bytes) ∷ es) (block_of (stored m p.end bytes))) m.count a (exchanged p.number (spanning p p.start (p.end + 1) ∷ []) ps)
    brought_orderly bytes lim lc =
        let g = block_of (stored m p.end bytes) in
        let q = spanning p p.start (p.end + 1) in
        let k = p.number in
        let same : eqb k k ≡ true = eq-eqb k k refl in
        let kept : (x : Pipe) → Lies a.first (area_end a) x → Outside p.end x → standing g x.start (x.end - x.start) ≡ standing f x.start (x.end - x.start) = λ x l y. standing_kept m apart p.end bytes x a.first (area_end a) lc s.inside l y in
        let out = end_outside p a.first (area_end a) fd s.rising lim in
        let Before : Pipe → Type 0 = λ x. Lies a.first (area_end a) x × (Outside p.end x × Passes es f x) in
        let all = all_both _ _ ps (all_lie _ ps _ s.rising) (all_both _ _ ps out s.passes) in
        let before = all_found Before fd all in
        record {
          rising = rising-exchanged p (q ∷ []) (area_end a) _ (λ low rest x r t. (x, omega (arith, lie.forth), rising-from p.end (p.end + 1) rest (area_end a) r (omega arith))) a.first fd s.rising refl;
          once = once_same p q refl fd s.once;
          passes = all_exchanged p (q ∷ []) Before (Passes (on_pipes (brought k bytes) ∷ es) g) (λ x d h. rw d (rw (kept x h.0 h.1.0) h.1.1)) (
            rw same
                (ap (λ bs. reads k es ++ bs)
                (standing_last g p.start p.end before.0.forth ∙ rw (kept p before.0 before.1.0, stored_here m p.end bytes)) ∙
                sym (append_assoc (reads k es) _ (sound bytes ∷ [])) ∙ ap (λ bs. bs ++ (sound bytes ∷ [])) was),
            tt,
          )
              fd s.once all;
          inside = s.inside;
        }

    closed_orderly : Orderly (Passes es f) m.count a (exchanged p.number (closed p) ps)
    closed_orderly =
        cond_both (ltb p.start p.end) (accessed p Closed ∷ []) [] (λ qs. Orderly (Passes es f) m.count a (exchanged p.number qs ps))
        (λ _. alike_orderly (accessed p Closed) refl refl refl was)
        (λ _. record {
          rising = rising-exchanged p [] (area_end a) _ (λ low rest x r t. rising-from p.end low rest (area_end a) r (let y = start_above p.end rest (area_end a) r in omega (arith, lie.forth))) a.first fd s.rising refl;
          once = once_less p fd s.once;
          passes = all_exchanged p [] (Passes es f) (Passes es f) (λ x d h. h) tt fd s.once s.passes;
          inside = s.inside;
        })

pub keep_piped : (es : List Effect) (e : Effect) (w v : World) → Change w e v → Piped es w → Piped (e ∷ es) v
keep_piped es _ w _ still i = record { apart = i.apart; orderly = i.orderly }
keep_piped es _ w _ (renames s) i = record { apart = i.apart; orderly = i.orderly }
keep_piped es _ w _ (lays n first new p q) i = record {
  apart = i.apart;
  orderly = laid_orderly es w.volume i.apart n first new (overwritten first new (block_of w.volume n)) p w.area q w.pipes i.orderly;
}
keep_piped es _ w _ (covers f l p) i = record { apart = i.apart; orderly = record { rising = omega arith; once = tt; passes = tt; inside = p } }
keep_piped es _ w _ (begins a n k ea q r) i = record {
  apart = i.apart;
  orderly = leave w.area ea (begun_orderly es w.volume i.apart a w.pipes (enter w.area ea i.orderly) n k q r);
}
keep_piped es _ w _ (reopens a n p ea q) i =
    let s = enter w.area ea i.orderly in
    record { apart = i.apart; orderly = leave w.area ea (reopened_orderly es w.volume i.apart a w.pipes s p (closed_found n p w.pipes s.once q)) }
keep_piped es _ w _ (hands_out a k p bytes ea q r b) i =
    let s = enter w.area ea i.orderly in
    let v : OrderlyIn _ _ w.area _ = leave w.area ea (handed_orderly es w.volume i.apart a w.pipes s p (found k p w.pipes q) bytes r b) in
    record { apart = i.apart; orderly = subst (λ x. OrderlyIn (Passes (on_pipes (handed_out x bytes) ∷ es) (block_of w.volume)) w.volume.count w.area (exchanged p.number (spanning p (p.start + 1) p.end ∷ []) w.pipes)) (sym (found_number k p w.pipes q)) v }
keep_piped es _ w _ (brings a k p bytes ea q r b) i =
    let s = enter w.area ea i.orderly in
    let v : OrderlyIn _ _ w.area _ = leave w.area ea (brought_orderly es w.volume i.apart a w.pipes s p (found k p w.pipes q) bytes r b) in
    record { apart = i.apart; orderly = subst (λ x. OrderlyIn (Passes (on_pipes (brought x bytes) ∷ es) (block_of (stored w.volume p.end bytes))) w.volume.count w.area (exchanged p.number (spanning p p.start (p.end + 1) ∷ []) w.pipes)) (sym (found_number k p w.pipes q)) v }
keep_piped es _ w _ (closes a k p ea q) i = record {
  apart = i.apart;
  orderly = leave w.area ea (closed_orderly es w.volume i.apart a w.pipes (enter w.area ea i.orderly) p (found k p w.pipes q));
}
