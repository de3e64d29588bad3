-- The pipes of the table stand in the area by rising start, apart, each number once: what keeps that.
use Rattle.std.proofs.Common.{◌≡◌, ℕ, zero, suc, ◌+◌, ◌-◌, ◌<◌, ◌≤◌, Bool, true, false, cond, not, ◌&&◌, eqb, ltb, ◌⊎◌, List, [], ◌∷◌, ◌++◌, length, Some, None, Option, sym, refl, ap, ◌∙◌, subst, inl, inr, arith}
use native.Mathlib.Nat.{sub_self, sub-zero}
use Rattle.std.specs.List.{AllByRecursion}
use Rattle.std.proofs.ByRecursion.{All-weaker, All-append}
use Rattle.std.proofs.lemmas.Bool.{eqb-true, eqb-false, ne_eqb, eq-eqb, cond_both}
use Rattle.model.specs.declared.pipe.Pipe.{Pipe}
use Rattle.model.specs.declared.pipe.Area.{Area}
use Rattle.model.specs.declared.pipe.Gap.{Gap}
use Rattle.model.specs.Sectors.{area_end}
use Rattle.model.specs.Pipes.{is_writing, is_open, numbered, find, there, unused, lowest_unused, named, lower, closed_named, first_start, next_start, exchanged, inserted, new_pipe}
use Rattle.model.specs.Gaps.{keeps, gaps, most, no_gap, best_gap}

pub all_both : {X : Type 0} (P Q : X → Type 0) (xs : List X) → AllByRecursion P xs → AllByRecursion Q xs → AllByRecursion (λ x. P x × Q x) xs
all_both P Q [] ps qs = tt
all_both P Q (x ∷ xs) ps qs = ((ps.0, qs.0), all_both P Q xs ps.1 qs.1)

-- each starts where the one before it ends, or later, and the last ends at the top or below
abbrev pub Rising : ℕ → List Pipe → ℕ → Type 0
Rising low [] top = low ≤ top
Rising low (p ∷ ps) top = (low ≤ p.start) × (p.start ≤ p.end) × Rising p.end ps top

abbrev pub EachOnce : List Pipe → Type 0
EachOnce [] = Unit {0}
EachOnce (p ∷ ps) = (find p.number ps ≡ None) × EachOnce ps

pub record Lies (low top : ℕ) (p : Pipe) : Type 0 where
  pub from : low ≤ p.start
  pub forth : p.start ≤ p.end
  pub to : p.end ≤ top

lies_down : {low low' top : ℕ} → low ≤ low' → (p : Pipe) → Lies low' top p → Lies low top p
lies_down h p l = record { from = omega arith; forth = l.forth; to = l.to }

rising_top : (low : ℕ) (ps : List Pipe) (top : ℕ) → Rising low ps top → low ≤ top
rising_top low [] top r = r
rising_top low (p ∷ ps) top r = let i = rising_top p.end ps top r.2 in omega arith

pub all_lie : (low : ℕ) (ps : List Pipe) (top : ℕ) → Rising low ps top → AllByRecursion (Lies low top) ps
all_lie low [] top r = tt
all_lie low (p ∷ ps) top r = (
  record { from = r.0; forth = r.1; to = rising_top p.end ps top r.2 },
  All-weaker (Lies p.end top) (Lies low top) (lies_down (omega arith)) ps (all_lie p.end ps top r.2),
)

-- from another low
pub rising-from : (low low' : ℕ) (ps : List Pipe) (top : ℕ) → Rising low ps top → low' ≤ first_start ps top → Rising low' ps top
rising-from low low' [] top r h = h
rising-from low low' (p ∷ ps) top r h = (h, r.1, r.2)

pub start_above : (low : ℕ) (ps : List Pipe) (top : ℕ) → Rising low ps top → low ≤ first_start ps top
start_above low [] top r = r
start_above low (p ∷ ps) top r = r.0

start_below : (low : ℕ) (ps : List Pipe) (top : ℕ) → Rising low ps top → first_start ps top ≤ top
start_below low [] top r = omega arith
start_below low (p ∷ ps) top r = let i = rising_top p.end ps top r.2 in omega arith

pub next_below : (k low : ℕ) (ps : List Pipe) (top : ℕ) → Rising low ps top → next_start k ps top ≤ top
next_below k low [] top r = omega arith
next_below k low (q ∷ ps) top r =
    let i = next_below k q.end ps top r.2 in
    let s = start_below q.end ps top r.2 in
    grind arith

-- Pipe p is the first of its number.
pub data Found (p : Pipe) : List Pipe → Type 0 where
  here : {ps : List Pipe} → Found p (p ∷ ps)
  past : {q : Pipe} {ps : List Pipe} → numbered p.number q ≡ false → Found p ps → Found p (q ∷ ps)

pub found_number : (k : ℕ) (p : Pipe) (ps : List Pipe) → find k ps ≡ Some p → k ≡ p.number
found_number k p [] e = cc
found_number k p (q ∷ ps) e = go (numbered k q) refl e (found_number k p ps)
  where
    go : (b : Bool) → numbered k q ≡ b → cond b (Some q) (find k ps) ≡ Some p → (find k ps ≡ Some p → k ≡ p.number) → k ≡ p.number
    go true t e i = let same : q ≡ p = cc in eqb-true _ _ t ∙ ap (λ (x : Pipe). x.number) same
    go false t e i = i e

found_own : (p : Pipe) (ps : List Pipe) → find p.number ps ≡ Some p → Found p ps
found_own p [] e = cc
found_own p (q ∷ ps) e = go (numbered p.number q) refl e (found_own p ps)
  where
    go : (b : Bool) → numbered p.number q ≡ b → cond b (Some q) (find p.number ps) ≡ Some p → (find p.number ps ≡ Some p → Found p ps) → Found p (q ∷ ps)
    go true t e i = let same : q ≡ p = cc in subst (λ x. Found p (x ∷ ps)) (sym same) here
    go false t e i = past t (i e)

pub found : (k : ℕ) (p : Pipe) (ps : List Pipe) → find k ps ≡ Some p → Found p ps
found k p ps e = found_own p ps (subst (λ i. find i ps ≡ Some p) (found_number k p ps e) e)

pub all_found : (P : Pipe → Type 0) {p : Pipe} {ps : List Pipe} → Found p ps → AllByRecursion P ps → P p
all_found P here h = h.0
all_found P (past e f) h = all_found P f h.1

own : (p : Pipe) → numbered p.number p ≡ true
own p = eq-eqb p.number p.number refl

-- No pipe has number k.
pub absent : (P Q : Pipe → Type 0) (k : ℕ) → ((x : Pipe) → numbered k x ≡ false → P x → Q x) → (ps : List Pipe) → find k ps ≡ None → AllByRecursion P ps → AllByRecursion Q ps
absent P Q k other [] e h = tt
absent P Q k other (q ∷ ps) e h = go (numbered k q) refl e (absent P Q k other ps)
  where
    go : (b : Bool) → numbered k q ≡ b → cond b (Some q) (find k ps) ≡ None → (find k ps ≡ None → AllByRecursion P ps → AllByRecursion Q ps) → AllByRecursion Q (q ∷ ps)
    go true t e i = cc
    go false t e i = (other q t h.0, i e h.1)

-- Pipe p gives way to those of qs.
module _ (p : Pipe) (qs : List Pipe) where
  pub rising-exchanged : (top t : ℕ) → ((low : ℕ) (rest : List Pipe) → low ≤ p.start → Rising p.end rest top → first_start rest top ≡ t → Rising low (qs ++ rest) top) → (low : ℕ) {ps : List Pipe} → Found p ps → Rising low ps top → next_start p.number ps top ≡ t → Rising low (exchanged p.number qs ps) top
  rising-exchanged top t fits low (here {ps = ps}) r l = let e = own p in rw e (fits low ps r.0 r.2 (rw e at l))
  rising-exchanged top t fits low (past {q = q} e f) r l = rw e (r.0, r.1, rising-exchanged top t fits q.end f r.2 (rw e at l))

  pub all_exchanged : (P Q : Pipe → Type 0) → ((x : Pipe) → numbered p.number x ≡ false → P x → Q x) → AllByRecursion Q qs → {ps : List Pipe} → Found p ps → EachOnce ps → AllByRecursion P ps → AllByRecursion Q (exchanged p.number qs ps)
  all_exchanged P Q other new (here {ps = ps}) s h =
      let e = own p in
      rw e (All-append Q qs ps new (absent P Q p.number other ps s.0 h.1))
  all_exchanged P Q other new (past {q = q} e f) s h = rw e (other q e h.0, all_exchanged P Q other new f s.1 h.1)

  -- none of qs has another number
  abbrev Only : Type 0
  Only = (x : ℕ) (rest : List Pipe) → eqb x p.number ≡ false → find x rest ≡ None → find x (qs ++ rest) ≡ None

  find-exchanged : Only → (x : ℕ) → eqb x p.number ≡ false → {ps : List Pipe} → Found p ps → find x ps ≡ None → find x (exchanged p.number qs ps) ≡ None
  find-exchanged new x d (here {ps = ps}) n = let e = own p in rw e (new x ps d (rw d at n))
  find-exchanged new x d (past {q = q} {ps = ps} e f) n = rw e (go (eqb x q.number) refl n (find-exchanged new x d f))
    where
      go : (b : Bool) → eqb x q.number ≡ b → cond b (Some q) (find x ps) ≡ None → (find x ps ≡ None → find x (exchanged p.number qs ps) ≡ None) → cond (eqb x q.number) (Some q) (find x (exchanged p.number qs ps)) ≡ None
      go true t e i = cc
      go false t e i = rw t (i e)

  once_exchanged : Only → ((rest : List Pipe) → find p.number rest ≡ None → EachOnce rest → EachOnce (qs ++ rest)) → {ps : List Pipe} → Found p ps → EachOnce ps → EachOnce (exchanged p.number qs ps)
  once_exchanged new one (here {ps = ps}) s = let e = own p in rw e (one ps s.0 s.1)
  once_exchanged new one (past {q = q} e f) s =
      let d : eqb q.number p.number ≡ false = ne_eqb _ _ (λ h. eqb-false _ _ e (sym h)) in
      rw e (find-exchanged new q.number d f s.0, once_exchanged new one f s.1)

-- one of the same number in its place
pub once_same : (p q : Pipe) → q.number ≡ p.number → {ps : List Pipe} → Found p ps → EachOnce ps → EachOnce (exchanged p.number (q ∷ []) ps)
once_same p q n fd s =
    once_exchanged p (q ∷ []) (λ x rest d h. let d' : numbered x q ≡ false = rw n d in rw d' h) (λ rest h r. (rw n h, r)) fd s

pub once_less : (p : Pipe) {ps : List Pipe} → Found p ps → EachOnce ps → EachOnce (exchanged p.number [] ps)
once_less p fd s = once_exchanged p [] (λ x rest d h. h) (λ rest h r. r) fd s

-- A new pipe, of a number that none has.
module _ (p : Pipe) where
  pub all_inserted : (P : Pipe → Type 0) → P p → (n : ℕ) (ps : List Pipe) → AllByRecursion P ps → AllByRecursion P (inserted n p ps)
  all_inserted P new zero ps h = (new, h)
  all_inserted P new (suc n) [] h = (new, tt)
  all_inserted P new (suc n) (q ∷ ps) h = (h.0, all_inserted P new n ps h.1)

  find-inserted : (x : ℕ) → eqb x p.number ≡ false → (n : ℕ) (ps : List Pipe) → find x (inserted n p ps) ≡ find x ps
  find-inserted x d zero ps = rw d
  find-inserted x d (suc n) [] = rw d
  find-inserted x d (suc n) (q ∷ ps) = ap (λ r. cond (numbered x q) (Some q) r) (find-inserted x d n ps)

  pub once_inserted : (n : ℕ) (ps : List Pipe) → find p.number ps ≡ None → EachOnce ps → EachOnce (inserted n p ps)
  once_inserted zero ps e s = (e, s)
  once_inserted (suc n) [] e s = (refl, tt)
  once_inserted (suc n) (q ∷ ps) e s = go (numbered p.number q) refl e (once_inserted n ps)
    where
      go : (b : Bool) → numbered p.number q ≡ b → cond b (Some q) (find p.number ps) ≡ None → (find p.number ps ≡ None → EachOnce ps → EachOnce (inserted n p ps)) → EachOnce (q ∷ inserted n p ps)
      go true t e i = cc
      go false t e i = (find-inserted q.number (ne_eqb _ _ (λ h. eqb-false _ _ t (sym h))) n ps ∙ s.0, i e s.1)

unused_absent : (n i k : ℕ) (ps : List Pipe) → unused n i ps ≡ Some k → find k ps ≡ None
unused_absent zero i k ps e = cc
unused_absent (suc n) i k ps e = go (find i ps) refl e (unused_absent n (suc i) k ps)
  where
    go : (o : Option Pipe) → find i ps ≡ o → cond (there o) (unused n (suc i) ps) (Some i) ≡ Some k → (unused n (suc i) ps ≡ Some k → find k ps ≡ None) → find k ps ≡ None
    go None t e r = let same : i ≡ k = cc in rw same at t
    go (Some p) t e r = r e

pub lowest_absent : (k : ℕ) (ps : List Pipe) → lowest_unused ps ≡ Some k → find k ps ≡ None
lowest_absent k ps = go (ltb (length ps) 62)
  where
    go : (b : Bool) → cond b (unused 62 1 ps) None ≡ Some k → find k ps ≡ None
    go true e = unused_absent 62 1 k ps e
    go false e = cc

-- The new pipe lies in its gap.

keeps_fits : (writing : Bool) (low high : ℕ) → low ≤ high → low + keeps writing (high - low) ≤ high
keeps_fits true low high h = omega arith
keeps_fits false low high h = omega arith

-- what holds of each gap holds of the one that gives most, if it gives a block
most_of : (P : Gap → Type 0) (g : Gap) (gs : List Gap) → (0 < g.gives → P g) → AllByRecursion P gs → 0 < (most g gs).gives → P (most g gs)
most_of P g [] h a = h
most_of P g (f ∷ fs) h a = most_of P (cond (ltb g.gives f.gives) f g) fs (cond_both (ltb g.gives f.gives) f g (λ x. 0 < x.gives → P x) (λ _ _. a.0) (λ _. h)) a.1

module _ (k n : ℕ) where
  abbrev InGap : ℕ → ℕ → List Pipe → ℕ → Gap → Type 0
  InGap i low ps top g = (i ≤ g.below) × Rising low (inserted (g.below - i) (new_pipe k n g.from) ps) top

  deeper : (i low : ℕ) (p : Pipe) (ps : List Pipe) (top : ℕ) → low ≤ p.start → p.start ≤ p.end → (g : Gap) → InGap (suc i) p.end ps top g → InGap i low (p ∷ ps) top g
  deeper i low p ps top a b g h =
      let e : g.below - i ≡ suc (g.below - suc i) = omega arith in
      (omega arith, rw e (a, b, h.1))

  in_gaps : (i : ℕ) (writing : Bool) (low : ℕ) (ps : List Pipe) (top : ℕ) → Rising low ps top → AllByRecursion (InGap i low ps top) (gaps i writing low ps top)
  in_gaps i writing low [] top r = let f = keeps_fits writing low top r in ((omega arith, rw (sub_self i) (omega arith, omega arith, f)), tt)
  in_gaps i writing low (p ∷ ps) top r =
      let f = keeps_fits writing low p.start r.0 in (
        (omega arith, rw (sub_self i) (omega arith, omega arith, (f, r.1, r.2))),
        All-weaker _ _ (deeper i low p ps top r.0 r.1) (gaps (suc i) (is_writing p.access) p.end ps top) (in_gaps (suc i) (is_writing p.access) p.end ps top r.2),
      )

  pub rising-inserted : (a : Area) (ps : List Pipe) → Rising a.first ps (area_end a) → 0 < (best_gap a ps).gives → Rising a.first (inserted (best_gap a ps).below (new_pipe k n (best_gap a ps).from) ps) (area_end a)
  rising-inserted a ps r l =
      let g = most_of (InGap 0 a.first ps (area_end a)) no_gap (gaps 0 false a.first ps (area_end a)) (λ z. absurd (omega arith)) (in_gaps 0 false a.first ps (area_end a) r) l in
      rw sub-zero at g.1

-- block e is outside the pipe
abbrev pub Outside : ℕ → Pipe → Type 0
Outside e p = (p.end ≤ e) ⊎ (e < p.start)

all_above : (e low : ℕ) (ps : List Pipe) (top : ℕ) → Rising low ps top → e < first_start ps top → AllByRecursion (Outside e) ps
all_above e low [] top r h = tt
all_above e low (p ∷ ps) top r h = (inr h, all_above e p.end ps top r.2 (let t = start_above p.end ps top r.2 in omega arith))

-- the end of a pipe is outside every pipe, where it is below the next start
pub end_outside : (p : Pipe) (low top : ℕ) {ps : List Pipe} → Found p ps → Rising low ps top → p.end < next_start p.number ps top → AllByRecursion (Outside p.end) ps
end_outside p low top (here {ps = ps}) r l = let e = own p in (inl (omega arith), all_above p.end p.end ps top r.2 (rw e at l))
end_outside p low top (past {q = q} {ps = ps} e f) r l =
    let h = all_found (Lies q.end top) f (all_lie q.end ps top r.2) in
    (inl (omega arith), end_outside p q.end top f r.2 (rw e at l))

found_find : {p : Pipe} {ps : List Pipe} → Found p ps → find p.number ps ≡ Some p
found_find {p} here = rw (own p)
found_find (past e f) = rw e (found_find f)

-- what Open Read picks stands in the table: each number stands once, so it is the first of its number
pub closed_found : (n : ℕ) (p : Pipe) (ps : List Pipe) → EachOnce ps → closed_named n ps ≡ Some p → Found p ps
closed_found n p [] s e = cc
closed_found n p (q ∷ ps) s e = go (named n q && not (is_open q.access)) (closed_named n ps) refl e (closed_found n p ps s.1)
  where
    first : q ≡ p → Found p (q ∷ ps)
    first same = subst (λ x. Found p (x ∷ ps)) (sym same) here

    later : Found p ps → Found p (q ∷ ps)
    later f = past (ne_eqb _ _ (λ h. cc (found_find f, s.0, h))) f

    either : (r : Pipe) (b : Bool) → closed_named n ps ≡ Some r → Some (cond b q r) ≡ Some p → (closed_named n ps ≡ Some p → Found p ps) → Found p (q ∷ ps)
    either r true t e i = first cc
    either r false t e i = later (i (t ∙ e))

    go : (b : Bool) (o : Option Pipe) → closed_named n ps ≡ o → cond b (Some (lower q o)) o ≡ Some p → (closed_named n ps ≡ Some p → Found p ps) → Found p (q ∷ ps)
    go true None t e i = first cc
    go true (Some r) t e i = either r (ltb q.number r.number) t e i
    go false o t e i = later (i (t ∙ e))
