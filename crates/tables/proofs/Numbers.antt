-- What a number or a name finds among the pipes.
use Rattle.std.proofs.Common.{◌≡◌, ℕ, zero, suc, ◌+◌, ◌<◌, ◌≤◌, min, Bool, true, false, List, [], ◌∷◌, length, get_or, drop, set, is_some, Some, None, Option, MatchOption, sym, refl, ap, ◌∙◌, ⊎_elim, Bor, arith}
use Rattle.std.specs.List.{insert, refill}
use Rattle.std.specs.Option.{option_copied, option_map}
use Rattle.std.proofs.lemmas.List.{set_split, length-set, take_at}
use Rattle.std.proofs.lemmas.Bool.{cond-true, cond-false, cases_lt}
use Rattle.model.specs.declared.pipe.Pipe.{Pipe}
use Rattle.model.specs.declared.pipe.Access.TheVariants.{Closed}
use Rattle.model.specs.Pipes.{numbered, find, there, any, first_start, next_start, exchanged, inserted, unused}
use Rattle.tables.specs.Places.{later, place}
use Rattle.tables.proofs.Firsts.{by_place, there_by, instead, instead_by}

pub copied_told : (o : Option (Bor Pipe)) → option_copied o ≡ option_map (λ p. p.now) o
copied_told None = refl
copied_told (Some p) = refl

-- The pipe that is found, or that there is one

is_there : {X : Type 0} (o : Option X) → there o ≡ is_some o
is_there None = refl
is_there (Some x) = refl

pub any_told : (test : Pipe → Bool) (ps : List Pipe) (o : Option ℕ) → o ≡ place test ps → is_some o ≡ any test ps
any_told test ps o e = sym (is_there o) ∙ ap there e ∙ sym (there_by test (any test) refl (λ _ _. refl) ps)

-- any pipe does
abbrev pub no_pipe : Pipe
no_pipe = record { number = 0; name = 0; start = 0; end = 0; access = Closed }

abbrev pub picked : Pipe → Option ℕ → List Pipe → Option Pipe
picked d None ps = None
picked d (Some i) ps = Some (get_or ps i d)

picked-later : (d : Pipe) (o : Option ℕ) (p : Pipe) (ps : List Pipe) → picked d o ps ≡ picked d (later o) (p ∷ ps)
picked-later d None p ps = refl
picked-later d (Some i) p ps = refl

find-place : (k : ℕ) (d : Pipe) (ps : List Pipe) → find k ps ≡ picked d (place (numbered k) ps) ps
find-place k d =
    by_place (numbered k) (λ ps o. find k ps ≡ picked d o ps) refl (λ p ps e. cond-true _ _ _ e)
    (λ p ps o e h. cond-false _ _ _ e ∙ h ∙ picked-later d o p ps)

pub picked_told : (k : ℕ) (d : Pipe) (ps : List Pipe) (o : Option ℕ) → o ≡ place (numbered k) ps → picked d o ps ≡ find k ps
picked_told k d ps o e = ap (λ j. picked d j ps) e ∙ sym (find-place k d ps)

-- The entry behind, and the list with one exchanged or removed

abbrev behind : ℕ → Option ℕ → List Pipe → ℕ
behind top None ps = top
behind top (Some i) ps = first_start (drop (suc i) ps) top

behind-later : (top : ℕ) (o : Option ℕ) (p : Pipe) (ps : List Pipe) → behind top o ps ≡ behind top (later o) (p ∷ ps)
behind-later top None p ps = refl
behind-later top (Some i) p ps = refl

next-place : (k top : ℕ) (ps : List Pipe) → next_start k ps top ≡ behind top (place (numbered k) ps) ps
next-place k top =
    by_place (numbered k) (λ ps o. next_start k ps top ≡ behind top o ps) refl (λ p ps e. cond-true _ _ _ e)
    (λ p ps o e h. cond-false _ _ _ e ∙ h ∙ behind-later top o p ps)

pub next_told : (k top : ℕ) (ps : List Pipe) (o : Option ℕ) → o ≡ place (numbered k) ps → behind top o ps ≡ next_start k ps top
next_told k top ps o e = ap (λ j. behind top j ps) e ∙ sym (next-place k top ps)

pub instead_told : (k : ℕ) (qs ps : List Pipe) (o : Option ℕ) → o ≡ place (numbered k) ps → instead qs o ps ≡ exchanged k qs ps
instead_told k qs ps o e = ap (λ j. instead qs j ps) e ∙ sym (instead_by (numbered k) (exchanged k qs) qs refl (λ _ _. refl) ps)

refilled : (ps qs : List Pipe) → length qs ≡ length ps → refill (length ps) ps qs ≡ qs
refilled ps qs e = take_at qs (drop (length qs) ps) (length ps) e

pub exchanged_told : (k : ℕ) (q : Pipe) (ps lent : List Pipe) (i : ℕ) → lent ≡ ps → i < length ps → Some i ≡ place (numbered k) ps → refill (length ps) ps (set lent i q) ≡ exchanged k (q ∷ []) ps
exchanged_told k q ps lent i are inside e =
    refilled ps (set lent i q) (length-set lent i q ∙ ap length are) ∙ ap (λ l. set l i q) are ∙ set_split ps i q inside ∙ instead_told k (q ∷ []) ps (Some i) e

-- One more pipe

pub inserted_told : (n m : ℕ) (p : Pipe) (ps : List Pipe) → m ≡ min n (length ps) → insert ps m p ≡ inserted n p ps
inserted_told zero m p ps h = let e : m ≡ 0 = omega arith in ap (λ j. insert ps j p) e
inserted_told (suc n) m p [] h = let e : m ≡ 0 = omega arith in ap (λ j. insert [] j p) e
inserted_told (suc n) zero p (q ∷ ps) h = absurd (omega arith)
inserted_told (suc n) (suc m) p (q ∷ ps) h = ap (λ l. q ∷ l) (inserted_told n m p ps (omega arith))

module _ (ps : List Pipe) where
  abbrev pub Used : ℕ → Type 0
  Used k = is_some (find k ps) ≡ true

  abbrev pub Unused : ℕ → Type 0
  Unused k = is_some (find k ps) ≡ false

  unused_none : (n k : ℕ) → ((j : ℕ) → k ≤ j → j < k + n → Used j) → unused n k ps ≡ None
  unused_none zero k used = refl
  unused_none (suc n) k used =
      cond-true _ _ _ (is_there (find k ps) ∙ used k (omega arith) (omega arith)) ∙ unused_none n (suc k) (λ j h l. used j (omega arith) (omega arith))

  unused_some : (n k i : ℕ) → k ≤ i → i < k + n → Unused i → ((j : ℕ) → k ≤ j → j < i → Used j) → unused n k ps ≡ Some i
  unused_some zero k i h l free used = absurd (omega arith)
  unused_some (suc n) k i h l free used =
      ⊎_elim
      (λ below. cond-true _ _ _ (is_there (find k ps) ∙ used k (omega arith) below) ∙ unused_some n (suc k) i (omega arith) (omega arith) free (λ j a b. used j (omega arith) b))
      (λ above. let e : i ≡ k = omega arith in cond-false _ _ _ (is_there (find k ps) ∙ ap (λ j. is_some (find j ps)) (sym e) ∙ free) ∙ ap (λ j. Some j) (sym e))
      (cases_lt k i)

  pub unused_told : (r : Option ℕ) → MatchOption r ((k : ℕ) → 1 ≤ k → k < 63 → Used k) (λ i. (1 ≤ i) × (i < 63) × Unused i × ((k : ℕ) → 1 ≤ k → k < i → Used k)) → r ≡ unused 62 1 ps
  unused_told None h = sym (unused_none 62 1 (λ j a b. h j a b))
  unused_told (Some i) h = sym (unused_some 62 1 i h.0 h.1 h.2 h.3)
