-- Which places runs count out, and what one more place does to them.
use Rattle.std.proofs.Common.{◌≡◌, ℕ, zero, suc, ◌+◌, ◌-◌, ◌<◌, ◌≤◌, ◌⊎◌, List, [], ◌∷◌, ◌++◌, map, length, get_or, take, set, Some, sym, refl, ap, ◌∙◌, subst, inl, inr, append_assoc, arith, length-append}
use Rattle.std.specs.List.{range_with_len, Contains}
use Rattle.std.proofs.lemmas.List.{get_or_default, flat_map_more, length-set, map-id, take_all, take_more, take_more_set}
use Rattle.std.proofs.lemmas.List.FromFn.{length-range_with_len, get_or-range_with_len, map-range_with_len_more}
use Rattle.std.proofs.lemmas.List.Elements.{Contains-append_left, Contains-append_right}
use Rattle.std.proofs.lemmas.Bool.Decides.{nat_tests}
use Rattle.volume.specs.Layouts.{Layout, place_of}
use Rattle.pile.specs.declared.runs.Run.{Run}
use Rattle.pile.specs.Runs.{places_of, spelled, InRun, Stops, Longest, Placed}

-- Which places are among them

pub in_from_has : (run : Run) (p : ℕ) → Contains (places_of run) p → InRun run p
in_from_has run p h =
    let k = h.0 in
    let below : k < run.count = omega (arith, h.1, length-range_with_len run.first run.count) in
    let same = get_or-range_with_len run.first run.count k 0 below in
    let here = get_or_default (places_of run) k 0 p h.1 ∙ h.2 in
    (omega arith, omega arith)

has_from_in : (run : Run) (p : ℕ) → InRun run p → Contains (places_of run) p
has_from_in run p h =
    let k : ℕ = p - run.first in
    let below : k < run.count = omega arith in
    let back : run.first + k ≡ p = omega arith in
    (k, omega (arith, length-range_with_len run.first run.count), get_or-range_with_len run.first run.count k p below ∙ back)

pub has_from_run : (runs : List Run) (i : ℕ) (d : Run) (p : ℕ) → i < length runs → InRun (get_or runs i d) p → Contains (spelled runs) p
has_from_run [] i d p h k = absurd (omega arith)
has_from_run (run ∷ runs) zero d p h k = Contains-append_left (places_of run) (spelled runs) p (has_from_in run p k)
has_from_run (run ∷ runs) (suc i) d p h k = Contains-append_right (places_of run) (spelled runs) p (has_from_run runs i d p (omega arith) k)

spelled_push : (runs : List Run) (run : Run) → spelled (runs ++ run ∷ []) ≡ spelled runs ++ places_of run
spelled_push runs run = sym (flat_map_more places_of [] runs run)

-- One more place

count_at_within : (runs : List Run) (i : ℕ) (d : Run) → i < length runs → (get_or runs i d).count ≤ length (spelled runs)
count_at_within [] i d h = absurd (omega arith)
count_at_within (run ∷ runs) zero d h = omega (arith, length-append (places_of run) (spelled runs), length-range_with_len run.first run.count)
count_at_within (run ∷ runs) (suc i) d h = omega (arith, length-append (places_of run) (spelled runs), count_at_within runs i d (omega arith))

pub count-within : (runs : List Run) (i : ℕ) (run : Run) → i < length runs → run ≡ get_or runs i run → run.count ≤ length (spelled runs)
count-within runs i run h is = omega (arith, ap (λ r. r.count) is, count_at_within runs i run h)

counting_more : (a n : ℕ) → range_with_len a (n + 1) ≡ range_with_len a n ++ (a + n) ∷ []
counting_more a n = sym (map-id (range_with_len a (n + 1))) ∙ map-range_with_len_more (λ x. x) a n (a + n) refl ∙ ap (λ xs. xs ++ (a + n) ∷ []) (map-id (range_with_len a n))

-- the last run goes on
module _ (run longer : Run) (same : longer.first ≡ run.first) (more : longer.count ≡ run.count + 1) where
  spelled_longer : (runs : List Run) → spelled (runs ++ longer ∷ []) ≡ spelled (runs ++ run ∷ []) ++ (run.first + run.count) ∷ []
  spelled_longer runs =
      spelled_push runs longer
      ∙ ap (λ first. spelled runs ++ range_with_len first longer.count) same
      ∙ ap (λ count. spelled runs ++ range_with_len run.first count) more
      ∙ ap (λ places. spelled runs ++ places) (counting_more run.first run.count)
      ∙ sym (append_assoc (spelled runs) (places_of run) ((run.first + run.count) ∷ []))
      ∙ ap (λ places. places ++ (run.first + run.count) ∷ []) (sym (spelled_push runs run))

  stops_longer : (before : Run) (runs : List Run) → Stops before (runs ++ run ∷ []) → Stops before (runs ++ longer ∷ [])
  stops_longer before [] h = λ e. h (e ∙ same)
  stops_longer before (next ∷ runs) h = h

  longest_longer : (runs : List Run) → Longest (runs ++ run ∷ []) → Longest (runs ++ longer ∷ [])
  longest_longer [] h = (omega arith, tt, tt)
  longest_longer (next ∷ runs) h = (h.0, stops_longer next runs h.1, longest_longer runs h.2)

pub placed_longer : (runs : List Run) (i : ℕ) (run longer : Run) (place : ℕ) → length runs ≡ i + 1 → run ≡ get_or runs i run → longer.first ≡ run.first → longer.count ≡ run.count + 1
    → run.first + run.count ≡ place → Placed runs (set runs i longer) place
placed_longer runs i run longer place len is same more end =
    let in_list : i < length runs = omega arith in
    let all : length runs ≤ i + 1 = omega arith in
    let all_set : length (set runs i longer) ≤ i + 1 = omega (arith, length-set runs i longer) in
    let before : runs ≡ take i runs ++ run ∷ [] = sym (take_all (i + 1) runs all) ∙ take_more runs i run in_list ∙ ap (λ last. take i runs ++ last ∷ []) (sym is) in
    let after : set runs i longer ≡ take i runs ++ longer ∷ [] = sym (take_all (i + 1) (set runs i longer) all_set) ∙ take_more_set runs i longer in_list in (
      ap spelled after
          ∙ spelled_longer run longer same more (take i runs)
          ∙ ap (λ rs. spelled rs ++ (run.first + run.count) ∷ []) (sym before)
          ∙ ap (λ p. spelled runs ++ p ∷ []) end,
      λ h. subst (λ rs. Longest rs) (sym after) (longest_longer run longer same more (take i runs) (subst (λ rs. Longest rs) before h)),
    )

-- a new run begins
longest_push : (runs : List Run) (new : Run) → 0 < new.count → ((i : ℕ) (d : Run) → length runs ≡ i + 1 → (get_or runs i d).first + (get_or runs i d).count ≡ new.first → ⊥) → Longest runs → Longest (runs ++ new ∷ [])
longest_push [] new some apart h = (some, tt, tt)
longest_push (run ∷ []) new some apart h = (h.0, apart 0 run refl, (some, tt, tt))
longest_push (run ∷ next ∷ runs) new some apart h =
    (h.0, h.1, longest_push (next ∷ runs) new some (λ i d e. apart (suc i) d (omega arith)) h.2)

-- there is no run, or the last one does not end there
abbrev pub EndsElsewhere : List Run → ℕ → Type 0
EndsElsewhere runs place = (length runs ≡ 0) ⊎ ((i : ℕ) × (run : Run) × (length runs ≡ i + 1) × (run ≡ get_or runs i run) × (run.first + run.count ≡ place → ⊥))

ends_elsewhere : (runs : List Run) (place : ℕ) → EndsElsewhere runs place → (i : ℕ) (d : Run) → length runs ≡ i + 1 → (get_or runs i d).first + (get_or runs i d).count ≡ place → ⊥
ends_elsewhere runs place (inl none) i d len e = omega arith
ends_elsewhere runs place (inr (k, run, long, is, elsewhere)) i d len e =
    let last : i ≡ k = omega arith in
    let same : get_or runs i d ≡ run = get_or_default runs i d run (omega arith) ∙ ap (λ j. get_or runs j run) last ∙ sym is in
    elsewhere (sym (ap (λ r. r.first + r.count) same) ∙ e)

pub placed_new : (runs : List Run) (new : Run) → new.count ≡ 1 → EndsElsewhere runs new.first → Placed runs (runs ++ new ∷ []) new.first
placed_new runs new one elsewhere = (
  spelled_push runs new ∙ ap (λ n. spelled runs ++ range_with_len new.first n) one,
  longest_push runs new (omega arith) (ends_elsewhere runs new.first elsewhere),
)

-- The places of the blocks so far

abbrev pub PlacesIn : List Run → Layout → ℕ → Type 0
PlacesIn runs layout n = (spelled runs ≡ map layout.place (range_with_len 0 n)) × Longest runs

placed : (l : Layout) (n p : ℕ) → n < l.count → Some p ≡ place_of l n → p ≡ l.place n
placed l n p h e = grind (arith, nat_tests)

pub places_more : (before after : List Run) (layout : Layout) (n p : ℕ) → n < layout.count → Some p ≡ place_of layout n → PlacesIn before layout n → Placed before after p → PlacesIn after layout (n + 1)
places_more before after layout n p h is so_far more = (
  more.0
      ∙ ap (λ xs. xs ++ p ∷ []) so_far.0
      ∙ ap (λ q. map layout.place (range_with_len 0 n) ++ q ∷ []) (placed layout n p h is)
      ∙ sym (map-range_with_len_more layout.place 0 n n (omega arith)),
  more.1 so_far.1,
)
