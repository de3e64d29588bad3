-- What a search and a test say of a rising list.
use Rattle.std.proofs.Common.{◌≡◌, ℕ, zero, suc, ◌+◌, ◌-◌, ◌<◌, ◌≤◌, Bool, true, false, ltb, leb, ◌&&◌, [], ◌∷◌, List, length, get_or, Some, None, Ok, Err, Result, refl, sym, ap, ◌∙◌, add-one, arith}
use Rattle.std.specs.List.{AllAdjacentBelow, fold, list_all}
use Rattle.std.specs.List.Sorted.{IsBinarySearchResult}
use Rattle.std.specs.Ordering.{nat_cmp}
use Rattle.std.specs.Result.{MatchResult, result_err}
use Rattle.std.proofs.lemmas.Bool.{and_parts, and_from, cases_Bool, leb-true, ltb-true, le-leb, lt-ltb}
use Rattle.std.proofs.lemmas.Bool.Decides.{nat_tests, same_from_decides}
use Rattle.std.proofs.lemmas.List.Recursion.{and_at, and_from_places}
use Rattle.std.proofs.lemmas.List.Sorted.{searched, IsNonDecreasingBy-from_all_adjacent}
use Rattle.placement.specs.Tracks.{rising}
use Rattle.placement.specs.Shifts.{step, shift, rank, rising_head, rising-from}

-- A rising list, place by place

rising_at : (xs : List ℕ) (lo hi i d : ℕ) → rising lo hi xs ≡ true → i < length xs → (lo ≤ get_or xs i d) × (get_or xs i d < hi)
rising_at [] lo hi i d up h = absurd (omega arith)
rising_at (x ∷ xs) lo hi zero d up h = let p = rising_head lo hi x xs up in (p.0, p.1)
rising_at (x ∷ xs) lo hi (suc i) d up h =
    let p = rising_head lo hi x xs up in
    let q = rising_at xs (x + 1) hi i d p.2 (omega arith) in
    (omega (arith, p, q), q.1)

rising_adjacent : (xs : List ℕ) (lo hi : ℕ) → rising lo hi xs ≡ true → AllAdjacentBelow (λ x y. x < y) xs (length xs)
rising_adjacent [] lo hi up k d h = absurd (omega arith)
rising_adjacent (x ∷ xs) lo hi up zero d h = omega (arith, rising_at xs (x + 1) hi 0 d (rising_head lo hi x xs up).2 (omega arith))
rising_adjacent (x ∷ xs) lo hi up (suc k) d h = simp add-one (simp add-one at (rising_adjacent xs (x + 1) hi (rising_head lo hi x xs up).2 k d (omega arith)))

rising_from_places : (xs : List ℕ) (lo hi : ℕ) → (0 < length xs → lo ≤ get_or xs 0 0) → AllAdjacentBelow (λ x y. x < y) xs (length xs) → ((i : ℕ) → i < length xs → get_or xs i 0 < hi) → rising lo hi xs ≡ true
rising_from_places [] lo hi low up high = refl
rising_from_places (x ∷ xs) lo hi low up high =
    rising-from lo hi x xs (low (omega arith)) (high 0 (omega arith))
    (rising_from_places xs (x + 1) hi (λ some. omega (arith, up 0 0 (omega arith))) (λ k d h. simp add-one (simp add-one at (up (suc k) d (omega arith)))) (λ i h. high (suc i) (omega arith)))

-- it is no longer than what it rises through
rising_short : (xs : List ℕ) (lo hi : ℕ) → rising lo hi xs ≡ true → length xs ≤ hi - lo
rising_short [] lo hi up = omega arith
rising_short (x ∷ xs) lo hi up =
    let p = rising_head lo hi x xs up in
    let q = rising_short xs (x + 1) hi p.2 in
    omega (arith, p, q)

-- The test that a list rises

pub rising_long : (xs : List ℕ) (lo hi : ℕ) → hi - lo < length xs → false ≡ rising lo hi xs
rising_long xs lo hi long = grind (arith, cases_Bool (rising lo hi xs), λ (up : rising lo hi xs ≡ true). rising_short xs lo hi up)

pub rising_unsorted : (xs : List ℕ) (lo hi : ℕ) → (k : ℕ) × (k + 1 < length xs) × ((d : ℕ) → false ≡ ltb (get_or xs k d) (get_or xs (k + 1) d)) → false ≡ rising lo hi xs
rising_unsorted xs lo hi w = grind (arith, nat_tests, cases_Bool (rising lo hi xs), w.2 0, λ (up : rising lo hi xs ≡ true). rising_adjacent xs lo hi up w.0 0 w.1)

pub rising_sorted : (xs : List ℕ) (lo hi : ℕ) → AllAdjacentBelow (λ x y. true ≡ ltb x y) xs (length xs) → list_all (λ x. leb lo x && ltb x hi) xs ≡ rising lo hi xs
rising_sorted xs lo hi up = same_from_decides (list_all within xs) (rising lo hi xs) (yes, no) (λ e. e, λ e. e) where
  within : ℕ → Bool
  within x = leb lo x && ltb x hi

  yes : list_all within xs ≡ true → rising lo hi xs ≡ true
  yes all =
      let at : (i : ℕ) → i < length xs → (lo ≤ get_or xs i 0) × (get_or xs i 0 < hi) = λ i h. (let p = and_parts _ _ (and_at (list_all within) within refl (λ _ _. refl) xs i 0 h all) in (leb-true _ _ p.0, ltb-true _ _ p.1)) in
      rising_from_places xs lo hi (λ some. (at 0 some).0) (λ k d h. ltb-true _ _ (sym (up k d h))) (λ i h. (at i h).1)

  no : rising lo hi xs ≡ true → list_all within xs ≡ true
  no all = and_from_places (list_all within) within refl (λ _ _. refl) xs 0 (λ i h. let p = rising_at xs lo hi i 0 all h in and_from _ _ (le-leb _ _ p.0) (lt-ltb _ _ p.1))

-- Where a track would go

-- one that is in the list has no rank
rank_found : (xs : List ℕ) (u n i : ℕ) → i < length xs → get_or xs i 0 ≡ u → rank u n xs ≡ None
rank_found [] u n i h e = absurd (omega arith)
rank_found (x ∷ xs) u n zero h e = grind (arith, nat_tests)
rank_found (x ∷ xs) u n (suc i) h e = grind (arith, nat_tests, rank_found xs u n i (omega arith) e, rank_found xs u (n + 1) i (omega arith) e)

-- and one that would go at place i comes after i of them
rank_gap : (xs : List ℕ) (u n i : ℕ) → i ≤ length xs → ((k : ℕ) → k < i → get_or xs k 0 < u) → ((k : ℕ) → i ≤ k → k < length xs → u < get_or xs k 0) → rank u n xs ≡ Some (n + i)
rank_gap [] u n i h below above = ap Some (omega arith)
rank_gap (x ∷ xs) u n zero h below above =
    grind (arith, nat_tests, above 0 (omega arith) (omega arith), rank_gap xs u n 0 (omega arith) (λ k lt. absurd (omega arith)) (λ k le lt. above (suc k) (omega arith) (omega arith)))
rank_gap (x ∷ xs) u n (suc i) h below above =
    grind (arith, nat_tests, below 0 (omega arith), rank_gap xs u (n + 1) i (omega arith) (λ k lt. below (suc k) (omega arith)) (λ k le lt. above (suc k) (omega arith) (omega arith)))

-- so a binary search tells the rank
pub rank-searched : (xs : List ℕ) (lo hi u : ℕ) (r : Result ℕ ℕ) → rising lo hi xs ≡ true → IsBinarySearchResult (λ y. nat_cmp y u) xs r → result_err r ≡ rank u 0 xs
rank-searched xs lo hi u r up h =
    let rises = IsNonDecreasingBy-from_all_adjacent (λ x. x) xs (λ k d below. omega (arith, rising_adjacent xs lo hi up k d below)) in
    by r (searched xs u r h (λ i j. rises i j 0)) where
      by : (r : Result ℕ ℕ) → MatchResult r (λ i. (i < length xs) × (get_or xs i 0 ≡ u)) (λ i. (i ≤ length xs) × ((k : ℕ) → k < i → get_or xs k 0 < u) × ((k : ℕ) → i ≤ k → k < length xs → u < get_or xs k 0)) → result_err r ≡ rank u 0 xs
      by (Ok i) at = sym (rank_found xs u 0 i at.0 at.1)
      by (Err i) gap = sym (rank_gap xs u 0 i gap.0 gap.1 gap.2 ∙ ap Some (omega arith))

-- Moving on past each spared track, in turn, is a fold

pub shift_folds : (ss : List ℕ) (t : ℕ) → fold (λ t s. step s t) t ss ≡ shift t ss
shift_folds [] t = refl
shift_folds (s ∷ ss) t = shift_folds ss (step s t)
