-- What stands in a pipe, and what a write leaves of it.
use Rattle.std.proofs.Common.{◌≡◌, ℕ, zero, suc, ◌+◌, ◌-◌, ◌<◌, ◌≤◌, List, [], ◌∷◌, ◌++◌, sym, refl, ap, ◌∙◌, ⊎_elim, add-zero, arith}
use Rattle.std.proofs.lemmas.Bool.{ne_eqb, eq-eqb}
use Rattle.volume.specs.Meanings.{Block, sound, Meaning, block_of}
use Rattle.model.specs.declared.pipe.Pipe.{Pipe}
use Rattle.model.specs.Sectors.{stored}
use Rattle.model.specs.Laws.{standing}
use Rattle.model.proofs.Entries.{Lies, Outside}

-- different blocks lie at different places
abbrev pub Apart : Meaning → Type 0
Apart m = (i j : ℕ) → i < m.count → j < m.count → m.place i ≡ m.place j → i ≡ j

same-standing : (f g : ℕ → Block) (s n : ℕ) → ((i : ℕ) → s ≤ i → i < s + n → f i ≡ g i) → standing f s n ≡ standing g s n
same-standing f g s zero h = refl
same-standing f g s (suc n) h =
    ap (λ b. b ∷ standing f (suc s) n) (h s (omega arith) (omega arith)) ∙
    ap (λ bs. g s ∷ bs) (same-standing f g (suc s) n (λ i a b. h i (omega arith) (omega arith)))

one_more : (f : ℕ → Block) (s n : ℕ) → standing f s (suc n) ≡ standing f s n ++ (f (s + n) ∷ [])
one_more f s zero = ap (λ i. f i ∷ []) (sym (add-zero s))
one_more f s (suc n) =
    let e : suc s + n ≡ s + suc n = omega arith in
    ap (λ bs. f s ∷ bs) (one_more f (suc s) n ∙ ap (λ i. standing f (suc s) n ++ (f i ∷ [])) e)

stored-apart : (m : Meaning) → Apart m → (e : ℕ) (bytes : List ℕ) (i : ℕ) → e < m.count → i < m.count → (i ≡ e → ⊥) → block_of (stored m e bytes) i ≡ block_of m i
stored-apart m apart e bytes i le li d = rw (ne_eqb _ _ (λ h. d (apart i e li le h)))

pub stored_here : (m : Meaning) (e : ℕ) (bytes : List ℕ) → block_of (stored m e bytes) e ≡ sound bytes
stored_here m e bytes = rw (eq-eqb (m.place e) (m.place e) refl)

-- what stands in a pipe is not touched by a write outside it
pub standing_kept : (m : Meaning) → Apart m → (e : ℕ) (bytes : List ℕ) (p : Pipe) (low top : ℕ) → e < m.count → top ≤ m.count → Lies low top p → Outside e p → standing (block_of (stored m e bytes)) p.start (p.end - p.start) ≡ standing (block_of m) p.start (p.end - p.start)
standing_kept m apart e bytes p low top le lt l out =
    same-standing _ _ p.start (p.end - p.start)
    (λ i x y. stored-apart m apart e bytes i le (omega arith) (λ z. ⊎_elim (λ q. omega arith) (λ q. omega arith) out))

pub standing_first : (f : ℕ → Block) (b : Block) (s e : ℕ) → s < e → f s ≡ b → standing f s (e - s) ≡ b ∷ standing f (s + 1) (e - (s + 1))
standing_first f b s e lt eb =
    let n : e - s ≡ suc (e - (s + 1)) = omega arith in
    let i : suc s ≡ s + 1 = omega arith in
    rw (n, eb, i)

pub standing_last : (f : ℕ → Block) (s e : ℕ) → s ≤ e → standing f s (e + 1 - s) ≡ standing f s (e - s) ++ (f e ∷ [])
standing_last f s e le =
    let n : e + 1 - s ≡ suc (e - s) = omega arith in
    let i : s + (e - s) ≡ e = omega arith in
    rw n (one_more f s (e - s) ∙ rw i)
