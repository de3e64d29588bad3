-- The name of a number, and the names of all entries.
use Rattle.std.proofs.Common.{◌≡◌, ℕ, zero, suc, ◌+◌, ◌*◌, ◌<◌, ◌≤◌, List, [], ◌∷◌, ◌++◌, map, length, drop, Some, None, Option, MatchOption, Bor, sym, refl, ap, ◌∙◌, subst, arith}
use denote.Param.Members.{Mut}
use Rattle.std.specs.Array.{IsFromFnResultFrom}
use Rattle.std.specs.Fn.{Called}
use Rattle.std.specs.Option.{option_map}
use Rattle.std.proofs.lemmas.List.{drop_more, drop_all, length-map, length-replicate}
use Rattle.packet.specs.Packets.{name_bytes}
use Rattle.model.specs.declared.pipe.Area.{Area}
use Rattle.model.specs.declared.pipe.Pipe.{Pipe}
use Rattle.model.specs.Semaphores.{blank}
use Rattle.model.specs.Tables.{bytes_of, pipe_name, entry_name, counting, name_table}
use Rattle.status.specs.Written.{entry_names}

-- the name of what `find` gave, or blanks
pub name_told : {P : Bor Pipe → Type 0} (o' : Option Pipe) (o : Option (Bor Pipe)) (n : ℕ) (r : ℕ) → option_map (λ p. p.now) o ≡ o' → MatchOption o (r ≡ n) P → ((p : Bor Pipe) → P p → r ≡ p.now.name) → n ≡ blank → r ≡ pipe_name o'
name_told o' None n r e h named none = h ∙ none ∙ ap pipe_name e
name_told o' (Some p) n r e h named none = named p h ∙ ap pipe_name e

length-counting : (n k : ℕ) → length (counting n k) ≡ n
length-counting zero k = refl
length-counting (suc n) k = ap suc (length-counting n (suc k))

-- what `from_fn` made is f of each number, where each call of its closure g gives that
pub numbers_named : {F : Type 0} (g : Mut F (ℕ × Unit {0}) ℕ) (f : ℕ → ℕ) (xs : List ℕ) (c : F) (i n : ℕ) → length xs ≡ i + n → i + n ≤ 64 → ((k x : ℕ) (d : F) → k < 64 → Called g c (k, tt) x d → (d ≡ c) × (x ≡ f k)) → IsFromFnResultFrom g c xs i n → drop i xs ≡ map f (counting n i)
numbers_named g f xs c i zero long few told made = drop_all i xs (omega arith)
numbers_named {F} g f xs c i (suc n) long few told made =
    let call = told i made.1 made.0 (omega arith) made.3 in
    let rest = subst (λ (d : F). IsFromFnResultFrom g d xs (i + 1) n) call.0 made.4 in
    let one : i + 1 ≡ suc i = omega arith in
    drop_more xs i made.1 (omega arith) ∙ ap (λ x. x ∷ drop (i + 1) xs) (made.2.0 ∙ call.1)
    ∙ ap (λ l. f i ∷ l) (numbers_named g f xs c (i + 1) n (omega arith) (omega arith) told rest ∙ ap (λ k. map f (counting n k)) one)

pub entries_named : (area : Option Area) (ps : List Pipe) (xs : List ℕ) (a : Area) → area ≡ Some a → xs ≡ map (entry_name ps) (counting 64 0) → xs ≡ entry_names area ps
entries_named area ps xs a is told = told ∙ ap (λ o. entry_names o ps) (sym is)

bytes_of-map : {X Y : Type 0} (f : Y → List ℕ) (g : X → Y) (xs : List X) → bytes_of f (map g xs) ≡ bytes_of (λ x. f (g x)) xs
bytes_of-map f g [] = refl
bytes_of-map f g (x ∷ xs) = ap (λ r. f (g x) ++ r) (bytes_of-map f g xs)

names_long : (area : Option Area) (ps : List Pipe) → length (entry_names area ps) ≡ 64
names_long None ps = length-replicate 64 blank
names_long (Some a) ps = length-map (counting 64 0) (entry_name ps) ∙ length-counting 64 0

names_bytes : (area : Option Area) (ps : List Pipe) → bytes_of name_bytes (entry_names area ps) ≡ name_table area ps
names_bytes None ps = refl
names_bytes (Some a) ps = bytes_of-map name_bytes (entry_name ps) (counting 64 0)

pub names_told : (area : Option Area) (ps : List Pipe) (names : List ℕ) → names ≡ entry_names area ps → (8 * length names ≡ 512) × (bytes_of name_bytes names ≡ name_table area ps)
names_told area ps names is = let long = ap length is ∙ names_long area ps in (omega arith, ap (bytes_of name_bytes) is ∙ names_bytes area ps)
