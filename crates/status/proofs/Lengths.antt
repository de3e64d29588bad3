-- How many bytes each table has.
use Rattle.std.proofs.Common.{◌≡◌, ℕ, ◌+◌, ◌*◌, ◌≤◌, Bool, true, false, cond, eqb, List, ◌++◌, length, Some, None, Option, sym, refl, ap, ◌∙◌, arith}
use Rattle.std.proofs.lemmas.List.{length-append, length-replicate}
use Rattle.packet.specs.Packets.{name_bytes}
use Rattle.model.specs.declared.pipe.Area.{Area}
use Rattle.model.specs.declared.pipe.Pipe.{Pipe}
use Rattle.model.specs.Tables.{bytes_of, semaphore_table, name_table, pointer_table, tables_asked}
use Rattle.status.specs.Written.{entry_names, pointer_entries}
use Rattle.status.specs.Asked.{asked_length}
use Rattle.status.proofs.EightBytes.{length-bytes_of}
use Rattle.status.proofs.Names.{names_told}
use Rattle.status.proofs.Padding.{length-padded, length-pointer_entries}

length_names : (names : List ℕ) → length (bytes_of name_bytes names) ≡ 8 * length names
length_names names = length-bytes_of name_bytes (λ n. refl) names

pub length-semaphore_table : (names : List ℕ) → length names ≡ 32 → length (semaphore_table names) ≡ 256
length-semaphore_table names all = length_names names ∙ ap (λ n. 8 * n) all

pub length-name_table : (a : Option Area) (ps : List Pipe) → length (name_table a ps) ≡ 512
length-name_table a ps =
    let told = names_told a ps (entry_names a ps) refl in
    sym (ap length told.1) ∙ length_names (entry_names a ps) ∙ told.0

pub length-pointer_table : (a : Option Area) (ps : List Pipe) → length ps ≤ 62 → length (pointer_table a ps) ≡ 512
length-pointer_table None ps few = length-replicate {A = ℕ} 512 0
length-pointer_table (Some a) ps few = length-padded 512 (pointer_entries a ps) (omega (arith, length-pointer_entries a ps))

-- lengths by the selector, of tables of these lengths
length-picked : (both names pointers semaphores : List ℕ) (p q r : Bool) → length both ≡ 1024 → length names ≡ 512 → length pointers ≡ 512 → length semaphores ≡ 256 → length (cond p both (cond q names (cond r pointers semaphores))) ≡ cond p 1024 (cond q 512 (cond r 512 256))
length-picked both names pointers semaphores true q r b n p s = b
length-picked both names pointers semaphores false true r b n p s = n
length-picked both names pointers semaphores false false true b n p s = p
length-picked both names pointers semaphores false false false b n p s = s

pub length-tables_asked : (names : List ℕ) (a : Option Area) (ps : List Pipe) (selector : ℕ) → length names ≡ 32 → length ps ≤ 62 → length (tables_asked names a ps selector) ≡ asked_length selector
length-tables_asked names a ps selector all few =
    let n = length-name_table a ps in
    let p = length-pointer_table a ps few in
    let both : length (name_table a ps ++ pointer_table a ps) ≡ 1024 = length-append (name_table a ps) (pointer_table a ps) ∙ ap (λ k. k + length (pointer_table a ps)) n ∙ ap (λ k. 512 + k) p in
    length-picked (name_table a ps ++ pointer_table a ps) (name_table a ps) (pointer_table a ps) (semaphore_table names) (eqb selector 0) (eqb selector 1) (eqb selector 2) both n p (length-semaphore_table names all)
