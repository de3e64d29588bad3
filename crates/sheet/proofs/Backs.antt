-- That a row of fields reads back.
use Rattle.std.proofs.Common.{◌≡◌, ◌≢◌, ℕ, ◌+◌, List, [], ◌∷◌, ◌++◌, get_or, ◌∙◌, append_assoc, append-nil, add-zero, arith}
use Rattle.std.proofs.lemmas.Bool.Decides.{nat_tests}
use Rattle.std.proofs.lemmas.Grind.{common_steps}
use Rattle.std.specs.List.{AllByRecursion}
use Rattle.sheet.specs.Records.{Byte, mark_of, from, front, plain, read}
use Rattle.sheet.specs.Rows.{doubled, Ordinary, Field, bare, in_quotes, Row, one, more, Ending, lf, cr_lf, text_end, line_ends, ReadsBack}
use Rattle.sheet.specs.Steps.{ended}
use Rattle.sheet.proofs.Places.{inside-doubled, plain_end, closed_end, front-plain}

lines_append : (a b : List ℕ) → line_ends (a ++ b) ≡ line_ends a + line_ends b
lines_append [] b = omega arith
lines_append (x ∷ a) b = omega (arith, lines_append a b)

lines_doubled : (f : List ℕ) → line_ends (doubled f) ≡ line_ends f
lines_doubled [] = grind arith
lines_doubled (b ∷ f) = grind (arith, nat_tests, lines_doubled f)

plain_bare : (f text : List ℕ) (fields : List (List ℕ)) (g : List ℕ) (n : ℕ) → AllByRecursion Ordinary f → from plain fields g n (f ++ text) ≡ from plain fields (g ++ f) (n + line_ends f) text
unfolding from
plain_bare [] text fields g n h = simp (append-nil, add-zero)
plain_bare (b ∷ f) text fields g n h = grind (arith, nat_tests, append_assoc, plain_bare f text fields (g ++ b ∷ []) n)

-- a field, before what is neither a byte of a field nor a quote
field_reads : {f text : List ℕ} → Field f text → (behind : List ℕ) → get_or behind 0 0 ≢ 34 → mark_of behind ≢ Byte → (fields : List (List ℕ)) (n : ℕ) → from front fields [] n (text ++ behind) ≡ ended (fields ++ f ∷ []) (n + line_ends text) behind
unfolding from
field_reads {f} (bare q all) text hq hm fields n =
    grind (arith, front-plain fields [] n (f ++ text), common_steps, plain_bare f text fields [] n, plain_end fields f (n + line_ends f) text)
field_reads {f} in_quotes text hq hm fields n =
    grind (arith, append_assoc, inside-doubled f (34 ∷ text) (n + 1) fields [] n, closed_end fields f (n + line_ends f) (n + 1) text, lines_append (doubled f) (34 ∷ []), lines_doubled f)

row_reads : {fs : List (List ℕ)} {row ending rest : List ℕ} {k : ℕ} → Row fs row → Ending ending k rest → (fields : List (List ℕ)) (n : ℕ) → from front fields [] n (row ++ ending) ≡ read (fields ++ fs) (n + line_ends row + k) rest
row_reads (one f) lf fields n = field_reads f _ (λ e. omega arith) (λ e. cc) fields n
row_reads (one f) cr_lf fields n = field_reads f _ (λ e. omega arith) (λ e. cc) fields n
row_reads (one f) text_end fields n = field_reads f _ (λ e. omega arith) (λ e. cc) fields n ∙ simp add-zero
row_reads {ending = ending} {rest} {k} (more {f} {text} {fs} {texts} w row) end fields n =
    grind (arith, append_assoc, field_reads w (44 ∷ (texts ++ ending)) (λ e. omega arith) (λ e. cc) fields n, row_reads row end (fields ++ f ∷ []) (n + line_ends text), lines_append text (44 ∷ texts))

pub reads_back : ReadsBack
reads_back fields row ending rest n k written end = row_reads written end [] n
