-- What a write leaves on the volume.
use Rattle.std.proofs.Common.{◌≡◌, ℕ, ◌+◌, ◌<◌, ◌≤◌, Bool, true, false, cond, ltb, List, [], length, take, drop, Ok, Err, sym, refl, ap, ◌∙◌, append-nil, arith}
use Rattle.std.proofs.lemmas.List.{drop_all, take_all}
use Rattle.std.proofs.lemmas.Bool.{cond-true, lt-ltb, le-leb, eq-eqb, not_from_false, or_left}
use Rattle.volume.specs.declared.answers.ReadRefusal.TheVariants as reads
use Rattle.volume.specs.Meanings.{Meaning, Sound, Block, sound, lost, block_of, answer_of, bytes_or, read_answer, read_buffer, written}
use Rattle.volume.specs.Parts.{with_part}
use Rattle.packet.specs.declared.command.Size.{Size}
use Rattle.packet.specs.declared.command.Size.TheVariants.{Bytes128, Bytes256, Bytes256Again, Bytes512}
use Rattle.packet.specs.Commands.{write, size_bytes, first_byte, block_of as block_of_sector}
use Rattle.model.specs.Answers.{bare}
use Rattle.model.specs.Worlds.{World, with_volume}
use Rattle.model.specs.Sectors.{within, overwritten, stored}
use Rattle.model.specs.Steps.{obey}

-- an accepted write is stored
pub written-stored : (m : Meaning) (n : ℕ) (bytes : List ℕ) → n < m.count → m.writable ≡ true → written m n bytes ≡ stored m n bytes
written-stored m n bytes below writable = cond-true _ _ _ (lt-ltb _ _ below) ∙ cond-true _ _ _ writable

-- a read that is done says what the block is
pub read_done : (m : Meaning) (n : ℕ) (before after : List ℕ) (u : Unit {0}) → Ok u ≡ read_answer m n → after ≡ read_buffer m n before → block_of m n ≡ sound after
read_done m n before after u e f = at (ltb n m.count) (block_of m n) e f
  where
    at : (t : Bool) (b : Block) → Ok u ≡ cond t (answer_of b) (Err reads.Beyond) → after ≡ cond t (bytes_or before b) before → b ≡ sound after
    at true (sound bytes) e f = ap sound (sym f)
    at true lost e f = absurd cc
    at false b e f = absurd cc

-- a block's bytes over a whole block
whole_part : (bytes new : List ℕ) → length bytes ≡ 512 → length new ≡ 512 → with_part bytes 0 new ≡ new
whole_part bytes new b n = let e : drop (0 + length new) bytes ≡ [] = drop_all _ bytes (omega arith) in rw e (append-nil new)

whole_block : (b : Block) (new : List ℕ) → ((bytes : List ℕ) → b ≡ sound bytes → length bytes ≡ 512) → length new ≡ 512 → overwritten 0 new b ≡ new
whole_block (sound bytes) new whole n = whole_part bytes new (whole bytes refl) n
whole_block lost new whole n = refl

first_of_whole : (z : Size) (s : ℕ) → 512 ≤ size_bytes z → first_byte z s ≡ 0
first_of_whole Bytes128 s e = omega arith
first_of_whole Bytes256 s e = omega arith
first_of_whole Bytes256Again s e = omega arith
first_of_whole Bytes512 s e = omega arith

most_bytes : (z : Size) → size_bytes z ≤ 512
most_bytes Bytes128 = omega arith
most_bytes Bytes256 = omega arith
most_bytes Bytes256Again = omega arith
most_bytes Bytes512 = omega arith

-- a sector of 512 bytes is the whole block
whole_sector : (m : Meaning) → Sound m → (n : ℕ) (z : Size) (s : ℕ) (new : List ℕ) → 512 ≤ length new → length new ≡ size_bytes z → overwritten (first_byte z s) new (block_of m n) ≡ new
whole_sector m ok n z s new e l =
    ap (λ (i : ℕ). overwritten i new (block_of m n)) (first_of_whole z s (omega arith)) ∙ whole_block (block_of m n) new (ok.whole (m.place n)) (omega (arith, most_bytes z))

-- a whole sector that was written
pub wrote_whole : (w : World) (z : Size) (d s : ℕ) (b whole : List ℕ) (m : Meaning) → d ≡ 1 → block_of_sector z s < w.volume.count → w.volume.writable ≡ true → within (block_of_sector z s) w.area ≡ false → 512 ≤ length b → length b ≡ size_bytes z → Sound w.volume → whole ≡ take 512 b → m ≡ written w.volume (block_of_sector z s) whole → obey w (write z d s b) ≡ (bare 0x00, with_volume w m)
wrote_whole w z d s b whole m one below writable outside least long ok is after =
    let n = block_of_sector z s in
    let all : whole ≡ b = is ∙ take_all 512 b (omega (arith, most_bytes z)) in
    let kept = whole_sector w.volume ok n z s b least long in
    let new : m ≡ stored w.volume n b = after ∙ written-stored w.volume n whole below writable ∙ ap (stored w.volume n) all in
    cond-true _ _ _ (eq-eqb d 1 one) ∙ cond-true _ _ _ (lt-ltb _ _ below) ∙ cond-true _ _ _ writable ∙ cond-true _ _ _ (not_from_false _ outside) ∙
    cond-true _ _ _ (or_left _ _ (le-leb 512 (size_bytes z) (omega arith))) ∙
    rw (kept, new)
