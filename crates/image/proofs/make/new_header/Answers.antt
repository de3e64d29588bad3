use Rattle.std.proofs.Common.{◌≤◌, ℕ, ◌+◌, ◌*◌, List, [], ◌∷◌, get_or, refl, ap, ◌∙◌, arith}
use Rattle.std.proofs.lemmas.Nat.{from_be_bytes-to_be_bytes_4}
use Rattle.std.proofs.lemmas.Bool.Decides.{nat_tests}
use Rattle.image.specs.Images.{word}
use Rattle.image.proofs.News.{new_image}
use Rattle.image.proofs.make.new_header.Goals as goal

pub returns : goal.returns
returns c =
    let count = c.args.count in
    let least : 1 ≤ c.args.count = grind (arith, nat_tests) in
    let most : c.args.count ≤ 1048576 = grind (arith, nat_tests) in
    let n = c.to_be_bytes.result in
    let b = c.to_be_bytes-2.result in
    let l = c.to_be_bytes-3.result in
    let head : List ℕ = get_or n 0 0 ∷ get_or n 1 0 ∷ get_or n 2 0 ∷ get_or n 3 0 ∷ 0 ∷ 0 ∷ 0 ∷ 16 ∷ get_or b 0 0 ∷ get_or b 1 0 ∷ get_or b 2 0 ∷ get_or b 3 0 ∷ get_or l 0 0 ∷ get_or l 1 0 ∷ get_or l 2 0 ∷ get_or l 3 0 ∷ [] in
    let first : List ℕ → ℕ = λ bs. word bs 0 in
    new_image head count least most refl (ap first c.to_be_bytes.ensures ∙ from_be_bytes-to_be_bytes_4 count (omega arith)) refl (ap first c.to_be_bytes-2.ensures ∙ from_be_bytes-to_be_bytes_4 (16 + count) (omega arith)) (ap first c.to_be_bytes-3.ensures ∙ from_be_bytes-to_be_bytes_4 (16 + 513 * count) (omega arith))
