use Rattle.std.proofs.Common.{rules, arith}
use Rattle.image.proofs.Words.{length_read, head_read}
use Rattle.image.proofs.check.check.Goals as goal

pub returns-then-from_be_bytes-bytes : goal.returns-then-from_be_bytes-bytes
returns-then-from_be_bytes-bytes c =
    let w = length_read _ _ _ c.as_chunks.ensures.front (omega arith) in
    search (rules, w)

pub returns : goal.returns
returns c =
    let w = length_read _ _ _ c.as_chunks.ensures.front (omega arith) in
    let h = head_read _ _ _ c.as_chunks.ensures.front (omega arith) in
    search (rules, w, h)
