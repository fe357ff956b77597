-- Eight bytes of the row. Assumes nothing.
use Prim.Native.Nat.{◌+◌, ◌-◌, ◌<◌}
use native.Mathlib.Omega.{arith}
use Rattle.std.proofs.lemmas.List.{get_or-take, get_or-drop}
use Rattle.template.proofs.Words.{word-bytes}
use Rattle.template.proofs.word_at.Goals as goal

pub returns : goal.returns
returns c = let a = c.args in
    let first = rw c.unwrap.ensures at c.first_chunk.ensures.cases in
    word-bytes a.row.now c.unwrap.result.now a.k _ (λ i. omega (arith, c.type_inv.row i))
    (λ i h. let room : i < a.k + 8 - a.k = omega arith in
    rw (first.same, get_or-take, get_or-take, get_or-drop)) c.from_be_bytes.ensures
