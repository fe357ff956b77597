-- The leading zeros behind the mask are white pels. Assumes nothing.
use native.Mathlib.Omega.{arith}
use Rattle.template.proofs.White.{white-word}
use Rattle.template.proofs.white_of.Goals as goal

pub overflow_cast-zeros : goal.overflow_cast-zeros
overflow_cast-zeros c = let a = c.args in
    let p = c.requires in
    omega (arith, (white-word a.row.now a.k a.w a.y p.0 p.2 p.3).1)

pub overflow_add-result : goal.overflow_add-result
overflow_add-result c = let a = c.args in
    let p = c.requires in
    omega (arith, (white-word a.row.now a.k a.w a.y p.0 p.2 p.3).1)

pub returns : goal.returns
returns c = let a = c.args in
    let p = c.requires in
    white-word a.row.now a.k a.w a.y p.0 p.2 p.3
