-- The bits that a byte brings. Assumes nothing.
use mathlib.Core.Path.{sym}
use Rattle.octets.proofs.Fit.{bits-ff, bits-else}
use Rattle.sight.proofs.bits_after.Goals as goal

pub returns-then-b-eq255 : goal.returns-then-b-eq255
returns-then-b-eq255 c = sym (bits-ff _ c.if-b-eq255.true)

pub returns : goal.returns
returns c = sym (bits-else _ c.if-b-eq255.false)
