-- The last bytes, one after another. Assumes nothing.
use mathlib.Core.Path.{refl, ◌∙◌}
use native.Mathlib.Numerals.{add-one}
use native.Mathlib.Omega.{arith}
use Rattle.store.specs.Store.{stores}
use Rattle.store.proofs.Store.{stores-next}
use Rattle.store.proofs.put_last.Goals as goal

pub loop-byte-init : goal.loop-byte-init
unfolding stores
loop-byte-init c = (omega arith, refl)

pub loop-byte-preserved : goal.loop-byte-preserved
loop-byte-preserved c = let a = c.args in
    let l = c.loop-byte in
    let p = c.put-next.ensures in (
      omega arith,
      p.1 ∙ rw add-one (stores-next a.out.now a.bytes.now l.out a.at l.next l.byte-index (omega arith)
          l.invariant.1 l.invariant.0),
    )
