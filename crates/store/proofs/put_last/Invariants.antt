use mathlib.Core.Path.{◌≡◌}
use Prim.Native.Nat.{◌+◌}
use lib.ListN.{take}
use Rattle.store.specs.Store.{stores}
use Rattle.store.proofs.put_last.Given as goal

abbrev pub invariant-loop-byte : goal.invariant-loop-byte
invariant-loop-byte l =
    (l.next ≡ l.at + l.byte-index) × (l.out ≡ stores l.initial.out l.at (take l.byte-index l.bytes))
