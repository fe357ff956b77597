-- The bytes that a pel settled, none, one or two. Assumes nothing.
use mathlib.Core.Path.{refl, ap₂, ◌∙◌}
use mathlib.Core.List.{List}
use Prim.Native.Nat.{ℕ}
use native.Mathlib.Numerals.{add-one}
use native.Mathlib.Omega.{arith}
use Rattle.store.specs.Store.{stores, store_at}
use Rattle.row.proofs.put_settled.Goals as goal

pub returns-in-Nothing : goal.returns-in-Nothing
unfolding stores
returns-in-Nothing c = rw c.in-Nothing.is (omega arith, refl)

pub returns-in-One : goal.returns-in-One
unfolding stores
returns-in-One c = rw c.in-One.is c.put.ensures

pub returns-in-Two : goal.returns-in-Two
unfolding stores
returns-in-Two c =
    let p = c.put-next.ensures in
    let q = c.put-in-Two.ensures in
    let put : List ℕ → ℕ → List ℕ = λ out at. store_at out at c.in-Two.c in
    rw c.in-Two.is (omega (arith, p.0, q.0), q.1 ∙ ap₂ put p.1 (p.0 ∙ add-one _))
