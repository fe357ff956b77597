-- Expected pels with no shift add up, and one of them is told. Assumes nothing.
use mathlib.Core.Path.{◌≡◌, refl, sym, ap}
use Prim.Native.Nat.{ℕ, zero, suc, ◌+◌, ◌-◌, ◌*◌, ◌%◌, ◌^◌, ◌≤◌, ◌<◌}
use native.Mathlib.Nat.{add-mul}
use native.Mathlib.Omega.{arith}
use mathlib.Core.Bool.{true, not}
use borrow.Author.Tests.{le-ltb}
use mathlib.Core.List.{List}
use lib.ListN.{length}
use Rattle.ground.proofs.Tests.{if-ge}
use Rattle.estimate.specs.Estimate.{row_of}
use Rattle.exact.specs.Sight.{Sight, nearer, supplied, seek, decide, above}
use Rattle.top.specs.declared.Top.{Top}
use Rattle.top.specs.Top.{narrowed}
use Rattle.row.specs.AnyEngine.{still_pel}
use Rattle.row.proofs.TopEngine.{top_pelled-still}
use Rattle.sight.specs.declared.View.{View}
use Rattle.sight.specs.declared.Told.{Told}
use Rattle.sight.specs.Views.{sight_of, ReadPel}
use Rattle.sight.specs.Still.{view_by}

pub view-none : (v : View) → view_by 0 v ≡ v
view-none v = λ i. record { x = z v.x (2 ^ v.look) i; look = v.look; last = v.last; at = v.at }
  where
    z : (x p : ℕ) → x - 0 * p ≡ x
    z x p = omega arith

pub view-more : (m n s : ℕ) (v : View) → m + n ≡ s → view_by n (view_by m v) ≡ view_by s v
view-more m n s v e = λ i. record { x = z v.x (2 ^ v.look) i; look = v.look; last = v.last; at = v.at }
  where
    z : (x p : ℕ) → x - m * p - n * p ≡ x - s * p
    z x p = let f : s * p ≡ (m + n) * p = ap (λ (k : ℕ). k * p) (sym e) in let g : (m + n) * p ≡ m * p + n * p =
        add-mul m n p in omega arith

-- no byte is sought where the width stays 1000 hex or more
seek-none : (n : ℕ) (r : Sight) → 4096 ≤ r.width → seek n r ≡ r
unfolding seek
seek-none zero r h = refl
seek-none (suc n) r h = if-ge r.width 4096 (seek n (nearer (supplied r))) r h

-- ---- one pel: what is in sight says that it is the expected one, and nothing is read
abbrev pub still_told : Top → View → ℕ → Told
still_told c v e = record { expected = true; p = e % 2; view = view_by (row_of e) v; pel = still_pel (narrowed (row_of e) c) }

pub told-still : (c : Top) (v : View) (code : List ℕ) (e : ℕ) → c.width ≤ c.top → 4096 + row_of e ≤ c.width
    → row_of e * 2 ^ v.look ≤ v.x
    → v.at ≤ length code → v.look ≤ 7 → v.x < 2 ^ 32 → ReadPel c v code e (still_told c v e)
unfolding decide
told-still c v code e holds wide t a l s =
    record {
      asked = sym (ap not (le-ltb v.x (row_of e * 2 ^ v.look) t));
      told = refl;
      pelled = top_pelled-still c e holds wide;
      sight = sym (seek-none 12 (above (row_of e) (sight_of v c.width code)) (omega arith));
      within = a;
      near = l;
      small = omega arith;
    }
