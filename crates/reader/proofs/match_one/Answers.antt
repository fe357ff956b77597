-- A settled byte compared with the code. Assumes nothing.
use mathlib.Core.Path.{◌≡◌, refl, sym, ◌∙◌}
use Prim.Native.Nat.{ℕ}
use mathlib.Core.Bool.{Bool, ◌&&◌}
use borrow.Author.Tests.{eq-eqb}
use lib.Dec.{eqb}
use native.Mathlib.Omega.{arith}
use Rattle.std.specs.Prelude.{Option, Some, None, is_some, unwrap_or, option_map}
use Rattle.std.specs.Option.{option_eq}
use Rattle.engine.proofs.Matching.{match-first, match-later}
use Rattle.reader.proofs.match_one.Goals as goal

-- a byte looked up, and compared with one that is there
looked-up : {X : Type 0} (now : X → ℕ) (found : Option X) (here : Bool) (x : ℕ) (b : X) → is_some found ≡ here
    → unwrap_or (option_map now found) 0 ≡ x
    → (here && eqb x (now b)) ≡ option_eq (λ y z. eqb (now y) (now z)) found (Some b)
looked-up now (Some y) here x b h e = rw (← h, ← e) refl
looked-up now None here x b h e = rw (← h) refl

pub returns-then-at-eq0 : goal.returns-then-at-eq0
returns-then-at-eq0 c = eq-eqb _ _ c.if-at-eq0.true ∙ match-first _ _ _ c.if-at-eq0.true

pub returns-else-at-eq0 : goal.returns-else-at-eq0
returns-else-at-eq0 c = let g = c.get.ensures.lookup in
    match-later _ _ _ _ c.if-at-eq0.false
    (looked-up (λ y. y.now) c.get.result _ _ _ g.0 (g.4 (omega arith) 0) ∙ sym c.eq.ensures)
