-- If no two bands of one size have one code, at most one answer is right for a code. Assumes nothing.
use mathlib.Core.Path.{◌≡◌, refl, sym, ap, ◌∙◌}
use Prim.Native.Nat.{ℕ}
use mathlib.Core.Option.{Option, some, none}
use mathlib.Core.List.{List}
use Rattle.band.specs.Band.{written, IsBand, Right}

-- from one table and last row
abbrev pub OneBand : ℕ → ℕ → List ℕ → List ℕ → Type 0
OneBand width rows table last =
    (a b : List ℕ) → IsBand width rows a → IsBand width rows b → (written width rows table last a).code ≡ (written width
    rows table last b).code → a ≡ b

pub one_right : (width rows : ℕ) (table last code : List ℕ) → OneBand width rows table last → (f g : Option (List ℕ))
    → Right width rows table last code f → Right width rows table last code g → f ≡ g
one_right w r t l code u (some a) (some b) p q = ap some (u a b p.0 q.0 (p.1 ∙ sym q.1))
one_right w r t l code u (some a) none p q = absurd (q a p.0 p.1)
one_right w r t l code u none (some b) p q = absurd (p b q.0 q.1)
one_right w r t l code u none none p q = refl
