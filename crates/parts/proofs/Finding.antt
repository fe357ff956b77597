-- Finding, step by step: the search at an element, past it, and past all; what is found is within. Assumes nothing.
use Prim.Native.Nat.{ℕ, ◌+◌, ◌≤◌, ◌<◌}
use native.Mathlib.Numerals.{add-one}
use mathlib.Core.Path.{◌≡◌, sym, ap, ap₂, ◌∙◌}
use mathlib.Core.Bool.{Bool, true, false}
use mathlib.Core.List.{List}
use lib.ListN.{length, drop, get_or, drop_of_length-le}
use lib.Seq.{drop-cons}
use Rattle.std.specs.Prelude.{Some, None}
use Rattle.desk.specs.Places.{find_by}
use Rattle.desk.specs.declared.Key.{Key}
use Rattle.parts.specs.declared.Sought.{Sought}
use Rattle.parts.specs.Finding.{found_below, is_sought, line_sought}

-- a search that was begun at the b-th has come to the i-th
abbrev pub Searching : {A : Type 0} → (A → Bool) → List A → ℕ → ℕ → Type 0
Searching test xs b i = find_by test (drop i xs) i ≡ find_by test (drop b xs) b

module _ {A : Type 0} (test : A → Bool) (xs : List A) (b i : ℕ) (s : Searching test xs b i) where
  pub found_nowhere : length xs ≤ i → (None ≡ find_by test (drop b xs) b) × found_below (length xs) None
  unfolding find_by
  found_nowhere h = (rw (drop_of_length-le xs h) at s, tt)

  -- none is what an index past the end denotes
  module _ (none : A) (h : i < length xs) where
    pub found_here : test (get_or xs i none) ≡ true
        → (Some i ≡ find_by test (drop b xs) b) × found_below (length xs) (Some i)
    unfolding find_by
    found_here y = (rw (drop-cons xs i none h, y) at s, h)

    pub found-later : test (get_or xs i none) ≡ false → Searching test xs b (i + 1)
    unfolding find_by
    found-later y = rw add-one (rw (drop-cons xs i none h, y) at s)

-- what was told of an element's state and key is told of it
pub told : {A : Type 0} (state : A → ℕ) (key : A → Key) (s : Sought) {x y : A} {n : ℕ} {k : Key} {b b' : Bool} → x ≡ y
    → n ≡ state x → k ≡ key x → b ≡ is_sought s n k → b ≡ b' → line_sought state key s y ≡ b'
told state key s e f g h t =
    ap (line_sought state key s) (sym e) ∙ ap₂ (is_sought s) (sym f) (sym g) ∙ sym h ∙ t
