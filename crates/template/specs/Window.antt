-- The context slides: two shift registers, of the row above and of this row, whose sum is document 01's. Assumes
-- nothing.
use Rattle.std.specs.Prelude.{◌≡◌, ℕ, ◌+◌, ◌*◌, ◌/◌, ◌%◌, List}
use Rattle.template.specs.declared.Window.{Window}
use Rattle.template.specs.Pels.{left_of, right_of}

-- ---- the registers at x: the five pels of the row above, the two of this row
pub record Slid (above this : List ℕ) (x : ℕ) (w : Window) : Type 0 where
  pub five : w.above ≡ right_of above x 2 + 2 * right_of above x 1 + 4 * right_of above x 0 + 8 * left_of above x 1 + 16 *
      left_of above x 2
  pub two : w.this ≡ left_of this x 1 + 2 * left_of this x 2

-- ---- both registers of a context, which is one number
abbrev pub parted : ℕ → Window
parted cx = record { above = cx / 4; this = cx % 4 }
