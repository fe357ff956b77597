-- White runs: white pels under white ones, and the window along them. Assumes nothing.
use Rattle.std.specs.Prelude.{◌≡◌, ℕ, ◌+◌, ◌≤◌, ◌<◌, List, get_or}
use Rattle.template.specs.declared.Window.{Window}
use Rattle.template.specs.Pels.{pel_at}

-- ---- the pels of a packed row from x up to y are white
pub record White (row : List ℕ) (x y : ℕ) : Type 0 where
  pub pels : (z : ℕ) → x ≤ z → z < y → pel_at row z ≡ 0

-- ---- they lie under white ones: the pel two places on in the row above is white, whose pels these are
pub record Under (above : List ℕ) (x y : ℕ) : Type 0 where
  pub pels : (z : ℕ) → x ≤ z → z < y → get_or above (z + 2) 0 ≡ 0

-- ---- a run of both, from x up to y
pub record Clear (row above : List ℕ) (width x y : ℕ) : Type 0 where
  pub within : y ≤ width
  pub white : White row x y
  pub under : Under above x y

-- ---- the window of a white run: only the pel two places on in the row above may be black
abbrev pub white_window : List ℕ → ℕ → Window
white_window above x = record { above = get_or above (x + 2) 0; this = 0 }
