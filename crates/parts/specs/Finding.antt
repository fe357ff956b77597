-- What a search among the lines looks for, and what is found is within. Assumes nothing.
use Rattle.std.specs.Prelude.{ℕ, ◌<◌, Bool, ◌&&◌, eqb, Some, None}
use Rattle.desk.specs.declared.Key.{Key}
use Rattle.parts.specs.declared.Sought.{Sought}
use Rattle.parts.specs.declared.Sought.TheVariants.{Used, Learned, Free}
use Rattle.parts.specs.declared.PageLine.{PageLine}
use Rattle.parts.specs.declared.PlaceLine.{PlaceLine}
use Rattle.desk.specs.Places.{Found, is_learned, same_key, is_under}

-- an index that was found is within
abbrev pub found_below : ℕ → Found → Type 0
found_below n (Some i) = i < n
found_below n None = Unit {0}

-- what a search looks for, of a line's state and key
abbrev pub is_sought : Sought → ℕ → Key → Bool
is_sought (Used k) state mine = is_under state mine k
is_sought (Learned k) state mine = is_learned state && same_key mine k
is_sought Free state mine = eqb state 0

-- the same of a line, by what its state and its key are
abbrev pub line_sought : {L : Type 0} → (L → ℕ) → (L → Key) → Sought → L → Bool
line_sought state key s l = is_sought s (state l) (key l)

abbrev pub page_sought : Sought → PageLine → Bool
page_sought s l = is_sought s l.state l.key

abbrev pub place_sought : Sought → PlaceLine → Bool
place_sought s l = is_sought s l.state l.key
