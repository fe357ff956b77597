-- What every call keeps: a lawful desk stays lawful, and other keys see no change. Assumes nothing.
use Rattle.std.specs.Prelude.{◌≡◌, true, false}
use Rattle.desk.specs.declared.Key.{Key}
use Rattle.desk.specs.Desk.{Desk}
use Rattle.desk.specs.Places.{same_key}
use Rattle.desk.specs.Lawful.{lawful}
use Rattle.desk.specs.Standing.{open_page, learned_table}

-- what a key sees: its open page and its learned table
pub record SameFor (j : Key) (d d' : Desk) : Type 0 where
  pub page : open_page d' j ≡ open_page d j
  pub table : learned_table d' j ≡ learned_table d j

-- a call under k keeps the desk lawful, and other keys see no change
pub record Keeps (k : Key) (d d' : Desk) : Type 0 where
  pub stays_lawful : lawful d' ≡ true
  pub others_same : (j : Key) → same_key k j ≡ false → SameFor j d d'
