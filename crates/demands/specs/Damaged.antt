-- Demand 2 of a read: the tests but those of "damaged", and what a code is that no band was written as. Assumes
-- nothing.
use Rattle.std.specs.Prelude.{cond, List, [], ◌∷◌, ℕ}
use Rattle.std.proofs.Math.Option.{none}
use Rattle.band.specs.Band.{Right}
use Rattle.unique.specs.BandOfCode.{band_of_code}
use Rattle.desk.specs.declared.Ask.{Ask}
use Rattle.desk.specs.Desk.{Page, Desk}
use Rattle.desk.specs.Refusals.{Row, refusal, is_damage}
use Rattle.desk.specs.Calls.{reads}
use Rattle.desk.specs.Standing.{page_of, stand}
use Rattle.desk.specs.Tests.{tests}

-- the tests that do not say "damaged"
unfoldable pub others : List Row → List Row
others [] = []
others (r ∷ rs) = cond (is_damage r.number) (others rs) (r ∷ others rs)

module _ (d : Desk) (ask : Ask) (code out : List ℕ) where
  -- the number of the other tests, 0 where none of them refuses
  abbrev pub otherwise : ℕ
  otherwise = refusal (others (tests band_of_code (reads ask code out) (stand d ask.key)))

  -- no band of that size would have been written so, from the state of the open page
  abbrev pub Unwritten : Type 0
  Unwritten =
      let p : Page = page_of (stand d ask.key) in
      Right p.width ask.rows p.table.entries p.last code none
