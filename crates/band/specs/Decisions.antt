-- The pels of a band as the interval's decisions, for what is said of its bytes and its value. Assumes nothing.
use Rattle.std.specs.Prelude.{ℕ, List, [], ◌∷◌, eqb}
use Rattle.coder.specs.Writing.{Stage, step, opening}
use Rattle.coder.specs.Page.{size, sense}
use Rattle.interval.specs.Interval.{Decision, decision}
use Rattle.template.specs.Pels.{band_to}
use Rattle.band.specs.Band.{q_scheme, q_writer, q_page, page_at}

module _ (width : ℕ) where
  -- what each pel decided
  unfoldable pub decisions : Stage (q_page width) q_writer → List ℕ → List Decision
  decisions s [] = []
  decisions s (p ∷ ps) = decision (size q_scheme width s.model) (eqb p (sense q_scheme width s.model))
      ∷ decisions (step (q_page width) q_writer s p) ps

module _ (width rows : ℕ) (table last band : List ℕ) where
  -- where the band starts: the page's table and last row, and a new code
  abbrev pub opened : Stage (q_page width) q_writer
  opened = opening (q_page width) q_writer (page_at width table last)

  -- the band's decisions, from the page's table and last row
  abbrev pub decided : List Decision
  decided = decisions width opened (band_to width band rows)
