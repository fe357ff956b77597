-- What the reader's code sees, as the definition's Sight; k shifts at once; a pel that was told. Assumes nothing.
use Rattle.std.specs.Prelude.{◌≡◌, ℕ, zero, suc, ◌%◌, ◌^◌, ◌≤◌, ◌<◌, List, drop, length}
use Rattle.exact.specs.Sight.{Sight, nearer, supplied, seek, decide, taken}
use Rattle.coder.specs.Reading.{pel_of}
use Rattle.estimate.specs.Estimate.{row_of}
use Rattle.top.specs.declared.Top.{Top}
use Rattle.row.specs.TopEngine.{TopPelled}
use Rattle.sight.specs.declared.View.{View}
use Rattle.sight.specs.declared.Told.{Told}

-- the view beside a writer of that width
abbrev pub sight_of : View → ℕ → List ℕ → Sight
sight_of v width code = record { width = width; x = v.x; look = v.look; last = v.last; unread = drop v.at code }

-- ---- k shifts
unfoldable pub seeks : ℕ → Sight → Sight
seeks zero r = r
seeks (suc k) r = seeks k (nearer (supplied r))

-- ---- one pel read: the decision, the writer's pel, and the view after it
pub record ReadPel (c : Top) (v : View) (code : List ℕ) (e : ℕ) (t : Told) : Type 0 where
  pub asked : t.expected ≡ decide (row_of e) (sight_of v c.width code)
  pub told : t.p ≡ pel_of (e % 2) t.expected
  pub pelled : TopPelled c e t.expected t.pel
  pub sight : sight_of t.view t.pel.coder.width code ≡ seek 12
      (taken (row_of e) t.expected (sight_of v c.width code))
  pub within : t.view.at ≤ length code
  pub near : t.view.look ≤ 7
  pub small : t.view.x < 2 ^ 32
