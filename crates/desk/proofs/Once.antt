-- By one reader a call has one outcome: the answer, the desk after it and each byte of the lent buffer. Assumes
-- nothing.
use mathlib.Core.Path.{◌≡◌, sym, ap, ◌∙◌}
use mathlib.Core.List.{List}
use Prim.Native.Nat.{ℕ}
use Rattle.band.specs.Band.{Finder}
use Rattle.desk.specs.Desk.{Desk, Outcome}
use Rattle.desk.specs.Calls.{Call}
use Rattle.desk.specs.Allowed.{outcome, lent, Allowed}

pub once : (d : Desk) (c : Call) (r r' : Outcome) (after after' : List ℕ) (p : Allowed d c r after)
    (q : Allowed d c r' after') → p.reader.finds
    ≡ q.reader.finds
    → (r ≡ r') × (after ≡ after')
once d c r r' after after' p q e = (
  p.outcome ∙ ap (λ (f : Finder). outcome f d c) e ∙ sym q.outcome,
  p.lent ∙ ap (λ (f : Finder). lent f d c) e
      ∙ sym q.lent,
)
