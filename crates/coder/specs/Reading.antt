-- The reader of any coder, over any model: the pels that it reads. Assumes nothing.
use Rattle.std.specs.Prelude.{ℕ, zero, suc, ◌-◌, Bool, cond, List, [], ◌∷◌}
use Rattle.coder.specs.Writing.{Model}

-- A reader: from a code; is the pel of the size q the expected one; go on after it; was there a shift.
pub record Reader : Type 1 where
  pub State : Type 0
  pub start : List ℕ → State
  pub ask : ℕ → State → Bool
  pub take : ℕ → Bool → State → State
  pub moves : ℕ → Bool → State → Bool

-- the pel that is coded as e
abbrev pub pel_of : ℕ → Bool → ℕ
pel_of s e = cond e s (1 - s)

module _ (A : Model) where
  -- the n pels that a reader reads, from a model and where it stands
  module _ (R : Reader) where
    unfoldable pub read_pels : ℕ → A.State → R.State → List ℕ
    read_pels zero m r = []
    read_pels (suc n) m r =
        let e : Bool = R.ask (A.size m) r in
        let p : ℕ = pel_of (A.sense m) e in
        p ∷ read_pels n (A.move m p (R.moves (A.size m) e r)) (R.take (A.size m) e r)
