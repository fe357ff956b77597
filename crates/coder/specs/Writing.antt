-- Any binary arithmetic coder whose sizes are given from outside, and over it any model that adapts: how a band is
-- written. Assumes nothing.
use Rattle.std.specs.Prelude.{ℕ, suc, Bool, cond, List, [], ◌∷◌, eqb}

-- A writer: a pel of the size q is put in as the expected one or not; was there a shift; the shifts so far; the code if
-- the band ends here.
pub record Writer : Type 1 where
  pub State : Type 0
  pub start : State
  pub put : ℕ → Bool → State → State
  pub moves : ℕ → Bool → State → Bool
  pub count : State → ℕ
  pub code : State → List ℕ

-- A model: states that give the size and the pel expected, and that move on by the pel and by whether there was a
-- shift. Tables, contexts and rows are one such model.
pub record Model : Type 1 where
  pub State : Type 0
  pub size : State → ℕ
  pub sense : State → ℕ
  pub move : State → ℕ → Bool → State

-- where a band stands: what is learned, the writer, and how many pels were revisited so far
pub record Stage (A : Model) (W : Writer) : Type 0 where
  pub model : A.State
  pub writer : W.State
  pub revisits : ℕ

-- The context's estimate was revisited, which is when there was at least one shift: one pel more (request E11).
abbrev pub counted : Bool → ℕ → ℕ
counted shifted n = cond shifted (suc n) n

module _ (A : Model) (W : Writer) where
  -- one pel is put in
  abbrev pub step : Stage A W → ℕ → Stage A W
  step s p =
      let q : ℕ = A.size s.model in
      let e : Bool = eqb p (A.sense s.model) in
      let shifted : Bool = W.moves q e s.writer in
      record {
        model = A.move s.model p shifted;
        writer = W.put q e s.writer;
        revisits = counted shifted s.revisits;
      }

  -- where a band stands after these pels
  unfoldable pub after : Stage A W → List ℕ → Stage A W
  after s [] = s
  after s (p ∷ ps) = after (step s p) ps

  -- each band starts a new code
  abbrev pub opening : A.State → Stage A W
  opening m = record { model = m; writer = W.start; revisits = 0 }

  -- the code of a band of these pels
  abbrev pub band_code : A.State → List ℕ → List ℕ
  band_code m ps = W.code (after (opening m) ps).writer

  -- the S of a band of these pels: its shifts, counted
  abbrev pub band_count : A.State → List ℕ → ℕ
  band_count m ps = W.count (after (opening m) ps).writer

  -- how many of these pels were revisited
  abbrev pub band_revisits : A.State → List ℕ → ℕ
  band_revisits m ps = (after (opening m) ps).revisits

  -- what is learned after a band of these pels
  abbrev pub band_model : A.State → List ℕ → A.State
  band_model m ps = (after (opening m) ps).model
