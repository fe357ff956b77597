-- A whole run of the code is the run of the definitions, and two histories from the empty desk agree. Assumes nothing.
use mathlib.Core.Path.{◌≡◌, refl, sym, ap, ap₂, ◌∙◌}
use mathlib.Core.List.{List, ◌∷◌}
use Rattle.turns.specs.Service.{Entry, calls}
use Rattle.turns.specs.Serial.{serial}
use Rattle.unique.proofs.OneReader.{reading}
use Rattle.desk.specs.declared.Key.{Key}
use Rattle.desk.specs.Desk.{Desk}
use Rattle.desk.specs.Places.{empty_desk}
use Rattle.desk.specs.Standing.{learned_table}
use Rattle.serial.specs.Run.{Step, calling, step_of, entry_of, step, run, after}
use Rattle.serial.specs.Demand3.{Demand3, left}
use Rattle.demands.proofs.Certain.{as-run}
use Rattle.demands.proofs.AnyOrder.{any_order}
use Rattle.demands.specs.Ran.{Ran, begun, more}

pub record AsRun (d : Desk) (es : List (Entry calling)) (d' : Desk) : Type 0 where
  pub answers : es ≡ run reading d (calls calling es)
  pub ends : d' ≡ after reading d (calls calling es)

ran : (d : Desk) (es : List (Entry calling)) (d' : Desk) → Ran d es d' → AsRun d es d'
unfolding run after calls
ran _ _ _ (begun d) = record { answers = refl; ends = refl }
ran _ _ _ (more d c r lent es d' p q) =
    let e : step_of r lent ≡ step reading d c = as-run d c r lent p in
    let i : AsRun r.desk es d' = ran r.desk es d' q in
    record {
      answers = ap₂ (λ (s : Step) (l : List (Entry calling)). entry_of c s ∷ l) e
          (i.answers ∙ ap (λ (s : Step). run reading s.desk (calls calling es)) e);
      ends = i.ends ∙ ap (λ (s : Step). after reading s.desk (calls calling es)) e;
    }

-- Demand 3 of histories: whatever was answered from an empty desk, serving what is left on a new one answers the same
-- and ends with the same tables
pub any-history : (es fs : List (Entry calling)) (d d' : Desk) → Ran empty_desk es d → Ran empty_desk fs d'
    → calls calling fs ≡ calls calling (serial calling es)
    → (fs ≡ serial calling es) × ((k : Key) → learned_table d' k ≡ learned_table d k)
unfolding left
any-history es fs d d' p q c =
    let a : AsRun empty_desk es d = ran empty_desk es d p in
    let b : AsRun empty_desk fs d' = ran empty_desk fs d' q in
    let t : Demand3 reading (calls calling es) = any_order (calls calling es) in
    let s : calls calling fs ≡ calls calling (left reading (calls calling es)) = c
    ∙ ap (λ (l : List (Entry calling)). calls calling (serial calling l)) a.answers in (
      b.answers ∙ ap (run reading empty_desk) s ∙ t.answers ∙ ap (serial calling) (sym a.answers),
      (λ k. ap (λ (z : Desk). learned_table z k) (b.ends ∙ ap (after reading empty_desk) s) ∙ t.tables k
          ∙ ap (λ (z : Desk). learned_table z k)
          (sym a.ends)),
    )
