-- Nothing more can vary: for every desk and every call, any two outcomes that the call's contract allows are equal (the
-- answer, the desk after it, each byte of the lent buffer), and they are the step of a run in demand 3. Assumes
-- nothing.
use mathlib.Core.Path.{◌≡◌, refl, sym, ap, ap₂, ◌∙◌}
use mathlib.Core.Bool.{cond}
use mathlib.Core.List.{List}
use Prim.Native.Nat.{ℕ}
use lib.Dec.{eqb}
use Rattle.std.specs.Prelude.{Result, Ok, Err}
use Rattle.band.specs.Band.{Finder, Reader}
use Rattle.unique.proofs.OneReader.{reading, one_reader}
use Rattle.desk.specs.declared.Answer.{Answer}
use Rattle.desk.specs.declared.Done.{Done}
use Rattle.desk.specs.declared.Refusal.{Refusal}
use Rattle.desk.specs.declared.Refusal.TheVariants as refused
use Rattle.parts.specs.declared.Parts.{Parts}
use Rattle.desk.specs.Desk.{Desk, Outcome}
use Rattle.parts.specs.Parts.{desk_of}
use Rattle.desk.specs.Calls.{Call}
use Rattle.desk.specs.Allowed.{answer_of, outcome, lent, Allowed}
use Rattle.parts.specs.Replies.{Serves}
use Rattle.parts.proofs.Lines.{same_parts}
use Rattle.serial.specs.Run.{Step, step_of, step}

-- ---- by whatever right reader
same_step : (R : Reader) (d : Desk) (c : Call) → step R d c ≡ step reading d c
same_step R d c = ap (λ (f : Finder). step_of (outcome f d c) (lent f d c)) (one_reader R)

-- what a call's contract allows is the step of a run
pub as-run : (d : Desk) (c : Call) (r : Outcome) (after : List ℕ) → Allowed d c r after
    → step_of r after ≡ step reading d c
as-run d c r after p = ap₂ step_of p.outcome p.lent ∙ same_step p.reader d c

-- any two allowed outcomes are equal
pub certain : (d : Desk) (c : Call) (r r' : Outcome) (after after' : List ℕ) → Allowed d c r after
    → Allowed d c r' after' → step_of r after
    ≡ step_of r' after'
certain d c r r' after after' p q = as-run d c r after p ∙ sym (as-run d c r' after' q)

-- the same of the desk in memory: its answer, every line of its book, every byte of its arrays, each byte of the lent
-- buffer
pub certain-parts : (p : Parts) (c : Call) (r r' : Answer) (q q' : Parts) (after after' : List ℕ)
    → Serves p c r q after → Serves p c r' q' after'
    → (r ≡ r') × (q ≡ q') × (after ≡ after')
certain-parts p c r r' q q' after after' s t =
    let e = certain (desk_of p) c _ _ after after' s.allowed t.allowed in (
      ap (λ (x : Step). x.answer) e,
      same_parts q q' s.whole t.whole (ap (λ (x : Step). x.desk) e),
      ap
          (λ (x : Step). x.lent) e,
    )

-- ---- the same of the calls in Rattle, whose result is known by its answer
-- the refusal of a number
refusal_for : ℕ → Refusal
refusal_for n =
    cond (eqb n 12) refused.UnlawfulDesk (cond (eqb n 1) refused.KeyOutOfRange (cond (eqb n 6) refused.WrongSize
    (cond (eqb n 3) refused.PageOpen (cond (eqb n 2) refused.NoPage (cond (eqb n 7) refused.OtherDirection
    (cond (eqb n 11) refused.NoTable (cond (eqb n 4) refused.PagesFull (cond (eqb n 5) refused.PlacesFull
    (cond (eqb n 8) refused.PaddingBit (cond (eqb n 9) refused.NoRoom (cond (eqb n 15) refused.Marker
    refused.Damaged)))))))))))

result_for : Answer → Result Done Refusal
result_for a =
    cond (eqb a.number 0) (Ok (record { length = a.length; shifts = a.shifts; revisits = a.revisits }))
    (Err (refusal_for a.number))

-- a result is known by its answer
result-back : (x : Result Done Refusal) → result_for (answer_of x) ≡ x
unfolding result_for refusal_for
result-back (Ok d) = refl
result-back (Err refused.UnlawfulDesk) = refl
result-back (Err refused.KeyOutOfRange) = refl
result-back (Err refused.WrongSize) = refl
result-back (Err refused.PageOpen) = refl
result-back (Err refused.NoPage) = refl
result-back (Err refused.OtherDirection) = refl
result-back (Err refused.NoTable) = refl
result-back (Err refused.PagesFull) = refl
result-back (Err refused.PlacesFull) = refl
result-back (Err refused.PaddingBit) = refl
result-back (Err refused.NoRoom) = refl
result-back (Err refused.Marker) = refl
result-back (Err refused.Damaged) = refl

-- no two results have one answer
pub one-result : (x y : Result Done Refusal) → answer_of x ≡ answer_of y → x ≡ y
one-result x y e = sym (result-back x) ∙ ap result_for e ∙ result-back y

-- any two results that a call in Rattle may give, and the parts and bytes after them, are equal
pub certain-results : (p : Parts) (c : Call) (x y : Result Done Refusal) (q q' : Parts) (after after' : List ℕ)
    → Serves p c (answer_of x) q after → Serves p c (answer_of y) q' after'
    → (x ≡ y) × (q ≡ q') × (after ≡ after')
certain-results p c x y q q' after after' s t =
    let e = certain-parts p c _ _ q q' after after' s t in
    (one-result x y e.0, e.1, e.2)
