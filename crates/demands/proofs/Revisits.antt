-- Request E11: whatever the call and its outcome, the pels revisited are at most S and at most the band's pels; so
-- calls that are no band answer 0. Assumes nothing.
use mathlib.Core.Path.{sym, subst}
use mathlib.Core.List.{List}
use Prim.Native.Nat.{ℕ, zero, suc, ◌*◌, ◌≤◌}
use native.Mathlib.Omega.{arith}
use Rattle.band.specs.Band.{Finder}
use Rattle.band.proofs.Revisits as band
use Rattle.desk.specs.Desk.{Page, Desk, Outcome}
use Rattle.desk.specs.Calls.{Call, key_of, opens, writes, reads, closes, abandons, drops, looks}
use Rattle.desk.specs.Standing.{Stand, stand, page_of}
use Rattle.desk.specs.Tests.{band_of}
use Rattle.desk.specs.Effects.{Effect, band_in, effect}
use Rattle.desk.specs.Changes.{changed}
use Rattle.desk.specs.Allowed.{done, unless, number, effect_on, outcome, Allowed}
use Rattle.demands.specs.Revisits.{pels_of, Revisits}

-- n pels of m, with s shifts
abbrev Few : ℕ → ℕ → ℕ → Type 0
Few n s m = (n ≤ s) × (n ≤ m)

band-few : (p : Page) (rows : ℕ) (pels : List ℕ) → let w = band_of p rows pels in
    Few w.revisits w.shifts (rows * p.width)
unfolding band_of
band-few p rows pels = (band.at_most_shifts _ rows _ _ pels, band.at_most_pels _ rows _ _ pels)

-- what any call does
effect-few : (finds : Finder) (s : Stand) (c : Call) → let e = effect finds c s in
    Few e.revisits e.shifts (pels_of c (page_of s))
unfolding effect
effect-few finds s (opens ask) = (omega arith, omega arith)
effect-few finds s (writes ask pels out) = band-few (page_of s) ask.rows pels
effect-few finds s (reads ask code out) =
    band-few (page_of s) ask.rows (band_in finds (page_of s) ask.rows code)
effect-few finds s (closes k) = (omega arith, omega arith)
effect-few finds s (abandons k) = (omega arith, omega arith)
effect-few finds s (drops k) = (omega arith, omega arith)
effect-few finds s (looks k out) = (omega arith, omega arith)

-- Every band answer gains the number of such pels beside S; refusals and other calls give 0. It is at most S and at
-- most the band's pels.
pub revisits : (d : Desk) (c : Call) (r : Outcome) (after : List ℕ) → Allowed d c r after → Revisits d c r
unfolding outcome
revisits d c r after p = subst (Revisits d c) (sym p.outcome) (go (number p.reader.finds d c))
  where
    e : Effect
    e = effect_on p.reader.finds d c

    go : (n : ℕ) → Revisits d c (unless n d (done e (changed d (key_of c) e.page e.learned)))
    go zero =
        let f = effect-few p.reader.finds (stand d (key_of c)) c in
        record { at_most_shifts = f.0; at_most_pels = f.1 }
    go (suc n) = record { at_most_shifts = omega arith; at_most_pels = omega arith }
