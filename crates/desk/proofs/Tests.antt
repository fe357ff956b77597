-- Each call's tests stand in the table's order. Assumes nothing.
use mathlib.Core.Path.{◌≡◌, refl}
use mathlib.Core.Bool.{true}
use Rattle.band.specs.Band.{Finder}
use Rattle.desk.specs.Refusals.{order, from, in_order}
use Rattle.desk.specs.Calls.{Call, opens, writes, reads, closes, abandons, drops, looks}
use Rattle.desk.specs.Standing.{Stand}
use Rattle.desk.specs.Tests.{tests}

module _ (finds : Finder) where
  -- each call's tests stand in the table's order
  pub in_order_lem : (c : Call) (s : Stand) → in_order (tests finds c s) order ≡ true
  unfolding tests in_order from
  in_order_lem (opens ask) s = refl
  in_order_lem (writes ask pels out) s = refl
  in_order_lem (reads ask code out) s = refl
  in_order_lem (closes k) s = refl
  in_order_lem (abandons k) s = refl
  in_order_lem (drops k) s = refl
  in_order_lem (looks k out) s = refl
