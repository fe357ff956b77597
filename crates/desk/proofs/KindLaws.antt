-- What a call of each kind does: one law, with a clause for each call. Assumes nothing.
use mathlib.Core.Path.{◌≡◌, refl}
use mathlib.Core.Bool.{true}
use mathlib.Core.Option.{Option, none}
use Rattle.ground.proofs.Bools.{not-true}
use Rattle.ground.specs.Options.{given}
use Rattle.ground.proofs.Options.{none-given}
use Rattle.turns.specs.Service.{Kind, opening, band, closing, abandoning, looking, changing}
use Rattle.band.specs.Band.{Finder}
use Rattle.desk.specs.Desk.{Page}
use Rattle.desk.specs.Refusals.{refusal}
use Rattle.desk.specs.Calls.{Call, opens, writes, reads, closes, abandons, drops, looks, kind_of}
use Rattle.desk.specs.Standing.{Stand, page_of}
use Rattle.desk.specs.Tests.{tests}
use Rattle.desk.specs.Effects.{stays, gone, becomes, afterwards, effect}
use Rattle.desk.proofs.Passed.{passed}

-- the same desk with another page open, or none
abbrev pub seeing : Option Page → Stand → Stand
seeing p s = record {
  sound = s.sound;
  page = p;
  learned = s.learned;
  page_free = s.page_free;
  place_free = s.place_free;
}

module _ (finds : Finder) where
  -- no test refuses it
  abbrev pub Passes : Call → Stand → Type 0
  Passes c s = refusal (tests finds c s) ≡ 0

  unfoldable pub KindLaw : Kind → Call → Stand → Type 0
  -- an open: no page before, a page after, the learned table as before
  KindLaw opening c s =
      (Passes c s → s.page ≡ none) × (Passes c s → given (afterwards s.page (effect finds c s).page) ≡ true) ×
      ((effect finds c s).learned ≡ stays)
  -- a band: a page before and after, the learned table as before
  KindLaw band c s =
      (Passes c s → given s.page ≡ true) × (Passes c s → given (afterwards s.page (effect finds c s).page)
      ≡ true)
      × ((effect finds c s).learned ≡ stays)
  -- a close: the page is gone, its table is the learned one
  KindLaw closing c s =
      (Passes c s → given s.page ≡ true) × ((effect finds c s).page ≡ gone)
      × ((effect finds c s).learned ≡ becomes (page_of s).table)
  -- an abandon: the page is gone, the learned table is as before
  KindLaw abandoning c s = (Passes c s → given s.page ≡ true) × ((effect finds c s).page ≡ gone)
      × ((effect finds c s).learned ≡ stays)
  -- a look: nothing changes, and the page does not matter
  KindLaw looking c s =
      ((effect finds c s).page ≡ stays) × ((effect finds c s).learned ≡ stays)
      × ((p : Option Page) → (tests finds c (seeing p s) ≡ tests finds c s)
      × (effect finds c (seeing p s) ≡ effect finds c s))
  -- a drop: no page, before or after
  KindLaw changing c s = (Passes c s → s.page ≡ none) × ((effect finds c s).page ≡ stays)

  pub kind-law : (c : Call) (s : Stand) → KindLaw (kind_of c) c s
  unfolding KindLaw tests effect
  kind-law (opens ask) s = (λ e. none-given s.page (passed 3 (tests finds (opens ask) s) refl e), λ e. refl, refl)
  kind-law (writes ask pels out) s =
      (λ e. not-true (given s.page) (passed 2 (tests finds (writes ask pels out) s) refl e), λ e. refl, refl)
  kind-law (reads ask code out) s =
      (λ e. not-true (given s.page) (passed 2 (tests finds (reads ask code out) s) refl e), λ e. refl, refl)
  kind-law (closes k) s = (λ e. not-true (given s.page) (passed 2 (tests finds (closes k) s) refl e), refl, refl)
  kind-law (abandons k) s = (λ e. not-true (given s.page) (passed 2 (tests finds (abandons k) s) refl e), refl, refl)
  kind-law (drops k) s = (λ e. none-given s.page (passed 3 (tests finds (drops k) s) refl e), refl)
  kind-law (looks k out) s = (refl, refl, λ p. (refl, refl))
