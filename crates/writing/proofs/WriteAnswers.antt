-- Write band: when it is refused, and what it leaves of the desk and the lent output. Assumes nothing.
use mathlib.Core.Path.{◌≡◌, refl, sym, ap, ◌∙◌}
use mathlib.Core.Logic.{◌≢◌}
use Prim.Native.Nat.{ℕ, ◌*◌}
use mathlib.Core.Bool.{Bool, true, false, not, cond}
use mathlib.Core.List.{List, [], ◌∷◌}
use lib.Dec.{eqb}
use Rattle.std.specs.Prelude.{Option, Some, None}
use lib.ListN.{length}
use borrow.Author.Tests.{eq-eqb, ne_eqb}
use Rattle.limits.specs.Limits.{max_rows}
use Rattle.store.specs.Store.{in_front, cleared}
use Rattle.template.specs.Pels.{row_bytes, band_padded}
use Rattle.writer.specs.declared.Wrote.{Wrote}
use Rattle.band.specs.Band.{Written, has_room}
use Rattle.writer.specs.Wrote.{wrote_answer, wrote_out}
use Rattle.unique.specs.BandOfCode.{band_of_code}
use Rattle.desk.specs.declared.Ask.{Ask}
use Rattle.desk.specs.Desk.{Page, Desk}
use Rattle.desk.specs.Lawful.{within}
use Rattle.desk.specs.Refusals.{Row, row, refusal}
use Rattle.desk.specs.Calls.{writes}
use Rattle.desk.specs.Standing.{stand, page_of}
use Rattle.desk.specs.Tests.{band_of, tests}
use Rattle.desk.specs.Effects.{serves, effect}
use Rattle.desk.specs.Allowed.{number, effect_on}
use Rattle.refusals.proofs.Refusing.{paged_to, StoodTo, here, past, at-end}

-- what writing a band gives where there is room
abbrev pub with_room : Written → Wrote
with_room w =
    record {
      length = length w.code;
      shifts = w.shifts;
      revisits = w.revisits;
      table = record { entries = w.table };
      last = w.last;
    }

-- nothing is given where there is no room, and else what the test of room lets through
none-full : (y : Bool) (a : Wrote) → None ≡ cond y (Some a) None → y ≡ false
none-full true a e = cc
none-full false a e = refl

some-room : (y : Bool) (a w : Wrote) → Some w ≡ cond y (Some a) None → (y ≡ true) × (w ≡ a)
some-room true a w e = (refl, cc)
some-room false a w e = absurd (cc)

-- the tests that need the page
abbrev on_page : Ask → List ℕ → List ℕ → Page → List Row
on_page ask pels out p =
    row 6 (not (eqb (length pels) (ask.rows * row_bytes p.width)))
    ∷ row 8 (not (band_padded p.width pels ask.rows))
    ∷ row 9 (not (has_room (band_of p ask.rows pels).code out))
    ∷ []

pub write-number : (d : Desk) (ask : Ask) (pels out : List ℕ)
    → number band_of_code d (writes ask pels out)
    ≡ refusal (paged_to d ask.key (within 1 ask.rows max_rows) 1
    (on_page ask pels out (page_of (stand d ask.key))))
unfolding number tests stand
write-number d ask pels out = refl

-- ---- on the page
module _ (d : Desk) (ask : Ask) (pels out : List ℕ) (i : ℕ) (t : StoodTo d ask.key (within 1 ask.rows max_rows) 1
    i) (page : Page)
    (at : page_of (stand d ask.key) ≡ page) where
  on : number band_of_code d (writes ask pels out) ≡ refusal (on_page ask pels out page)
  on = write-number d ask pels out ∙ t.rest _ ∙ ap (λ (p : Page). refusal (on_page ask pels out p)) at

  pub write-pels : length pels ≢ ask.rows * row_bytes page.width → number band_of_code d (writes ask pels out) ≡ 6
  write-pels h = on ∙ here _ _ (ap not (ne_eqb (length pels) (ask.rows * row_bytes page.width) h))

  module _ (l : length pels ≡ ask.rows * row_bytes page.width) where
    exact : not (eqb (length pels) (ask.rows * row_bytes page.width)) ≡ false
    exact = ap not (eq-eqb (length pels) (ask.rows * row_bytes page.width) l)

    pub write-padding : band_padded page.width pels ask.rows ≡ false → number band_of_code d (writes ask pels out)
        ≡ 8
    write-padding h = on ∙ past _ _ exact ∙ here _ _ (ap not h)

    module _ (a : band_padded page.width pels ask.rows ≡ true) (r : Option Wrote)
        (answer : r ≡ wrote_answer (band_of page ask.rows pels) out) where
      module _ (none : r ≡ None) where
        full : has_room (band_of page ask.rows pels).code out ≡ false
        unfolding wrote_answer
        full = none-full _ (with_room (band_of page ask.rows pels)) (sym none ∙ answer)

        pub write-room : number band_of_code d (writes ask pels out) ≡ 9
        write-room = on ∙ past _ _ exact ∙ past _ _ (ap not a) ∙ here _ _ (ap not full)

        pub cleared-out : wrote_out (band_of page ask.rows pels) out ≡ cleared out
        unfolding wrote_out
        cleared-out = rw full

      module _ (w : Wrote) (some : r ≡ Some w) where
        gave : (has_room (band_of page ask.rows pels).code out ≡ true) × (w ≡ with_room (band_of page ask.rows pels))
        unfolding wrote_answer
        gave = some-room _ (with_room (band_of page ask.rows pels)) w (sym some ∙ answer)

        pub write-end : number band_of_code d (writes ask pels out) ≡ 0
        write-end = on ∙ past _ _ exact ∙ past _ _ (ap not a) ∙ past _ _ (ap not gave.0) ∙ at-end

        pub write-gave : w ≡ with_room (band_of page ask.rows pels)
        write-gave = gave.1

        pub write-lent : wrote_out (band_of page ask.rows pels) out ≡ in_front (band_of page ask.rows pels).code out
        unfolding wrote_out
        write-lent = rw gave.0

  pub write-effect : effect_on band_of_code d (writes ask pels out)
      ≡ serves page (band_of page ask.rows pels) (band_of page ask.rows pels).code out
  unfolding effect
  write-effect = ap (λ (p : Page). serves p (band_of p ask.rows pels) (band_of p ask.rows pels).code out) at
