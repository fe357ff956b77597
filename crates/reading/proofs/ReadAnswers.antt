-- Read band: when it is refused, and what it leaves of the desk and the lent output. Assumes nothing.
use mathlib.Core.Path.{◌≡◌, refl, sym, ap, ◌∙◌, subst}
use Prim.Native.Nat.{ℕ, ◌*◌}
use mathlib.Core.Bool.{Bool, true, false, not, cond, ◌&&◌}
use mathlib.Core.Option.{Option, some, none}
use mathlib.Core.List.{List, [], ◌∷◌}
use lib.Dec.{eqb, leb, ltb}
use lib.ListN.{length}
use borrow.Author.Tests.{leb-true, leb-false, lt-ltb, le-ltb}
use Rattle.limits.specs.Limits.{max_rows, max_code}
use Rattle.ground.specs.Options.{given, or_else}
use Rattle.store.specs.Store.{in_front, cleared}
use Rattle.template.specs.Pels.{row_bytes}
use Rattle.band.specs.Band.{Written, Right}
use Rattle.marker.specs.Marker.{marked}
use Rattle.marker.proofs.Never.{found-unmarked}
use Rattle.std.specs.Prelude.{Result, Ok, Err}
use Rattle.reader.specs.declared.Read.{Read}
use Rattle.reader.specs.declared.Fault.{Fault}
use Rattle.reader.specs.declared.Fault.TheVariants.{NoRoom, Damaged}
use Rattle.reader.specs.Found.{rows_fit, not_read, read_answer, read_out, BandFound}
use Rattle.unique.specs.BandOfCode.{band_of_code}
use Rattle.unique.proofs.OneReader.{right-found}
use Rattle.desk.specs.declared.Ask.{Ask}
use Rattle.desk.specs.Desk.{Page, Desk}
use Rattle.desk.specs.Places.{no_page}
use Rattle.desk.specs.Lawful.{within}
use Rattle.desk.specs.Refusals.{Row, row, refusal, damage, zeroing}
use Rattle.desk.specs.Calls.{reads}
use Rattle.desk.specs.Standing.{stand, page_of, open_page}
use Rattle.desk.specs.Tests.{unlawful, unknown, band_of, found_in, tests}
use Rattle.desk.specs.Effects.{serves, band_in, effect}
use Rattle.desk.specs.Allowed.{number, effect_on}
use Rattle.refusals.proofs.Refusing.{paged_to, StoodTo, here, past, at-end}

-- longer than the buffer: not within it
over : (a b : ℕ) → ltb a b ≡ not (leb b a)
over a b = go (leb b a) refl
  where
    go : (y : Bool) → leb b a ≡ y → ltb a b ≡ not y
    go true e = le-ltb a b (leb-true b a e)
    go false e = lt-ltb a b (leb-false b a e)

-- the tests that need the page
abbrev on_page : Ask → List ℕ → List ℕ → Page → List Row
on_page ask code out p =
    row 9 (ltb (length out) (ask.rows * row_bytes p.width)) ∷ row 15 (marked code)
    ∷ row 10 (not (given (found_in band_of_code p ask.rows code))) ∷ []

-- "damaged" sets the lent output to zero
pub damage-clears : (m : Bool) → zeroing (damage m) ≡ true
damage-clears true = refl
damage-clears false = refl

-- both sizes that are tested first are right
abbrev pub sizes : Ask → List ℕ → Bool
sizes ask code = within 1 ask.rows max_rows && leb (length code) max_code

-- the two tests of size are one
two-sizes : (u v : Row) (w l : Bool) (rs : List Row)
    → refusal (u ∷ v ∷ row 6 (not w) ∷ row 6 (not l) ∷ rs) ≡ refusal (u ∷ v ∷ row 6 (not (w && l)) ∷ rs)
unfolding refusal
two-sizes u v true l rs = refl
two-sizes u v false l rs = refl

pub read_number : (d : Desk) (ask : Ask) (code out : List ℕ)
    → number band_of_code d (reads ask code out)
    ≡ refusal (paged_to d ask.key (sizes ask code) 2 (on_page ask code out (page_of (stand d ask.key))))
unfolding number tests stand
read_number d ask code out =
    ap (λ (b : Bool). refusal (unlawful (stand d ask.key) ∷ unknown ask.key
    ∷ row 6 (not (within 1 ask.rows max_rows)) ∷ row 6 b ∷ rest))
    (over max_code (length code))
    ∙ two-sizes (unlawful (stand d ask.key)) (unknown ask.key) (within 1 ask.rows max_rows)
    (leb (length code) max_code) rest
  where
    rest : List Row
    rest =
        row 2 (not (given (open_page d ask.key))) ∷ row 7 (not (eqb (or_else (open_page d ask.key) no_page).state 2))
        ∷ on_page ask code out (or_else (open_page d ask.key) no_page)

-- what an answer tells: whether there was room, and whether a band was found
not-room : (y : Bool) → Err NoRoom ≡ not_read y → y ≡ false
not-room true e = cc
not-room false e = refl

not-some : (y : Bool) (a : Read) → Err NoRoom ≡ cond y (Ok a) (not_read false) → y ≡ false
not-some true a e = cc
not-some false a e = refl

not-good : (y : Bool) → Err Damaged ≡ not_read y → y ≡ true
not-good true e = refl
not-good false e = cc

not-bad : {P : Type 0} (y : Bool) (a : Read) → Err Damaged ≡ cond y (Ok a) (not_read false) → P
not-bad true a e = absurd (cc)
not-bad false a e = absurd (cc)

not-none : {P : Type 0} (y : Bool) (x : Read) → Ok x ≡ not_read y → P
not-none true x e = absurd (cc)
not-none false x e = absurd (cc)

is-read : (y : Bool) (a x : Read) → Ok x ≡ cond y (Ok a) (not_read false) → (y ≡ true) × (x ≡ a)
is-read true a x e = (refl, cc)
is-read false a x e = absurd (cc)

-- ---- on the page, by what reading gives
module _ (d : Desk) (ask : Ask) (code out : List ℕ) (i : ℕ) (t : StoodTo d ask.key (sizes ask code) 2 i)
    (page : Page)
    (at : page_of (stand d ask.key) ≡ page) (r : Result Read Fault) (after : List ℕ)
    (b : BandFound page.width ask.rows page.table page.last code out r after) where
  abbrev fits : Bool
  fits = rows_fit page.width ask.rows out

  on : number band_of_code d (reads ask code out)
      ≡ refusal (row 9 (not fits) ∷ row 15 (marked code)
      ∷ row 10 (not (given (found_in band_of_code page ask.rows code))) ∷ [])
  unfolding rows_fit
  on =
      read_number d ask code out ∙ t.rest _ ∙ ap (λ (p : Page). refusal (on_page ask code out p)) at
      ∙ ap (λ (x : Bool). refusal (row 9 x ∷ row 15 (marked code)
      ∷ row 10 (not (given (found_in band_of_code page ask.rows code))) ∷ []))
      (over (length out) (ask.rows * row_bytes page.width))

  -- ---- without room
  module _ (full : r ≡ Err NoRoom) where
    no-room : fits ≡ false
    unfolding read_answer
    no-room = go b.found (sym full ∙ b.answer)
      where
        go : (f : Option (List ℕ)) → Err NoRoom ≡ read_answer f page.width ask.rows page.table page.last out
            → fits ≡ false
        go none e = not-room fits e
        go (some band) e = not-some fits _ e

    pub read-room : number band_of_code d (reads ask code out) ≡ 9
    read-room = on ∙ here _ _ (ap not no-room)

    pub read-full : after ≡ cleared out
    unfolding read_out
    read-full = b.lent ∙ go b.found
      where
        go : (f : Option (List ℕ)) → read_out f page.width ask.rows out ≡ cleared out
        go none = refl
        go (some band) = rw no-room

  -- ---- with room, what is found decides
  module _ (room : fits ≡ true) where
    found-is : found_in band_of_code page ask.rows code ≡ b.found
    unfolding found_in
    found-is = sym (right-found page.width ask.rows page.table.entries page.last code b.found (b.right room))

    told : number band_of_code d (reads ask code out)
        ≡ refusal (row 15 (marked code) ∷ row 10 (not (given b.found)) ∷ [])
    told =
        on ∙ past _ _ (ap not room)
        ∙ ap (λ (f : Option (List ℕ)). refusal (row 15 (marked code) ∷ row 10 (not (given f)) ∷ [])) found-is

  -- nothing was found
  module _ (bad : r ≡ Err Damaged) where
    nothing : (fits ≡ true) × (b.found ≡ none)
    unfolding read_answer
    nothing = go b.found (sym bad ∙ b.answer)
      where
        go : (f : Option (List ℕ)) → Err Damaged ≡ read_answer f page.width ask.rows page.table page.last out
            → (fits ≡ true) × (f ≡ none)
        go none e = (not-good fits e, refl)
        go (some band) e = not-bad fits _ e

    pub read-damaged : number band_of_code d (reads ask code out) ≡ damage (marked code)
    unfolding refusal
    read-damaged =
        told nothing.0
        ∙ ap (λ (f : Option (List ℕ)). refusal (row 15 (marked code) ∷ row 10 (not (given f)) ∷ [])) nothing.1

    pub damaged-out : after ≡ cleared out
    unfolding read_out
    damaged-out = b.lent ∙ ap (λ (f : Option (List ℕ)). read_out f page.width ask.rows out) nothing.1

  -- what reading gives, with a band
  abbrev pub answered : List ℕ → Read
  answered band =
      let w : Written = band_of page ask.rows band in
      record {
        length = length band;
        shifts = w.shifts;
        revisits = w.revisits;
        table = record { entries = w.table };
        last = w.last;
      }

  module _ (x : Read) (good : r ≡ Ok x) where
    -- the band that was found
    pub band : List ℕ
    band = or_else b.found []

    gave : (fits ≡ true) × (b.found ≡ some band) × (x ≡ answered band)
    unfolding read_answer band_of band
    gave = go b.found (sym good ∙ b.answer)
      where
        go : (f : Option (List ℕ)) → Ok x ≡ read_answer f page.width ask.rows page.table page.last out
            → (fits ≡ true) × (f ≡ some (or_else f [])) × (x ≡ answered (or_else f []))
        go none e = not-none fits x e
        go (some l) e = let g = is-read fits _ x e in (g.0, refl, g.1)

    unmarked : marked code ≡ false
    unmarked =
        found-unmarked page.width ask.rows page.table.entries page.last code band
        (subst (Right page.width ask.rows page.table.entries page.last code) gave.1 (b.right gave.0))

    pub read-end : number band_of_code d (reads ask code out) ≡ 0
    read-end = told gave.0 ∙ past _ _ unmarked ∙ past _ _ (ap (λ (f : Option (List ℕ)). not (given f)) gave.1) ∙ at-end

    pub read-gave : x ≡ answered band
    read-gave = gave.2

    pub read-lent : after ≡ in_front band out
    unfolding read_out
    read-lent = b.lent ∙ ap (λ (f : Option (List ℕ)). read_out f page.width ask.rows out) gave.1 ∙ rw gave.0

    pub read-effect : effect_on band_of_code d (reads ask code out) ≡ serves page (band_of page ask.rows band) band out
    unfolding effect
    read-effect =
        ap (λ (p : Page). serves p (band_of p ask.rows (band_in band_of_code p ask.rows code))
        (band_in band_of_code p ask.rows code) out) at
        ∙ ap (λ (l : List ℕ). serves page (band_of page ask.rows l) l out)
        (ap (λ (f : Option (List ℕ)). or_else f []) (found-is gave.0 ∙ gave.1))
