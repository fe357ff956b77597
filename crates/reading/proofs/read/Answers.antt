-- Read answers, leaves the desk and fills the lent buffer as document 01 says. Assumes nothing.
use mathlib.Core.Path.{◌≡◌, refl, sym, ap, ◌∙◌}
use mathlib.Core.Bool.{Bool, true, false, ◌&&◌}
use Prim.Native.Nat.{◌≤◌, ◌<◌}
use lib.Dec.{leb}
use lib.ListN.{length}
use Rattle.std.proofs.lemmas.Result.{err_from_is_err_and}
use Rattle.std.specs.Prelude.{Ok, Err}
use Rattle.limits.specs.Limits.{max_pages, max_rows, max_code}
use Rattle.ground.proofs.Bools.{both}
use Rattle.parts.specs.declared.Parts.{Parts}
use Rattle.parts.specs.Parts.{desk_of, Whole}
use Rattle.desk.specs.declared.Refusal.TheVariants.{NoRoom}
use Rattle.desk.specs.Lawful.{within}
use Rattle.desk.proofs.OpenPages.{LawfulOpen, within_both}
use Rattle.desk.specs.Calls.{reads}
use Rattle.desk.specs.Standing.{stand, page_of}
use Rattle.desk.specs.Tests.{band_of}
use Rattle.desk.specs.Refusals.{zeroing}
use Rattle.marker.specs.Marker.{marked}
use Rattle.reader.specs.declared.Read.{Read}
use Rattle.refusals.proofs.Refusing.{StoodTo, turned-to, standing-to, refuses, keeps, clears}
use Rattle.refusals.proofs.Served.{page_in, page-is, open_in, band-done}
use Rattle.reading.proofs.ReadAnswers.{sizes, damage-clears, read_number, read-room, read-full}
use Rattle.reading.proofs.ReadAnswers.{read-damaged, damaged-out}
use Rattle.reading.proofs.ReadAnswers.{band, read-end, read-gave, read-lent, read-effect}
use Rattle.reading.proofs.read.Goals as goal
use Rattle.reading.proofs.read.Goals.{After-page_to, In_ok-i, Start, then-in_range, else-in_range}

-- the desk that it is asked of, the test of its sizes, and the page that it stands on
abbrev parts : Start → Parts
parts c = c.args.desk.now

abbrev fits : Start → Bool
fits c = sizes c.args.ask c.args.code.now

whole : (c : After-page_to) → Whole (parts (goal.at.After-page_to c).Start)
whole c = c.page_to.ensures.2

is-sized : (c : After-page_to) → c.if-in_range.sized ≡ fits (goal.at.After-page_to c).Start
is-sized c =
    let is = λ (y : Bool) (e : c.in_range.result ≡ y). ap (λ (b : Bool). b && leb (length c.args.code.now) max_code)
    (sym e ∙ c.in_range.ensures) in
    elim c.if-in_range.branch [
      | then-in_range w ↦ w.sized-is ∙ is true w.if-in_range.true
      | else-in_range w ↦ w.sized-is ∙ w.if-in_range.false ∙ is false w.if-in_range.false
    ]

there : (c : In_ok-i) →
    let s = (goal.at.In_ok-i c).Start in
    StoodTo (desk_of (parts s)) c.args.ask.key (fits s) 2 c.in_ok-i.i
there c =
    let past = goal.at.In_ok-i c in
    standing-to (parts past.Start) (whole past.After-page_to) c.args.ask.key (fits past.Start) 2 c.page_to.result _
    (is-sized past.After-page_to) c.page_to.ensures.0 _ c.in_ok-i.was

slot-within : (c : In_ok-i) → c.in_ok-i.i < max_pages
slot-within c = rw c.in_ok-i.was at c.page_to.ensures.1

opened : (c : In_ok-i) → LawfulOpen (page_in (parts (goal.at.In_ok-i c).Start) c.in_ok-i.i)
opened c =
    let past = goal.at.In_ok-i c in
    open_in (parts past.Start) (whole past.After-page_to) c.args.ask.key (fits past.Start) c.in_ok-i.i (there c).stood

met : (c : In_ok-i) →
    let p = parts (goal.at.In_ok-i c).Start in
    page_of (stand (desk_of p) c.args.ask.key) ≡ page_in p c.in_ok-i.i
met c =
    let past = goal.at.In_ok-i c in
    page-is (parts past.Start) (whole past.After-page_to) c.args.ask.key (fits past.Start) c.in_ok-i.i (there c).stood

ranged : (c : In_ok-i) →
    let n = c.args.ask.rows in
    (1 ≤ n) × (n ≤ max_rows)
ranged c =
    let n = c.args.ask.rows in
    within_both 1 n max_rows (both (within 1 n max_rows) _ (there c).stood.fits).0

-- ---- the page
pub returns-in_err-i : goal.returns-in_err-i
returns-in_err-i c =
    let past = goal.at.returns-in_err-i c in
    let a = c.args in
    let p = parts past.Start in
    let gone = err_from_is_err_and c.from_residual.result c.from_residual.ensures.1 in
    let w = turned-to p (whole past.After-page_to) a.ask.key (fits past.Start) 2 c.page_to.result _
    (is-sized past.After-page_to) c.page_to.ensures.0 _ c.in_err-i.was in
    rw (gone.1, gone.2) (refuses p (whole past.After-page_to) (reads a.ask a.code.now a.out.now) _ (Err _) _
    (read_number (desk_of p) a.ask a.code.now a.out.now ∙ w.1 _) refl (keeps _ a.out.now w.0))

-- ---- the band
pub read_band-requires : goal.read_band-requires
read_band-requires c =
    let past = goal.at.read_band-requires c in
    let h = opened past.In_ok-i in
    let r = ranged past.In_ok-i in (h.some, h.small, r.0, r.1, h.table)

pub returns-in-Err-NoRoom : goal.returns-in-Err-NoRoom
returns-in-Err-NoRoom c =
    let past = goal.at.returns-in-Err-NoRoom c in
    let a = c.args in
    let p = parts past.Start in
    let i = c.in_ok-i.i in
    let t = there past.In_ok-i in
    let m = met past.In_ok-i in
    let r = c.read_band in
    let e = rw c.in-Err-NoRoom.field-0-is at c.in-Err-NoRoom.is in
    refuses p (whole past.After-page_to) (reads a.ask a.code.now a.out.now) NoRoom (Err NoRoom) _
    (read-room (desk_of p) a.ask a.code.now a.out.now i t (page_in p i) m r.result _ r.ensures e) refl
    (read-full (desk_of p) a.ask a.code.now a.out.now i t (page_in p i) m r.result _ r.ensures e
    ∙ clears 9 a.out.now refl)

pub returns-in-Err-Damaged : goal.returns-in-Err-Damaged
returns-in-Err-Damaged c =
    let past = goal.at.returns-in-Err-Damaged c in
    let a = c.args in
    let p = parts past.Start in
    let i = c.in_ok-i.i in
    let t = there past.In_ok-i in
    let m = met past.In_ok-i in
    let r = c.read_band in
    let e = rw c.in-Err-Damaged.field-0-is at c.in-Err-Damaged.is in
    refuses p (whole past.After-page_to) (reads a.ask a.code.now a.out.now) c.fault.result (Err c.fault.result) _
    (read-damaged (desk_of p) a.ask a.code.now a.out.now i t (page_in p i) m r.result _ r.ensures e
    ∙ sym c.fault.ensures) refl
    (damaged-out (desk_of p) a.ask a.code.now a.out.now i t (page_in p i) m r.result _ r.ensures e
    ∙ clears _ a.out.now (ap zeroing c.fault.ensures ∙ damage-clears (marked a.code.now)))

pub returns : goal.returns
returns c =
    let past = goal.at.returns c in
    let a = c.args in
    let p = parts past.Start in
    let i = c.in_ok-i.i in
    let t = there past.In_ok-i in
    let m = met past.In_ok-i in
    let r = c.read_band in
    let x = c.in-Ok.read in
    let o = c.in-Ok.is in
    let l = band (desk_of p) a.ask a.code.now a.out.now i t (page_in p i) m r.result _ r.ensures x o in
    let g = read-gave (desk_of p) a.ask a.code.now a.out.now i t (page_in p i) m r.result _ r.ensures x o in
    band-done p (whole past.After-page_to) a.ask.key (fits past.Start) i t.stood (reads a.ask a.code.now a.out.now)
    (band_of (page_in p i) a.ask.rows l) l a.out.now _ _ _ refl
    (read-end (desk_of p) a.ask a.code.now a.out.now i t (page_in p i) m r.result _ r.ensures x o)
    (read-effect (desk_of p) a.ask a.code.now a.out.now i t (page_in p i) m r.result _ r.ensures x o)
    (rw g at c.put_page.ensures)
    (ap (λ (y : Read). Ok (record { length = y.length; shifts = y.shifts; revisits = y.revisits })) g)
    (read-lent (desk_of p) a.ask a.code.now a.out.now i t (page_in p i) m r.result _ r.ensures x o)
