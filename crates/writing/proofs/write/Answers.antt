-- Write answers, leaves the desk and fills the lent buffer as document 01 says. Assumes nothing.
use mathlib.Core.Path.{◌≡◌, refl, sym, ap, ◌∙◌}
use mathlib.Core.Bool.{Bool, true}
use Prim.Native.Nat.{ℕ, ◌*◌, ◌≤◌, ◌<◌}
use native.Mathlib.Nat.{mul-le-mul}
use native.Mathlib.Omega.{arith}
use lib.ListN.{length}
use Rattle.std.proofs.lemmas.Result.{err_from_is_err_and}
use Rattle.std.specs.Prelude.{Ok, Err}
use Rattle.limits.specs.Limits.{max_pages, max_rows, last_bytes}
use Rattle.parts.specs.declared.Parts.{Parts}
use Rattle.parts.specs.Parts.{desk_of, Whole}
use Rattle.desk.specs.declared.Refusal.TheVariants.{WrongSize, PaddingBit, NoRoom}
use Rattle.desk.specs.Lawful.{within}
use Rattle.desk.proofs.OpenPages.{LawfulOpen, within_both}
use Rattle.desk.specs.Calls.{writes}
use Rattle.desk.specs.Standing.{stand, page_of}
use Rattle.desk.specs.Tests.{band_of}
use Rattle.refusals.proofs.Refusing.{StoodTo, turned-to, standing-to, refuses, keeps, clears}
use Rattle.refusals.proofs.Served.{page_in, page-is, open_in, band-done}
use Rattle.template.specs.Pels.{row_bytes, band_padded}
use Rattle.writer.specs.declared.Wrote.{Wrote}
use Rattle.writing.proofs.WriteAnswers.{write-number, write-pels, write-padding, write-room, cleared-out}
use Rattle.writing.proofs.WriteAnswers.{write-end, write-gave, write-lent, write-effect}
use Rattle.writing.proofs.write.Goals as goal
use Rattle.writing.proofs.write.Goals.{After-page_to, Else-not-is_padded, Else-pels-rows, In_ok-i, Start}

-- the desk that it is asked of, the test of its size, and the page that it stands on
abbrev parts : Start → Parts
parts c = c.args.desk.now

abbrev fits : Start → Bool
fits c = within 1 c.args.ask.rows max_rows

whole : (c : After-page_to) → Whole (parts (goal.at.After-page_to c).Start)
whole c = c.page_to.ensures.2

there : (c : In_ok-i) →
    let s = (goal.at.In_ok-i c).Start in
    StoodTo (desk_of (parts s)) c.args.ask.key (fits s) 1 c.in_ok-i.i
there c =
    let past = goal.at.In_ok-i c in
    standing-to (parts past.Start) (whole past.After-page_to) c.args.ask.key (fits past.Start) 1 c.page_to.result _
    c.in_range-sized.ensures c.page_to.ensures.0 _ c.in_ok-i.was

slot-within : (c : In_ok-i) → c.in_ok-i.i < max_pages
slot-within c = rw c.in_ok-i.was at c.page_to.ensures.1

opened : (c : In_ok-i) → LawfulOpen (page_in (parts (goal.at.In_ok-i c).Start) c.in_ok-i.i)
opened c =
    let past = goal.at.In_ok-i c in
    open_in (parts past.Start) (whole past.After-page_to) c.args.ask.key (fits past.Start) c.in_ok-i.i (there c).stood

met : (c : In_ok-i) →
    let p = parts (goal.at.In_ok-i c).Start in
    page_of (stand (desk_of p) c.args.ask.key) ≡ page_in p c.in_ok-i.i
met c =
    let past = goal.at.In_ok-i c in
    page-is (parts past.Start) (whole past.After-page_to) c.args.ask.key (fits past.Start) c.in_ok-i.i (there c).stood

ranged : (c : In_ok-i) →
    let n = c.args.ask.rows in
    (1 ≤ n) × (n ≤ max_rows)
ranged c = within_both 1 c.args.ask.rows max_rows (there c).stood.fits

is-exact : (c : Else-pels-rows) →
    let a = c.args in
    length a.pels.now ≡ a.ask.rows * row_bytes (page_in a.desk.now c.in_ok-i.i).width
is-exact c =
    let a = c.args in
    c.if-pels-rows.false ∙ ap (λ (m : ℕ). a.ask.rows * m) c.row_bytes.ensures

is-padded : (c : Else-not-is_padded) →
    let a = c.args in
    band_padded (page_in a.desk.now c.in_ok-i.i).width a.pels.now a.ask.rows ≡ true
is-padded c = sym c.is_padded.ensures ∙ c.if-not-is_padded.false

-- ---- the page
pub returns-in_err-i : goal.returns-in_err-i
returns-in_err-i c =
    let past = goal.at.returns-in_err-i c in
    let a = c.args in
    let p = parts past.Start in
    let gone = err_from_is_err_and c.from_residual.result c.from_residual.ensures.1 in
    let w = turned-to p (whole past.After-page_to) a.ask.key (fits past.Start) 1 c.page_to.result _
    c.in_range-sized.ensures c.page_to.ensures.0 _ c.in_err-i.was in
    rw (gone.1, gone.2) (refuses p (whole past.After-page_to) (writes a.ask a.pels.now a.out.now) _ (Err _) _
    (write-number (desk_of p) a.ask a.pels.now a.out.now ∙ w.1 _) refl (keeps _ a.out.now w.0))

-- ---- the pels' length
pub row_bytes-requires : goal.row_bytes-requires
row_bytes-requires c = let h = opened (goal.at.row_bytes-requires c).In_ok-i in omega (arith, h.small)

pub overflow_mul-rows : goal.overflow_mul-rows
overflow_mul-rows c =
    let past = goal.at.overflow_mul-rows c in
    let h = opened past.In_ok-i in
    let n = c.args.ask.rows in
    let m = c.row_bytes.result in
    let s : m ≤ last_bytes = omega (arith, c.row_bytes.ensures, h.small) in
    omega (arith, mul-le-mul {n₁ = n} {m₁ = m} {n₂ = max_rows} {m₂ = last_bytes} (ranged past.In_ok-i).1 s)

pub returns-then-pels-rows : goal.returns-then-pels-rows
returns-then-pels-rows c =
    let past = goal.at.returns-then-pels-rows c in
    let a = c.args in
    let p = parts past.Start in
    refuses p (whole past.After-page_to) (writes a.ask a.pels.now a.out.now) WrongSize (Err WrongSize) _
    (write-pels (desk_of p) a.ask a.pels.now a.out.now _ (there past.In_ok-i) _ (met past.In_ok-i)
    (λ e. c.if-pels-rows.true (e ∙ ap (λ (k : ℕ). a.ask.rows * k) (sym c.row_bytes.ensures)))) refl
    (keeps WrongSize a.out.now refl)

-- ---- their padding
pub invariant_of-band : goal.invariant_of-band
invariant_of-band c =
    let past = goal.at.invariant_of-band c in
    let h = opened past.In_ok-i in
    record { some = h.some; narrow = h.small; few = (ranged past.In_ok-i).1; whole = is-exact c }

pub returns-then-not-is_padded : goal.returns-then-not-is_padded
returns-then-not-is_padded c =
    let past = goal.at.returns-then-not-is_padded c in
    let a = c.args in
    let p = parts past.Start in
    refuses p (whole past.After-page_to) (writes a.ask a.pels.now a.out.now) PaddingBit (Err PaddingBit) _
    (write-padding (desk_of p) a.ask a.pels.now a.out.now _ (there past.In_ok-i) _ (met past.In_ok-i)
    (is-exact past.Else-pels-rows)
    (sym c.is_padded.ensures ∙ c.if-not-is_padded.true)) refl
    (keeps PaddingBit a.out.now refl)

-- ---- the band
pub write_band-requires : goal.write_band-requires
write_band-requires c =
    let past = goal.at.write_band-requires c in
    let h = opened past.In_ok-i in
    let r = ranged past.In_ok-i in (r.0, h.table)

pub returns-in_default : goal.returns-in_default
unfolding band_of
returns-in_default c =
    let past = goal.at.returns-in_default c in
    let a = c.args in
    let p = parts past.Start in
    let w = c.write_band in
    let l = is-exact past.Else-pels-rows in
    let q = is-padded past.Else-not-is_padded in
    let t = there past.In_ok-i in
    let m = met past.In_ok-i in
    refuses p (whole past.After-page_to) (writes a.ask a.pels.now a.out.now) NoRoom (Err NoRoom) _
    (write-room (desk_of p) a.ask a.pels.now a.out.now _ t _ m l q w.result w.ensures.0 c.in_default.is) refl
    (w.ensures.1 ∙ cleared-out (desk_of p) a.ask a.pels.now a.out.now _ t _ m l q w.result w.ensures.0 c.in_default.is
    ∙ clears 9 a.out.now refl)

pub returns : goal.returns
unfolding band_of
returns c =
    let past = goal.at.returns c in
    let a = c.args in
    let p = parts past.Start in
    let i = c.in_ok-i.i in
    let t = there past.In_ok-i in
    let m = met past.In_ok-i in
    let l = is-exact past.Else-pels-rows in
    let q = is-padded past.Else-not-is_padded in
    let w = c.write_band in
    let o = c.in-Some.is in
    let x = c.in-Some.wrote in
    let g = write-gave (desk_of p) a.ask a.pels.now a.out.now i t (page_in p i) m l q w.result w.ensures.0 x o in
    band-done p (whole past.After-page_to) a.ask.key (fits past.Start) i t.stood (writes a.ask a.pels.now a.out.now)
    (band_of (page_in p i) a.ask.rows a.pels.now) _ a.out.now _ _ _ refl
    (write-end (desk_of p) a.ask a.pels.now a.out.now i t (page_in p i) m l q w.result w.ensures.0 x o)
    (write-effect (desk_of p) a.ask a.pels.now a.out.now i t (page_in p i) m)
    (rw g at c.put_page.ensures)
    (ap (λ (y : Wrote). Ok (record { length = y.length; shifts = y.shifts; revisits = y.revisits })) g)
    (w.ensures.1 ∙ write-lent (desk_of p) a.ask a.pels.now a.out.now i t (page_in p i) m l q w.result w.ensures.0 x o)
