-- Look answers and shows the table as document 01 says. Assumes nothing.
use mathlib.Core.Path.{◌≡◌, refl, sym, ap, ◌∙◌}
use mathlib.Core.Bool.{true}
use mathlib.Core.List.{[]}
use lib.ListN.{length, get_or}
use borrow.Author.Rules.{rules}
use Rattle.std.proofs.lemmas.List.{length-take-le}
use Rattle.limits.specs.Limits.{contexts}
use Rattle.store.specs.Store.{in_front}
use native.Mathlib.Omega.{arith}
use Rattle.std.specs.Prelude.{Err, Some}
use Rattle.std.proofs.lemmas.Result.{err_from_is_err_and}
use Rattle.parts.specs.declared.Sought.TheVariants.{Learned}
use Rattle.parts.specs.Parts.{desk_of}
use Rattle.desk.specs.declared.Refusal.TheVariants.{NoTable, NoRoom}
use Rattle.desk.specs.Places.{table_found}
use Rattle.parts.proofs.Lines.{find-places}
use Rattle.desk.specs.Calls.{looks}
use Rattle.refusals.proofs.Refusing.{early-here, refuses, keeps, clears}
use Rattle.tables.proofs.Tables.{look-early, look-untaught, look-room, look-end, look-done}
use Rattle.tables.proofs.look.Goals as goal
use Rattle.tables.proofs.look.Goals.{After-early_refusal, After-find_place, In-Some}

-- ---- where the table is
finds-table : (c : After-find_place) → table_found (desk_of c.args.desk.now) c.args.key ≡ c.find_place.result
finds-table c =
    find-places c.args.desk.now c.early_refusal.ensures.1 (Learned c.args.key)
    ∙ sym c.find_place.ensures.0

is-taught : (c : In-Some) → table_found (desk_of c.args.desk.now) c.args.key ≡ Some c.in-Some.i
is-taught c = finds-table (goal.at.In-Some c).After-find_place ∙ c.in-Some.is

pub returns-in_err-early_refusal : goal.returns-in_err-early_refusal
returns-in_err-early_refusal c =
    let k = c.args.key in
    let p = c.args.desk.now in
    let r = c.early_refusal in
    let gone = err_from_is_err_and c.from_residual.result c.from_residual.ensures.1 in
    refuses p r.ensures.1 (looks k c.args.out.now) _ _ _
    (look-early (desk_of p) k _ r.ensures.0 c.args.out.now _ c.in_err-early_refusal.was)
    (gone.1 ∙ ap Err gone.2)
    (keeps _ c.args.out.now (early-here (desk_of p) k true _ r.ensures.0 _ c.in_err-early_refusal.was).0)

pub returns-in_default : goal.returns-in_default
returns-in_default c =
    let past = goal.at.returns-in_default c in
    let k = c.args.key in
    let p = c.args.desk.now in
    refuses p c.early_refusal.ensures.1 (looks k c.args.out.now) NoTable _ _
    (look-untaught (desk_of p) k _ c.early_refusal.ensures.0 c.args.out.now _ c.in_ok-early_refusal.was
    (finds-table past.After-find_place ∙ c.in_default.is)) refl (keeps NoTable c.args.out.now refl)

-- ---- the lent output
pub returns-then-out-lt-CONTEXTS : goal.returns-then-out-lt-CONTEXTS
returns-then-out-lt-CONTEXTS c =
    let past = goal.at.returns-then-out-lt-CONTEXTS c in
    let k = c.args.key in
    let p = c.args.desk.now in
    refuses p c.early_refusal.ensures.1 (looks k c.args.out.now) NoRoom _ _
    (look-room (desk_of p) k _ c.early_refusal.ensures.0 c.args.out.now _ c.in_ok-early_refusal.was _
    (is-taught past.In-Some) (omega (arith, c.if-out-lt-CONTEXTS.true)))
    refl (c.clear.ensures ∙ clears 9 c.args.out.now refl)

pub copy_from_slice-requires : goal.copy_from_slice-requires
copy_from_slice-requires c =
    let e : length (get_or c.args.desk.now.learned c.in-Some.i []) ≡ contexts = search rules in
    length-take-le contexts c.args.out.now c.if-out-lt-CONTEXTS.false ∙ sym e

pub returns : goal.returns
unfolding in_front
returns c =
    let e : length (get_or c.args.desk.now.learned c.in-Some.i []) ≡ contexts = search rules in
    let past = goal.at.returns c in
    let k = c.args.key in
    let p = c.args.desk.now in
    look-done p c.early_refusal.ensures.1 k (record c.default.result { length = contexts }) c.args.out.now _ c.in-Some.i
    (is-taught past.In-Some)
    (look-end (desk_of p) k _ c.early_refusal.ensures.0 c.args.out.now _ c.in_ok-early_refusal.was _
    (is-taught past.In-Some) (omega (arith, c.if-out-lt-CONTEXTS.false)))
    refl c.default.ensures.1 (rw (c.copy_from_slice.ensures.after, e) refl)
