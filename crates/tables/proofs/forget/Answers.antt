-- Drop answers and leaves the desk as document 01 says. Assumes nothing.
use mathlib.Core.Path.{◌≡◌, refl, sym, ap, ◌∙◌}
use mathlib.Core.Bool.{false}
use mathlib.Core.List.{[]}
use Rattle.std.specs.Prelude.{Ok, Err}
use Rattle.std.proofs.lemmas.Result.{err_from_is_err_and}
use Rattle.parts.specs.declared.Sought.TheVariants.{Used, Learned}
use Rattle.parts.specs.Parts.{desk_of}
use Rattle.desk.specs.declared.Refusal.TheVariants.{PageOpen, NoTable}
use Rattle.desk.specs.Places.{is_found, page_found, table_found}
use Rattle.parts.proofs.Lines.{find-pages, find-places}
use Rattle.desk.specs.Calls.{drops}
use Rattle.refusals.proofs.Refusing.{refuses, nothing-done, nothing_lent}
use Rattle.tables.proofs.Tables.{drop-early, drop-opened, drop-untaught, drop-end, drop-done}
use Rattle.tables.proofs.forget.Goals as goal
use Rattle.tables.proofs.forget.Goals.{After-early_refusal, After-is_some, After-find_place-place}

-- ---- whether a page is open
opened : (c : After-is_some) → is_found (page_found (desk_of c.args.desk.now) c.args.key) ≡ c.is_some.result
opened c =
    ap is_found (find-pages c.args.desk.now c.early_refusal.ensures.1 (Used c.args.key)
    ∙ sym c.find_page.ensures.0)
    ∙ sym c.is_some.ensures

is-vacant : (c : After-find_place-place) → is_found (page_found (desk_of c.args.desk.now) c.args.key) ≡ false
is-vacant c = opened (goal.at.After-find_place-place c).After-is_some ∙ c.if-is_some.false

-- ---- where the table is
finds-table : (c : After-find_place-place) →
    table_found (desk_of c.args.desk.now) c.args.key ≡ c.find_place-place.result
finds-table c =
    find-places c.args.desk.now c.early_refusal.ensures.1 (Learned c.args.key)
    ∙ sym c.find_place-place.ensures.0

pub returns-in_err-early_refusal : goal.returns-in_err-early_refusal
returns-in_err-early_refusal c =
    let k = c.args.key in
    let p = c.args.desk.now in
    let gone = err_from_is_err_and c.from_residual.result c.from_residual.ensures.1 in
    refuses p c.early_refusal.ensures.1 (drops k) _ _ []
    (drop-early (desk_of p) k _ c.early_refusal.ensures.0 _ c.in_err-early_refusal.was)
    (gone.1 ∙ ap Err gone.2) (nothing_lent _)

pub returns-then-is_some : goal.returns-then-is_some
returns-then-is_some c =
    let past = goal.at.returns-then-is_some c in
    let k = c.args.key in
    let p = c.args.desk.now in
    refuses p c.early_refusal.ensures.1 (drops k) PageOpen _ []
    (drop-opened (desk_of p) k _ c.early_refusal.ensures.0 _ c.in_ok-early_refusal.was
    (opened past.After-is_some ∙ c.if-is_some.true)) refl (nothing_lent 3)

pub returns-then-is_none : goal.returns-then-is_none
returns-then-is_none c =
    let past = goal.at.returns-then-is_none c in
    let k = c.args.key in
    let p = c.args.desk.now in
    refuses p c.early_refusal.ensures.1 (drops k) NoTable _ []
    (drop-untaught (desk_of p) k _ c.early_refusal.ensures.0 _ c.in_ok-early_refusal.was
    (is-vacant past.After-find_place-place)
    (ap is_found (finds-table past.After-find_place-place) ∙ c.if-is_none.ensures)) refl (nothing_lent 11)

pub returns : goal.returns
returns c =
    let past = goal.at.returns c in
    let k = c.args.key in
    let p = c.args.desk.now in
    drop-done p c.early_refusal.ensures.1 k (Ok c.default.result) c.find_place-place.result c.clear_place.new.self
    (drop-end (desk_of p) k _ c.early_refusal.ensures.0 _ c.in_ok-early_refusal.was
    (is-vacant past.After-find_place-place)
    (ap is_found (finds-table past.After-find_place-place) ∙ c.if-is_none.ensures))
    (sym (finds-table past.After-find_place-place)) c.clear_place.ensures
    (nothing-done _ c.default.result refl c.default.ensures)
