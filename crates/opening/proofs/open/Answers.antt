-- Open answers and leaves the desk as document 01 says. Assumes nothing.
use mathlib.Core.Path.{◌≡◌, refl, sym, ap, ◌∙◌}
use mathlib.Core.Bool.{Bool, false}
use mathlib.Core.List.{[]}
use lib.ListN.{get_or}
use Rattle.std.specs.Prelude.{Ok, Err}
use Rattle.std.proofs.lemmas.Result.{err_from_is_err_and}
use Rattle.limits.specs.Limits.{max_width}
use Rattle.band.specs.Band.{white}
use Rattle.parts.specs.declared.PageLine.{PageLine}
use Rattle.parts.specs.declared.Sought.TheVariants.{Used, Learned, Free}
use Rattle.parts.specs.Parts.{as_page, desk_of}
use Rattle.desk.specs.declared.Refusal.TheVariants.{PageOpen, PagesFull}
use Rattle.desk.specs.Places.{is_found, page_found, free_page_found, table_found}
use Rattle.parts.proofs.Lines.{find-pages, find-places}
use Rattle.parts.proofs.Puts.{page-as}
use Rattle.desk.specs.Lawful.{within, lawful_key, lawful}
use Rattle.desk.specs.Calls.{opens}
use Rattle.refusals.specs.Stands.{early}
use Rattle.refusals.proofs.Refusing.{refuses, nothing-done, nothing_lent}
use Rattle.opening.proofs.Opening.{open-early, open-opened, open-pages, open-taught, open-left}
use Rattle.opening.proofs.open.Goals as goal
use Rattle.opening.proofs.open.Goals.{After-early_refusal, After-is_some, After-find_page-2, After-find_place}

-- ---- the first three tests, of this desk and what it is asked
asked : (c : After-early_refusal) →
    c.early_refusal.result
    ≡ early (lawful (desk_of c.args.desk.now)) (lawful_key c.args.ask.key) (within 1 c.args.ask.width max_width)
asked c =
    c.early_refusal.ensures.0
    ∙ ap (λ (s : Bool). early (lawful (desk_of c.args.desk.now)) (lawful_key c.args.ask.key) s) c.in_range-sized.ensures

-- ---- whether a page is open
opened : (c : After-is_some) → is_found (page_found (desk_of c.args.desk.now) c.args.ask.key) ≡ c.is_some.result
opened c =
    ap is_found (find-pages c.args.desk.now c.early_refusal.ensures.1 (Used c.args.ask.key)
    ∙ sym c.find_page.ensures.0)
    ∙ sym c.is_some.ensures

is-vacant : (c : After-find_page-2) → is_found (page_found (desk_of c.args.desk.now) c.args.ask.key) ≡ false
is-vacant c = opened (goal.at.After-find_page-2 c).After-is_some ∙ c.if-is_some.false

-- ---- the slot that it takes
finds-free : (c : After-find_page-2) → free_page_found (desk_of c.args.desk.now) ≡ c.find_page-2.result
finds-free c =
    find-pages c.args.desk.now c.early_refusal.ensures.1 Free ∙ sym c.find_page-2.ensures.0

-- ---- its class's table
finds-table : (c : After-find_place) → table_found (desk_of c.args.desk.now) c.args.ask.key ≡ c.find_place.result
finds-table c =
    find-places c.args.desk.now c.early_refusal.ensures.1 (Learned c.args.ask.key)
    ∙ sym c.find_place.ensures.0

pub returns-in_err-early_refusal : goal.returns-in_err-early_refusal
returns-in_err-early_refusal c =
    let past = goal.at.returns-in_err-early_refusal c in
    let a = c.args in
    let gone = err_from_is_err_and c.from_residual.result c.from_residual.ensures.1 in
    refuses a.desk.now c.early_refusal.ensures.1 (opens a.ask) _ _ []
    (open-early a.desk.now a.ask _ (asked past.After-early_refusal) _ c.in_err-early_refusal.was)
    (gone.1 ∙ ap Err gone.2) (nothing_lent _)

pub returns-then-is_some : goal.returns-then-is_some
returns-then-is_some c =
    let past = goal.at.returns-then-is_some c in
    let a = c.args in
    refuses a.desk.now c.early_refusal.ensures.1 (opens a.ask) PageOpen _ []
    (open-opened a.desk.now a.ask _ (asked past.After-early_refusal) _ c.in_ok-early_refusal.was
    (opened past.After-is_some ∙ c.if-is_some.true)) refl (nothing_lent 3)

pub returns-in_default : goal.returns-in_default
returns-in_default c =
    let past = goal.at.returns-in_default c in
    let a = c.args in
    refuses a.desk.now c.early_refusal.ensures.1 (opens a.ask) PagesFull _ []
    (open-pages a.desk.now a.ask _ (asked past.After-early_refusal) _ c.in_ok-early_refusal.was
    (is-vacant past.After-find_page-2) (finds-free past.After-find_page-2 ∙ c.in_default.is)) refl (nothing_lent 4)

pub returns-in_default-find_place : goal.returns-in_default-find_place
returns-in_default-find_place c =
    let past = goal.at.returns-in_default-find_place c in
    record {
      allowed = open-left c.args.desk.now c.args.ask _ (asked past.After-early_refusal) _ c.in_ok-early_refusal.was
          (is-vacant past.After-find_page-2) _ (finds-free past.After-find_page-2 ∙ c.in-Some.is) _
          (finds-table past.After-find_place ∙ c.in_default-find_place.is) c.open_new.ensures.0;
      whole = c.open_new.ensures.1;
    }

pub returns : goal.returns
unfolding white
returns c =
    let past = goal.at.returns c in
    let a = c.args in
    open-taught a.desk.now a.ask _ (asked past.After-early_refusal) _ c.in_ok-early_refusal.was
    (is-vacant past.After-find_page-2) _ (finds-free past.After-find_page-2 ∙ c.in-Some.is) c.early_refusal.ensures.1
    c.in-Some-find_place.j c.put_page.new.self (Ok c.default.result)
    (nothing-done _ c.default.result refl c.default.ensures)
    (finds-table past.After-find_place ∙ c.in-Some-find_place.is)
    (page-as (ap (λ (x : PageLine). as_page x (get_or a.desk.now.learned c.in-Some-find_place.j []) white)
    c.new_line.ensures) c.put_page.ensures)
