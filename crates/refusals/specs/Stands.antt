-- The refusals that calls share, as one function tests them. Assumes nothing.
use Rattle.std.specs.Prelude.{ℕ, ◌<◌, Bool, cond, List, eqb, get_or, Some, None, Result, Ok, Err}
use Rattle.desk.specs.declared.Refusal.{Refusal}
use Rattle.desk.specs.declared.Refusal.TheVariants.{UnlawfulDesk, KeyOutOfRange, WrongSize, NoPage, OtherDirection}
use Rattle.desk.specs.Places.{Found}
use Rattle.parts.specs.declared.PageLine.{PageLine}
use Rattle.parts.specs.Lines.{no_page_line}

-- 12, 1, 6, where one of them holds
abbrev pub early : Bool → Bool → Bool → Result (Unit {0}) Refusal
early good known sized =
    cond good (cond known (cond sized (Ok tt) (Err WrongSize)) (Err KeyOutOfRange)) (Err UnlawfulDesk)

-- the page, or 2
unfoldable pub on_page : Found → Result ℕ Refusal
on_page (Some i) = Ok i
on_page None = Err NoPage

unfoldable pub standing : Bool → Bool → Bool → Found → Result ℕ Refusal
standing good known sized found =
    cond good (cond known (cond sized (on_page found) (Err WrongSize)) (Err KeyOutOfRange)) (Err UnlawfulDesk)

-- 7, where the page is open in the other direction
unfoldable pub standing_to : List PageLine → ℕ → Result ℕ Refusal → Result ℕ Refusal
standing_to pages state (Ok i) = cond (eqb (get_or pages i no_page_line).state state) (Ok i) (Err OtherDirection)
standing_to pages state (Err r) = Err r

-- the page's slot is within
abbrev pub stands_below : ℕ → Result ℕ Refusal → Type 0
stands_below n (Ok i) = i < n
stands_below n (Err r) = Unit {0}
