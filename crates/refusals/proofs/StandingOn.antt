-- The refusals that calls share: where a page stands, where none does, and where it goes the other way. Assumes
-- nothing.
use Prim.Native.Nat.{ℕ}
use mathlib.Core.Path.{◌≡◌, refl, sym, ap}
use mathlib.Core.Logic.{◌≢◌}
use mathlib.Core.Bool.{Bool, true, false}
use mathlib.Core.List.{List}
use lib.ListN.{get_or}
use borrow.Author.Tests.{eq-eqb, ne_eqb}
use Rattle.std.specs.Prelude.{Some, None, Result, Ok, Err, is_ok}
use Rattle.ground.proofs.Bools.{no_way}
use Rattle.desk.specs.declared.Refusal.{Refusal}
use Rattle.desk.specs.declared.Refusal.TheVariants.{NoPage, OtherDirection}
use Rattle.desk.specs.Places.{Found}
use Rattle.parts.specs.declared.PageLine.{PageLine}
use Rattle.parts.specs.Lines.{no_page_line}
use Rattle.refusals.specs.Stands.{on_page, early, standing, standing_to}

-- a page, or the refusal that there is none
pub on_some : (f : Found) (i : ℕ) → f ≡ Some i → Ok i ≡ on_page f
unfolding on_page
on_some f i e = sym (ap on_page e)

pub on_none : (f : Found) → f ≡ None → Err NoPage ≡ on_page f
unfolding on_page
on_none f e = sym (ap on_page e)

-- the same refusal of a call that asks for a slot
abbrev asked : Result (Unit {0}) Refusal → Result ℕ Refusal
asked (Ok u) = Ok 0
asked (Err r) = Err r

-- ---- as it is tested
module _ (good known sized : Bool) (found : Found) where
  pub stopped : (r : Refusal) → Err r ≡ early good known sized → Err r ≡ standing good known sized found
  unfolding standing
  stopped r e = go good known sized e
    where
      go : (g k s : Bool) → Err r ≡ early g k s → Err r ≡ standing g k s found
      go true true true e = no_way (sym (ap is_ok e))
      go true true false e = ap asked e
      go true false s e = ap asked e
      go false k s e = ap asked e

  pub went_on : (u : Unit {0}) → Ok u ≡ early good known sized → on_page found ≡ standing good known sized found
  unfolding standing
  went_on u e = go good known sized e
    where
      go : (g k s : Bool) → Ok u ≡ early g k s → on_page found ≡ standing g k s found
      go true true true e = refl
      go true true false e = no_way (ap is_ok e)
      go true false s e = no_way (ap is_ok e)
      go false k s e = no_way (ap is_ok e)

module _ (pages : List PageLine) (state : ℕ) (s : Result ℕ Refusal) where
  pub away-still : (r : Refusal) → Err r ≡ s → Err r ≡ standing_to pages state s
  unfolding standing_to
  away-still r e = ap (standing_to pages state) e

  module _ (i : ℕ) (e : Ok i ≡ s) where
    pub other_way : (get_or pages i no_page_line).state ≢ state → Err OtherDirection ≡ standing_to pages state s
    unfolding standing_to
    other_way h = rw (sym e, ne_eqb (get_or pages i no_page_line).state state h)

    pub right-way : (get_or pages i no_page_line).state ≡ state → Ok i ≡ standing_to pages state s
    unfolding standing_to
    right-way h = rw (sym e, eq-eqb (get_or pages i no_page_line).state state h)
