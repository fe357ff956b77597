-- What the theorem needs of an office: the law of each kind of call. Assumes nothing.
use mathlib.Core.Path.{◌≡◌, subst}
use mathlib.Core.Bool.{true}
use mathlib.Core.Option.{Option, none}
use Rattle.ground.specs.Options.{given}
use Rattle.ground.proofs.Options.{mapped}
use Rattle.turns.specs.Service.{Kind, opening, band, closing, abandoning, looking, changing}
use Rattle.turns.proofs.Office.{Cell, accept, Office, cell}

-- what an accepted call of that kind makes of its key's cell x: the cell y
unfoldable pub Keeping : (O : Office) → Kind → O.Call → Cell O.Table O.Page → O.Output
    → Cell O.Table O.Page → Type 0
-- an opening: no page before, a page after, the learned table as it was
Keeping O opening c x o y = (x.page ≡ none) × (y.learned ≡ x.learned) × (given y.page ≡ true)
-- a band: a page before and after, the learned table as it was
Keeping O band c x o y = (given x.page ≡ true) × (y.learned ≡ x.learned) × (given y.page ≡ true)
-- a closing: a page before, none after, and its table is the learned one
Keeping O closing c x o y = (given x.page ≡ true) × (y.page ≡ none) × (y.learned ≡ mapped O.working x.page)
-- an abandoning: the page is gone, the learned table as it was
Keeping O abandoning c x o y = (y.learned ≡ x.learned) × (y.page ≡ none)
-- a look: nothing changes, and the page does not matter
Keeping O looking c x o y = (y ≡ x) × ((p : Option O.Page) → O.act c (cell x.learned p) ≡ accept o
    (cell x.learned p))
-- a drop: no page, before or after
Keeping O changing c x o y = (x.page ≡ none) × (y.page ≡ none)

abbrev pub Laws : Office → Type 0
Laws O =
    (c : O.Call) (x : Cell O.Table O.Page) (o : O.Output) (y : Cell O.Table O.Page)
    → O.act c x ≡ accept o y
    → Keeping O (O.kind c) c x o y

pub law-of : (O : Office) → Laws O → (κ : Kind) (c : O.Call) (x : Cell O.Table O.Page) (o : O.Output)
    (y : Cell O.Table O.Page)
    → O.kind c ≡ κ → O.act c x ≡ accept o y → Keeping O κ c x o y
law-of O l κ c x o y q e = subst (λ (k : Kind). Keeping O k c x o y) q (l c x o y e)
