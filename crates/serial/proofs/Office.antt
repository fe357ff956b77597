-- The desk as an office: what each call does under its key alone, and the law of its kind. Assumes nothing.
use mathlib.Core.Path.{◌≡◌, refl, sym, ap, ◌∙◌}
use mathlib.Core.Bool.{true}
use mathlib.Core.Option.{Option, some, none}
use Prim.Native.Nat.{ℕ, zero, suc}
use Rattle.ground.proofs.Bools.{no_way}
use Rattle.ground.specs.Options.{given, or_else}
use Rattle.ground.proofs.Options.{mapped}
use Rattle.turns.specs.Service.{Kind, opening, band, closing, abandoning, looking, changing}
use Rattle.turns.proofs.Office.{Cell, Result, refuse, accept, Office, cell, not-accepted}
use Rattle.turns.proofs.OfficeLaws.{Laws, Keeping}
use Rattle.limits.specs.Limits.{max_pages, max_places}
use Rattle.estimate.specs.declared.Table.{Table}
use Rattle.band.specs.Band.{Reader}
use Rattle.desk.specs.declared.Key.{Key}
use Rattle.desk.specs.Desk.{Page}
use Rattle.desk.specs.Places.{no_page, same_key}
use Rattle.desk.proofs.OpenPages.{key-self, key-only}
use Rattle.desk.specs.Refusals.{refusal, lent_after}
use Rattle.desk.specs.Calls.{Call, key_of, lent_to, kind_of}
use Rattle.desk.specs.Standing.{Stand}
use Rattle.desk.specs.Tests.{tests}
use Rattle.desk.specs.Effects.{Change, stays, becomes, afterwards, Effect, effect}
use Rattle.desk.specs.Allowed.{refused_as, done_as}
use Rattle.desk.proofs.KindLaws.{KindLaw, kind-law}
use Rattle.kept.proofs.Stored.{cell_after}
use Rattle.serial.specs.Run.{Output}

abbrev pub DeskCell : Type 0
DeskCell = Cell Table Page

-- the key's cell at a lawful desk with room
abbrev pub meets : DeskCell → Stand
meets x = record { sound = true; page = x.page; learned = x.learned; page_free = true; place_free = true }

abbrev pub refusing : ℕ → Call → Output
refusing n c = record { answer = refused_as n; lent = lent_after n (lent_to c) }

abbrev pub doing : Effect → Output
doing e = record { answer = done_as e; lent = e.lent }

-- refused by its number, or done
unfoldable pub decide : ℕ → Call → Output → DeskCell → Result Output DeskCell
decide zero c o y = accept o y
decide (suc n) c o y = refuse (refusing (suc n) c)

module _ (R : Reader) where
  unfoldable pub act : Call → DeskCell → Result Output DeskCell
  act c x = decide (refusal (tests R.finds c (meets x))) c (doing (effect R.finds c (meets x)))
      (cell_after x (effect R.finds c
      (meets x)).page (effect R.finds c (meets x)).learned)

  abbrev pub bureau : Office
  bureau =
      record {
        Key = Key;
        same = same_key;
        same_self = key-self;
        same_only = key-only;
        Table = Table;
        Page = Page;
        Call = Call;
        Output = Output;
        key = key_of;
        kind = kind_of;
        working = λ (p : Page). p.table;
        act = act;
        refusal = refusing;
        pages = max_pages;
        places = max_places;
      }

  -- ---- the law of each kind
  decided : (n : ℕ) (c : Call) (o p : Output) (y z : DeskCell) → decide n c o y ≡ accept p z
      → (n ≡ 0) × (o ≡ p) × (y ≡ z)
  unfolding decide
  decided zero c o p y z e = (refl, cc, cc)
  decided (suc n) c o p y z e = not-accepted e

  taught : (o : Option Page) → given o ≡ true → some (or_else o no_page).table ≡ mapped (λ (p : Page). p.table) o
  taught none g = no_way (sym g)
  taught (some p) g = refl

  module _ (c : Call) (x : DeskCell) (o : Output) (y : DeskCell) (n : refusal (tests R.finds c (meets x)) ≡ 0)
      (p : doing (effect R.finds c
      (meets x)) ≡ o)
      (q : cell_after x (effect R.finds c (meets x)).page (effect R.finds c (meets x)).learned ≡ y) where
    abbrev e : Effect
    e = effect R.finds c (meets x)

    -- what stands under the key then
    page-then : y.page ≡ afterwards x.page e.page
    page-then = ap (λ (z : DeskCell). z.page) (sym q)

    learned-then : (t : Change Table) → e.learned ≡ t → y.learned ≡ afterwards x.learned t
    learned-then t l = ap (λ (z : DeskCell). z.learned) (sym q) ∙ ap (afterwards x.learned) l

    by_kind : (κ : Kind) → KindLaw R.finds κ c (meets x) → Keeping bureau κ c x o y
    unfolding KindLaw Keeping act decide
    by_kind opening l = (l.0 n, learned-then stays l.2, ap given page-then ∙ l.1 n)
    by_kind band l = (l.0 n, learned-then stays l.2, ap given page-then ∙ l.1 n)
    by_kind closing l = (
      l.0 n,
      page-then ∙ ap (afterwards x.page) l.1,
      learned-then (becomes (or_else x.page no_page).table) l.2
          ∙ taught x.page (l.0 n),
    )
    by_kind abandoning l = (learned-then stays l.2, page-then ∙ ap (afterwards x.page) l.1)
    by_kind looking l = (same, again)
      where
        same : y ≡ x
        same = sym q ∙ rw (l.0, l.1)

        again : (r : Option Page) → act c (cell x.learned r) ≡ accept o (cell x.learned r)
        again r = rw ((l.2 r).0, (l.2 r).1, n, l.0, l.1) (ap (λ (u : Output). accept u (cell x.learned r)) p)
    by_kind changing l = (l.0 n, page-then ∙ ap (afterwards x.page) l.1 ∙ l.0 n)

  pub bureau-lawful : Laws bureau
  unfolding act
  bureau-lawful c x o y e = let (n, p, q) = decided _ _ _ _ _ _ e in by_kind c x o y n p q (kind_of c)
      (kind-law R.finds c (meets x))
