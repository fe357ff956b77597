-- Rows, contexts and tables, once for every coder: a page under a scheme is a model. Assumes nothing.
use Rattle.std.specs.Prelude.{ℕ, ◌%◌, Bool, cond, List, [], ◌∷◌, ◌++◌, get_or, set, length, eqb}
use Rattle.coder.specs.Writing.{Model}

-- What a coder brings: the context of the pel at x, from the pels of the row above and of this row; the size that an
-- entry stands for;
-- the entry after a pel with a shift, expected or not. An entry's sense is its lowest bit.
pub record Scheme : Type 0 where
  pub template : List ℕ → List ℕ → ℕ → ℕ
  pub size : ℕ → ℕ
  pub next : Bool → ℕ → ℕ

-- the table, the pels of the row above, and the pels of this row so far
pub record Page : Type 0 where
  pub table : List ℕ
  pub above : List ℕ
  pub this : List ℕ

module _ (S : Scheme) (width : ℕ) where
  -- the context of the next pel
  unfoldable pub context_of : Page → ℕ
  context_of m = S.template m.above m.this (length m.this)

  -- the table's entry at that context
  unfoldable pub entry_at : Page → ℕ
  entry_at m = get_or m.table (context_of m) 0

  -- the size that this entry stands for
  unfoldable pub size : Page → ℕ
  size m = S.size (entry_at m)

  -- The sense is the pel value expected.
  unfoldable pub sense : Page → ℕ
  sense m = entry_at m % 2

  -- an entry moves only when there was a shift
  unfoldable pub taught : Page → ℕ → Bool → List ℕ
  taught m p shifted = cond shifted (set m.table (context_of m) (S.next (eqb p (sense m)) (entry_at m))) m.table

  -- a row that is full becomes the row above
  unfoldable pub placed : List ℕ → List ℕ → List ℕ → Page
  placed table above this = cond (eqb (length this) width) (record { table = table; above = this; this = [] })
      (record { table = table; above = above; this = this })

  -- the page after one pel more
  unfoldable pub move : Page → ℕ → Bool → Page
  move m p shifted = placed (taught m p shifted) m.above (m.this ++ (p ∷ []))

  -- a page of that width, as a model
  abbrev pub page : Model
  page = record { State = Page; size = size; sense = sense; move = move }
