-- Pels coded by any engine: one in its context, many one after the other, their bytes in a buffer. Assumes nothing.
use Rattle.std.specs.Prelude.{◌≡◌, ℕ, ◌+◌, ◌*◌, ◌≤◌, Bool, false, cond, List, [], ◌++◌, get_or, length}
use Rattle.coder.specs.Writing.{Model, Stage, after}
use Rattle.coder.specs.Page.{Page, placed, page}
use Rattle.store.specs.Store.{stores}
use Rattle.engine.specs.Engine.{Engine}

-- what a pel gives: the registers, its context's entry, whether its context's estimate was revisited, the bytes settled
-- and how many they are
pub record Gives (R : Type 0) : Type 0 where
  pub registers : R
  pub entry : ℕ
  pub revisited : Bool
  pub settled : ℕ
  pub bytes : List ℕ

-- a row begins, under the row above
abbrev pub row_page : List ℕ → List ℕ → Page
row_page table above = record { table = table; above = above; this = [] }

module _ (E : Engine) where
  -- the shifts so far
  abbrev pub shifts_of : E.Registers → ℕ
  shifts_of c = E.writer.count (E.stands c [])

  -- whether a pel shifts, in a context whose entry is e
  abbrev pub shifted_by : E.Registers → ℕ → Bool → Bool
  shifted_by c e b = E.writer.moves (E.scheme.size e) b (E.stands c [])

  -- a lawful table: every entry is lawful
  abbrev pub LawfulTable : List ℕ → Type 0
  LawfulTable t = (cx : ℕ) → E.Lawful (get_or t cx 0)

  -- one pel in a context whose entry is e: it is put in, and the entry moves only when there was a shift
  pub record Pelled (c : E.Registers) (e : ℕ) (b : Bool) (v : Gives E.Registers) : Type 0 where
    pub puts : E.Puts (E.scheme.size e) b c v.registers v.bytes
    pub entry : v.entry ≡ cond (shifted_by c e b) (E.scheme.next b e) e
    pub revisited : v.revisited ≡ shifted_by c e b
    pub quiet : v.revisited ≡ false → v.settled ≡ 0
    pub size : length v.bytes ≡ v.settled
    pub few : v.settled ≤ 2

  module _ (width : ℕ) where
    -- a page of that width, as a model
    abbrev pub pages : Model
    pages = page E.scheme width

    -- where a band stands: the page, the writer, the pels revisited
    abbrev pub stage_of : Page → E.writer.State → ℕ → Stage pages E.writer
    stage_of m w n = record { model = m; writer = w; revisits = n }

    -- the page within a row, or with the row that is now full above
    abbrev pub page_of : List ℕ → List ℕ → List ℕ → Page
    page_of table above this = placed E.scheme width table above this

    -- where it stands after these pels
    abbrev pub through : Stage pages E.writer → List ℕ → Stage pages E.writer
    through s ps = after pages E.writer s ps

    -- these pels take the page, the registers and the count of pels revisited from the first to the second, whatever
    -- bytes were settled before, and settle these
    pub record Coded (m₀ : Page) (c₀ : E.Registers) (n₀ : ℕ) (ps : List ℕ) (m : Page) (c : E.Registers) (n : ℕ)
        (settled : List ℕ) : Type 0 where
      pub stage : (xs : List ℕ) → through (stage_of m₀ (E.stands c₀ xs) n₀) ps
          ≡ stage_of m (E.stands c (xs ++ settled)) n
      pub few : length settled ≤ 2 * length ps
      pub lawful : LawfulTable m.table
      pub ready : E.Ready c
      pub count : shifts_of c ≤ shifts_of c₀ + 12 * length ps

    -- and those bytes are stored at their place
    pub record Stored (m₀ : Page) (c₀ : E.Registers) (n₀ : ℕ) (out₀ : List ℕ) (at₀ : ℕ) (ps : List ℕ) (m : Page)
        (c : E.Registers) (n : ℕ) (out : List ℕ) (at : ℕ) : Type 0 where
      pub settled : List ℕ
      pub coded : Coded m₀ c₀ n₀ ps m c n settled
      pub stored : out ≡ stores out₀ at₀ settled
      pub place : at ≡ at₀ + length settled
