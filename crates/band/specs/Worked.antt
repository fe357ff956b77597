-- Document 01, "Bands worked by hand": P1 to P11, rows of a single table under a single claim. Assumes nothing.
use Rattle.std.specs.Prelude.{◌≡◌, ℕ, ◌*◌, false, List, [], ◌∷◌, length}
use Rattle.estimate.specs.Estimate.{next, entry_of, fresh}
use Rattle.template.specs.Pels.{row_bytes}
use Rattle.band.specs.Band.{written, white}

-- A page so far: its table and last row.
pub record SoFar : Type 0 where
  pub table : List ℕ
  pub last : List ℕ

-- a new page: the fresh table, last row white
abbrev pub new : SoFar
new = record { table = fresh; last = white }

-- the page after a band of one row
abbrev pub then : ℕ → SoFar → List ℕ → SoFar
then width page band =
    record {
      table = (written width 1 page.table page.last band).table;
      last = (written width 1 page.table page.last band).last;
    }

-- A row of document 01's table: a band (width, rows, page so far, packed pels, code, S); an index and a sense, and what
-- they are after an unexpected pel; a code that no band of that width and height, on a new page, is written as.
pub data Case : Type 0 where
  band : ℕ → ℕ → SoFar → List ℕ → List ℕ → ℕ → Case
  unexpected : ℕ → ℕ → ℕ → ℕ → Case
  damaged : ℕ → ℕ → List ℕ → Case

-- what a row claims
abbrev pub Holds : Case → Type 0
Holds (band width rows page pels c s) =
    ((written width rows page.table page.last pels).code ≡ c)
    × ((written width rows page.table page.last pels).shifts ≡ s)
Holds (unexpected i s i' s') = next false (entry_of i s) ≡ entry_of i' s'
Holds (damaged width rows c) =
    (pels : List ℕ)
    → length pels ≡ rows * row_bytes width
    → (written width rows new.table new.last pels).code ≡ c
    → ⊥

-- every row holds
abbrev pub All : List Case → Type 0
All [] = Unit {0}
All (k ∷ ks) = Holds k × All ks

-- document 01's table: P1 to P9; P10, for both senses; P11
abbrev pub cases : List Case
cases =
    band 1 1 new (0x00 ∷ []) (0xAC ∷ 0x10 ∷ []) 2
    ∷ band 1 1 new (0x80 ∷ []) (0x00 ∷ 0x00 ∷ []) 1
    ∷ band 2 1 new (0x00 ∷ []) (0xD6 ∷ 0x14 ∷ []) 3
    ∷ band 2 1 new (0x40 ∷ []) (0xAC ∷ 0x10 ∷ []) 3
    ∷ band 2 1 new (0x80 ∷ []) (0x56 ∷ 0x08 ∷ []) 2
    ∷ band 2 1 new (0xC0 ∷ []) (0x00 ∷ 0x00 ∷ []) 2
    ∷ band 1 1 (then 1 new (0x00 ∷ [])) (0x00 ∷ []) (0xA8 ∷ 0x10 ∷ []) 2
    ∷ band 1 2 new (0x00 ∷ 0x00 ∷ []) (0xD6 ∷ 0x14 ∷ []) 3
    ∷ band 1 1 (then 1 new (0x80 ∷ [])) (0x80 ∷ []) (0x00 ∷ 0x00 ∷ []) 1
    ∷ unexpected 29 0 27 0
    ∷ unexpected 29 1 27 1
    ∷ unexpected 24 0 21 0
    ∷ unexpected 24 1 21 1
    ∷ unexpected 0 0 0 1
    ∷ unexpected 0 1 0 0
    ∷ damaged 1 1 (0xAC ∷ 0x11 ∷ [])
    ∷ damaged 1 1 (0x00 ∷ 0x00 ∷ 0x00 ∷ [])
    ∷ damaged 1 1 []
    ∷ []
