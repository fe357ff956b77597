-- Document 01, "The thirty rows of the Q-table": the rows, and the next rows. Assumes nothing.
use Rattle.std.specs.Prelude.{ℕ, ◌+◌, ◌-◌, ◌*◌, ◌/◌, ◌%◌, ◌≤◌, min, Bool, true, false, cond, ◌||◌, List, [], ◌∷◌, get_or, replicate, ltb, eqb}
use Rattle.limits.specs.Limits.{contexts}

-- source document 002, table 1, index 0 to 29
abbrev pub rows : List ℕ
rows =
    0x0AC1 ∷ 0x0A81 ∷ 0x0A01 ∷ 0x0901 ∷ 0x0701 ∷ 0x0681 ∷ 0x0601 ∷ 0x0501 ∷ 0x0481 ∷ 0x0441
    ∷ 0x0381 ∷ 0x0301 ∷ 0x02C1 ∷ 0x0281 ∷ 0x0241 ∷ 0x0181 ∷ 0x0121 ∷ 0x00E1 ∷ 0x00A1 ∷ 0x0071
    ∷ 0x0059 ∷ 0x0053 ∷ 0x0027 ∷ 0x0017 ∷ 0x0013 ∷ 0x000B ∷ 0x0007 ∷ 0x0005 ∷ 0x0003 ∷ 0x0001 ∷ []

-- An entry of a table is 2 × index + sense.
abbrev pub entry_of : ℕ → ℕ → ℕ
entry_of index sense = 2 * index + sense

-- the index of an entry
abbrev pub index_of : ℕ → ℕ
index_of e = e / 2

-- the sense of an entry: the pel value expected
abbrev pub sense_of : ℕ → ℕ
sense_of e = e % 2

-- the row's value (past the table, where no lawful entry is: 1)
unfoldable pub row_of : ℕ → ℕ
row_of e = get_or rows (index_of e) 1

-- After a renormalisation on the expected pel the index rises by 1; 29 stays 29.
unfoldable pub rise : ℕ → ℕ
rise i = min 29 (i + 1)

-- After an unexpected pel the index falls by 1 at rows 1 to 6; by 3 at rows 24, 26 and 28; by 2 at every other row from
-- 7 up. At row 0 it stays 0.
unfoldable pub fall : ℕ → ℕ
fall i = cond (eqb i 0) 0 (cond (ltb i 7) 1 (cond ((eqb i 24 || eqb i 26) || eqb i 28) 3 2))

-- At row 0 the sense flips; no other row flips it.
unfoldable pub flip : ℕ → ℕ → ℕ
flip i sense = cond (eqb i 0) (1 - sense) sense

-- the entry after a renormalisation on the expected pel, and on the other
unfoldable pub next : Bool → ℕ → ℕ
next true e = entry_of (rise (index_of e)) (sense_of e)
next false e = entry_of (index_of e - fall (index_of e)) (flip (index_of e) (sense_of e))

-- a lawful entry has an index of at most 29
abbrev pub LawfulEntry : ℕ → Type 0
LawfulEntry e = index_of e ≤ 29

-- A fresh table has every context at index 0 and sense 0.
unfoldable pub fresh : List ℕ
fresh = replicate contexts 0

-- a lawful table: every index is at most 29
abbrev pub LawfulTable : List ℕ → Type 0
LawfulTable t = (cx : ℕ) → LawfulEntry (get_or t cx 0)
