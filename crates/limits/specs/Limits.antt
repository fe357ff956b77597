-- Document 01's limits. Assumes nothing.
use Rattle.std.specs.Prelude.{ℕ, ◌+◌, ◌*◌, ◌/◌}

-- A school number and a class number, each 1 to 65,535.
abbrev pub max_key : ℕ
max_key = 65535

-- At most 4 open pages.
abbrev pub max_pages : ℕ
max_pages = 4

-- At most 8 class places.
abbrev pub max_places : ℕ
max_places = 8

-- Width 1 to 2,048.
abbrev pub max_width : ℕ
max_width = 2048

-- A band has 1 to 64 rows.
abbrev pub max_rows : ℕ
max_rows = 64

-- A code has at most 32,768 bytes.
abbrev pub max_code : ℕ
max_code = 32768

-- A fresh table has 128 contexts.
abbrev pub contexts : ℕ
contexts = 128

-- the bytes that a page keeps of its last row: those of the widest row
abbrev pub last_bytes : ℕ
last_bytes = (max_width + 7) / 8

-- ---- what a band comes to at most
-- the bytes of its rows
abbrev pub max_band : ℕ
max_band = max_rows * last_bytes

-- how far a place in its code goes: a pel settles at most two bytes, and the end at most six more
abbrev pub farthest : ℕ
farthest = 2 * max_width * max_rows + 6

-- its shifts: a pel takes at most twelve
abbrev pub max_shifts : ℕ
max_shifts = 12 * max_width * max_rows
