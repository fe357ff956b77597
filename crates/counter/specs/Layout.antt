-- Where the parts of a desk stand among its bytes, counted from the limits. Assumes nothing.
use Rattle.std.specs.Prelude.{ℕ, ◌+◌, ◌*◌}
use Rattle.limits.specs.Limits.{max_pages, max_places, contexts, last_bytes}

-- The book stands first: a page's line is four numbers of eight bytes, a place's line is three. After it stand the
-- working tables.
abbrev pub working_at : ℕ
working_at = max_pages * 32 + max_places * 24

-- then the last rows
abbrev pub rows_at : ℕ
rows_at = working_at + max_pages * contexts

-- then the learned tables
abbrev pub learned_at : ℕ
learned_at = rows_at + max_pages * last_bytes

-- the bytes of a desk
abbrev pub desk_bytes : ℕ
desk_bytes = learned_at + max_places * contexts
