-- The desk in memory is its book and its three arrays, side by side. The offsets and sizes are counted from the limits.
-- Assumes nothing.
use Rattle.std.specs.Prelude.{◌≡◌, ℕ}
use Rattle.std.proofs.Common.{refl}
use Rattle.std.proofs.Math.Option.{some}
use mir.Syntax.{Ty, ty_array, ty_int, w8}
use prog.Memory.{size, field_of}
use Rattle.limits.specs.Limits.{max_pages, max_places, contexts, last_bytes}
use Rattle.parts.proofs.Book.TheLaws as B'
use Rattle.parts.proofs.Parts.TheLaws as T'
use Rattle.counter.specs.Layout.{working_at, rows_at, learned_at, desk_bytes}

-- n bytes, m times
abbrev pub bytes_ty : ℕ → ℕ → Ty
bytes_ty n m = ty_array (ty_array (ty_int w8) n) m

-- the desk has as many bytes as its layout says
pub desk-bytes : size T'.mir ≡ desk_bytes
desk-bytes = refl

-- its book stands first, then the working tables, the last rows and the learned tables, each where the layout says
pub desk-offsets : (field_of T'.mir 0 ≡ some (B'.mir, 0))
    × (field_of T'.mir 1 ≡ some (bytes_ty contexts max_pages, working_at))
    × (field_of T'.mir 2 ≡ some (bytes_ty last_bytes max_pages, rows_at))
    × (field_of T'.mir 3 ≡ some (bytes_ty contexts max_places, learned_at))
desk-offsets = (refl, refl, refl, refl)
