-- Document 01: a written band, from the page's working table and last row at that moment. Assumes nothing.
use Rattle.std.specs.Prelude.{ℕ, ◌-◌, ◌*◌, ◌≤◌, ◌≡◌, Bool, true, ◌&&◌, List, [], ◌++◌, get_or, length, replicate, ltb, leb}
use Rattle.std.proofs.Math.Option.{Option, some, none}
use Rattle.limits.specs.Limits.{max_code, last_bytes}
use Rattle.coder.specs.Writing.{Writer, Model, band_code, band_count, band_revisits, band_model}
use Rattle.coder.specs.Page.{Scheme, Page, page}
use Rattle.estimate.specs.Estimate.{row_of, next}
use Rattle.interval.specs.Interval.{decision}
use Rattle.octets.specs.Octets.{Registers, start, part, pel, code}
use Rattle.template.specs.Pels.{row_bytes, pels_to, row_at, band_to, band_padded, context}

-- ---- the Q-coder with our seven-pel template
-- the template, the value Q of an entry's row, the next entry
abbrev pub q_scheme : Scheme
q_scheme = record { template = context; size = row_of; next = next }

-- the Q-coder as a writer: there was a shift where the pel's part is below 1000 hex
abbrev pub q_writer : Writer
q_writer =
    record {
      State = Registers;
      start = start;
      put = λ q e w. pel (decision q e) w;
      moves = λ q e w. ltb (part (decision q e) w).interval.width 0x1000;
      count = λ w. w.interval.count;
      code = code;
    }

-- a page of that width under the Q-coder, as a model
abbrev pub q_page : ℕ → Model
q_page width = page q_scheme width

-- the page at the band's start: above its first row stands the last row
abbrev pub page_at : ℕ → List ℕ → List ℕ → Page
page_at width table last = record { table = table; above = pels_to last width; this = [] }

-- a new page's last row is white
unfoldable pub white : List ℕ
white = replicate last_bytes 0

-- ---- a band as written
-- its code, S, how many of its pels were revisited, the table after it, the last row after it (in the room that a page
-- has for it)
pub record Written : Type 0 where
  pub code : List ℕ
  pub shifts : ℕ
  pub revisits : ℕ
  pub table : List ℕ
  pub last : List ℕ

-- the last row of a band; the rest of the room for it is zero
unfoldable pub last_row : ℕ → ℕ → List ℕ → List ℕ
last_row width rows band = row_at width band (rows - 1) ++ replicate (last_bytes - row_bytes width) 0

-- Written bytes are those of the Q-coder, with our seven-pel template, from the page's working table and last row at
-- that moment.
unfoldable pub written : ℕ → ℕ → List ℕ → List ℕ → List ℕ → Written
written width rows table last band =
    let m : Page = page_at width table last in
    let ps : List ℕ = band_to width band rows in
    record {
      code = band_code (q_page width) q_writer m ps;
      shifts = band_count (q_page width) q_writer m ps;
      revisits = band_revisits (q_page width) q_writer m ps;
      table = (band_model (q_page width) q_writer m ps).table;
      last = last_row width rows band;
    }

-- ---- a band written into a lent buffer. No room: the code is longer than the buffer or than the limit
unfoldable pub has_room : List ℕ → List ℕ → Bool
has_room code out = leb (length code) (length out) && leb (length code) max_code

-- ---- a band read. A band of that width and height: bytes, exactly rows × row bytes, the padding bits zero
pub record IsBand (width rows : ℕ) (band : List ℕ) : Type 0 where
  pub size : length band ≡ rows * row_bytes width
  pub padded : band_padded width band rows ≡ true
  pub octets : (i : ℕ) → get_or band i 0 ≤ 255

-- What may be found in a code, from a table and a last row: a band that would have been written as exactly those bytes,
-- or nothing, where no band of that width and height would have been.
abbrev pub Right : ℕ → ℕ → List ℕ → List ℕ → List ℕ → Option (List ℕ) → Type 0
Right width rows table last code (some band) =
    IsBand width rows band × ((written width rows table last band).code ≡ code)
Right width rows table last code none = (band : List ℕ) → IsBand width rows band → (written width rows table last
    band).code ≡ code → ⊥

-- what is found in a code: by width and rows, table and last row
abbrev pub Finder : Type 0
Finder = ℕ → ℕ → List ℕ → List ℕ → List ℕ → Option (List ℕ)

-- a reader: whatever it is asked, what it finds is right
pub record Reader : Type 0 where
  pub finds : Finder
  pub right : (width rows : ℕ) (table last code : List ℕ)
      → Right width rows table last code (finds width rows table last code)
