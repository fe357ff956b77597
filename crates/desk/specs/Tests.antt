-- Document 01: the tests of each call, in the order in which they are tested, each with its number. Assumes nothing.
use Rattle.std.specs.Prelude.{ℕ, ◌*◌, not, ◌&&◌, List, [], ◌∷◌, eqb, ltb, length}
use Rattle.std.proofs.Math.Option.{Option}
use Rattle.ground.specs.Options.{given}
use Rattle.template.specs.Pels.{row_bytes, band_padded}
use Rattle.limits.specs.Limits.{max_width, max_rows, max_code, contexts}
use Rattle.band.specs.Band.{Written, written, has_room, Finder}
use Rattle.marker.specs.Marker.{marked}
use Rattle.desk.specs.declared.Key.{Key}
use Rattle.desk.specs.Desk.{Page}
use Rattle.desk.specs.Lawful.{within, lawful_key}
use Rattle.desk.specs.Refusals.{Row, row}
use Rattle.desk.specs.Calls.{Call, opens, writes, reads, closes, abandons, drops, looks}
use Rattle.desk.specs.Standing.{Stand, page_of}

-- a band of pels on a page: the code from the page's working table and last row
unfoldable pub band_of : Page → ℕ → List ℕ → Written
band_of p rows pels = written p.width rows p.table.entries p.last pels

-- every call's first test: the desk is not lawful
abbrev pub unlawful : Stand → Row
unlawful s = row 12 (not s.sound)

-- every call's second test: the school or class number is 0 or above 65,535
abbrev pub unknown : Key → Row
unknown k = row 1 (not (lawful_key k))

module _ (finds : Finder) where
  -- what is found in a code, on a page
  unfoldable pub found_in : Page → ℕ → List ℕ → Option (List ℕ)
  found_in p rows code = finds p.width rows p.table.entries p.last code

  -- the tests of each call, in the order in which they are tested
  unfoldable pub tests : Call → Stand → List Row
  tests (opens ask) s =
      unlawful s
      ∷ unknown ask.key
      ∷ row 6 (not (within 1 ask.width max_width))
      ∷ row 3 (given s.page)
      ∷ row 4 (not s.page_free)
      ∷ row 5 (not (given s.learned) && not s.place_free)
      ∷ []
  tests (writes ask pels out) s =
      unlawful s
      ∷ unknown ask.key
      ∷ row 6 (not (within 1 ask.rows max_rows))
      ∷ row 2 (not (given s.page))
      ∷ row 7 (not (eqb (page_of s).state 1))
      ∷ row 6 (not (eqb (length pels) (ask.rows * row_bytes (page_of s).width)))
      ∷ row 8 (not (band_padded (page_of s).width pels ask.rows))
      ∷ row 9 (not (has_room (band_of (page_of s) ask.rows pels).code out))
      ∷ []
  tests (reads ask code out) s =
      unlawful s
      ∷ unknown ask.key
      ∷ row 6 (not (within 1 ask.rows max_rows))
      ∷ row 6 (ltb max_code (length code))
      ∷ row 2 (not (given s.page))
      ∷ row 7 (not (eqb (page_of s).state 2))
      ∷ row 9 (ltb (length out) (ask.rows * row_bytes (page_of s).width))
      ∷ row 15 (marked code)
      ∷ row 10 (not (given (found_in (page_of s) ask.rows code)))
      ∷ []
  tests (closes k) s = unlawful s ∷ unknown k ∷ row 2 (not (given s.page)) ∷ []
  tests (abandons k) s = unlawful s ∷ unknown k ∷ row 2 (not (given s.page)) ∷ []
  tests (drops k) s = unlawful s ∷ unknown k ∷ row 3 (given s.page) ∷ row 11 (not (given s.learned)) ∷ []
  tests (looks k out) s =
      unlawful s ∷ unknown k ∷ row 11 (not (given s.learned)) ∷ row 9 (ltb (length out) contexts) ∷ []
