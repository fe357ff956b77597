-- Three classes take turns, worked out by the definitions: what each call answers, what is left in the order in which
-- it is served, that it then answers the same, and the learned tables at the end. Assumes nothing.
use mathlib.Core.Path.{◌≡◌, refl}
use mathlib.Core.List.{List, [], ◌∷◌, ◌++◌, map}
use mathlib.Core.Option.{Option, some, none}
use Prim.Native.Nat.{ℕ, ◌-◌}
use lib.ListN.{get_or, replicate}
use Rattle.turns.specs.Service.{Entry}
use Rattle.turns.specs.Serial.{serial, serial_from, serves_as, waits_as}
use Rattle.coder.specs.Writing as writing
use Rattle.coder.specs.Page.{context_of, entry_at, size, sense, taught, placed, move}
use Rattle.estimate.specs.declared.Table.{Table}
use Rattle.estimate.specs.Estimate.{row_of, rise, fall, flip, next, fresh}
use Rattle.marker.specs.Marker.{marked}
use Rattle.octets.specs.Octets.{bits, carried, byte, due, shifts, pads, cover, finish, bytes, follows, ended, code}
use Rattle.octets.specs.Octets as octets
use Rattle.store.specs.Store.{in_front, cleared}
use Rattle.template.specs.Pels.{pel_at, pels_to, band_to, row_padded, band_padded, left_of, right_of, context}
use Rattle.band.specs.Band.{written, last_row, white, has_room}
use Rattle.unique.specs.Search.{first_of, before, values, search}
use Rattle.unique.specs.BandOfCode.{same_bytes, written_so, band_of_code}
use Rattle.unique.proofs.OneReader.{reading}
use Rattle.desk.specs.declared.Key.{Key}
use Rattle.desk.specs.Desk.{Desk}
use Rattle.desk.specs.declared.Direction.{Direction}
use Rattle.desk.specs.declared.Direction.TheVariants as way
use Rattle.desk.specs.Places.{zero_table, unused_page, free_place, empty_desk, find_by}
use Rattle.desk.specs.Lawful.{all, any, apart, no_stray, lawful_page, lawful_place, lawful}
use Rattle.desk.specs.Refusals.{refusal, lent_after}
use Rattle.desk.specs.Calls.{Call, opens, writes, reads, closes, abandons, drops, looks}
use Rattle.desk.specs.Standing.{stand, learned_table}
use Rattle.desk.specs.Tests.{band_of, found_in, tests}
use Rattle.desk.specs.Effects.{new_page, served_page, effect}
use Rattle.desk.specs.Changes.{learned_place, reserved_place, pages_after, places_after, changed}
use Rattle.desk.specs.Allowed.{number, outcome, lent}
use Rattle.serial.specs.Run.{calling, mark_of, run, after}
use Rattle.serial.specs.Demand3.{left}

abbrev a : Key
a = record { school = 1; class = 5 }

abbrev b : Key
b = record { school = 2; class = 5 }

abbrev c : Key
c = record { school = 1; class = 7 }

-- pages one pel wide, bands of one row, lent buffers of n nines
abbrev open_to : Direction → Key → Call
open_to way k = opens (record { key = k; direction = way; width = 1 })

abbrev write : Key → ℕ → ℕ → Call
write k pel n = writes (record { key = k; rows = 1 }) (pel ∷ []) (replicate n 9)

abbrev read : Key → List ℕ → ℕ → Call
read k code n = reads (record { key = k; rows = 1 }) code (replicate n 9)

abbrev look : Key → ℕ → Call
look k n = looks k (replicate n 9)

-- a call, and what it answers: its number, length, S and the pels revisited, and the lent buffer after it
abbrev Turn : Type 0
Turn = Call × ℕ × ℕ × ℕ × ℕ × List ℕ

-- the 24 calls. Class a writes P1 and P7 on its first page; b writes P2 between them, closes first, and its table is
-- dropped. c has no room for its band and is abandoned; then it reads P1's code, after one that is damaged. Meanwhile
-- a's second page begins with the table that its first one learned: a look shows that table still while the page has
-- gone on. b's second page is never closed.
abbrev turns : List Turn
turns =
    (open_to way.Write a, 0, 0, 0, 0, [])
    ∷ (open_to way.Write b, 0, 0, 0, 0, [])
    ∷ (write a 0x00 3, 0, 2, 2, 1, 0xAC ∷ 0x10 ∷ 9 ∷ [])
    ∷ (open_to way.Write c, 0, 0, 0, 0, [])
    ∷ (write b 0x80 2, 0, 2, 1, 1, 0x00 ∷ 0x00 ∷ [])
    ∷ (look a 1, 11, 0, 0, 0, 9 ∷ [])
    ∷ (write c 0x00 1, 9, 0, 0, 0, 0 ∷ [])
    ∷ (closes b, 0, 0, 0, 0, [])
    ∷ (open_to way.Write a, 3, 0, 0, 0, [])
    ∷ (write a 0x00 2, 0, 2, 2, 1, 0xA8 ∷ 0x10 ∷ [])
    ∷ (drops a, 3, 0, 0, 0, [])
    ∷ (abandons c, 0, 0, 0, 0, [])
    ∷ (drops b, 0, 0, 0, 0, [])
    ∷ (closes a, 0, 0, 0, 0, [])
    ∷ (open_to way.Read c, 0, 0, 0, 0, [])
    ∷ (open_to way.Write a, 0, 0, 0, 0, [])
    ∷ (write a 0x00 2, 0, 2, 2, 1, 0xA0 ∷ 0x10 ∷ [])
    ∷ (read c (0xAC ∷ 0x11 ∷ []) 2, 10, 0, 0, 0, 0 ∷ 0 ∷ [])
    ∷ (read c (0xAC ∷ 0x10 ∷ []) 2, 0, 1, 2, 1, 0x00 ∷ 9 ∷ [])
    ∷ (look a 129, 0, 128, 0, 0, 4 ∷ replicate 127 0 ++ (9 ∷ []))
    ∷ (open_to way.Write b, 0, 0, 0, 0, [])
    ∷ (closes a, 0, 0, 0, 0, [])
    ∷ (write b 0x80 2, 0, 2, 1, 1, 0x00 ∷ 0x00 ∷ [])
    ∷ (closes c, 0, 0, 0, 0, [])
    ∷ []

-- the n-th of them
abbrev turn : ℕ → Turn
turn n = get_or turns (n - 1) (drops a, 0, 0, 0, 0, [])

-- what is left, in the order in which it is served
abbrev order : List Turn
order = map turn (2 ∷ 5 ∷ 8 ∷ 13 ∷ 1 ∷ 3 ∷ 10 ∷ 14 ∷ 20 ∷ 16 ∷ 17 ∷ 22 ∷ 15 ∷ 19 ∷ 24 ∷ [])

abbrev asked : List Turn → List Call
asked ts = map (λ t. t.0) ts

unfoldable seen : List (Entry calling) → List Turn
seen [] = []
seen (e ∷ es) = (
  e.call,
  e.output.answer.number,
  e.output.answer.length,
  e.output.answer.shifts,
  e.output.answer.revisits,
  e.output.lent,
) ∷ seen es

-- the learned tables of a, b and c
abbrev tables : Desk → Option Table × Option Table × Option Table
tables d = (learned_table d a, learned_table d b, learned_table d c)

-- a table with e in context 0, else fresh
abbrev first : ℕ → Option Table
first e = some (record { entries = e ∷ replicate 127 0 })

record Worked : Type 0 where
  answered : seen (run reading empty_desk (asked turns)) ≡ turns
  served-in-order : seen (left reading (asked turns)) ≡ order
  answered-again : seen (run reading empty_desk (asked order)) ≡ order
  ends : tables (after reading empty_desk (asked turns)) ≡ (first 6, none, first 2)
  ends-again : tables (after reading empty_desk (asked order)) ≡ (first 6, none, first 2)

-- computed: every definition that the run comes through is opened
worked : Worked
unfolding seen run after mark_of left serial serial_from serves_as waits_as number outcome lent stand tests effect
    new_page served_page
    band_of found_in changed pages_after places_after learned_place reserved_place refusal lent_after all any apart
    no_stray lawful_page
    lawful_place lawful zero_table unused_page free_place empty_desk find_by band_of_code written_so same_bytes search values
    before first_of
    written last_row white has_room pel_at pels_to band_to row_padded band_padded left_of right_of context in_front cleared
    bits carried
    octets.left byte due shifts pads cover finish bytes follows ended code marked row_of rise fall flip next fresh
    context_of entry_at size sense taught
    placed move writing.after
worked = record { answered = refl; served-in-order = refl; answered-again = refl; ends = refl; ends-again = refl }
