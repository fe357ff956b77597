-- What the programs print of bytes and of answers, and the desk that they begin with. Assumes nothing.
use Rattle.std.specs.Prelude.{ℕ, ◌/◌, ◌%◌, true, List, [], ◌∷◌, ◌++◌, flat_map, codes, decimal}
use Rattle.std.specs.Fmt.{digit_glyph}
use Rattle.desk.specs.declared.Answer.{Answer}
use Rattle.desk.specs.declared.Opening.{Opening}
use Rattle.desk.specs.Places.{empty_desk}
use Rattle.desk.specs.Calls.{opens}
use Rattle.desk.specs.Allowed.{Allowed}
use Rattle.parts.specs.declared.Parts.{Parts}
use Rattle.parts.specs.Replies.{outcome_of}

-- a space, then the byte's two digits
abbrev pub hex_byte : ℕ → List ℕ
hex_byte b = 32 ∷ digit_glyph true (b / 16) ∷ digit_glyph true (b % 16) ∷ []

-- so for each byte, in turn
abbrev pub hex_text : List ℕ → List ℕ
hex_text bytes = flat_map hex_byte bytes

-- the four numbers of an answer, each after its name
abbrev pub answer_text : Answer → List ℕ
answer_text a = codes "answer " ++ decimal a.number ++ codes ", length " ++ decimal a.length
    ++ codes ", S " ++ decimal a.shifts ++ codes ", revisits " ++ decimal a.revisits

-- what an empty desk may become where it is asked to open a page
abbrev pub NewPage : Opening → Parts → Type 0
NewPage ask desk = (a : Answer) × Allowed empty_desk (opens ask) (outcome_of a desk) []
