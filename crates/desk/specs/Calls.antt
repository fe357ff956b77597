-- Document 01's calls: what each is given, whose it is, and of which kind. Assumes nothing.
use Rattle.std.specs.Prelude.{ℕ, List, []}
use Rattle.turns.specs.Service.{Kind, opening, band, closing, abandoning, looking, changing}
use Rattle.desk.specs.declared.Key.{Key}
use Rattle.desk.specs.declared.Opening.{Opening}
use Rattle.desk.specs.declared.Ask.{Ask}

-- the calls, with their inputs and, last, the lent buffer as it was
pub data Call : Type 0 where
  opens : Opening → Call
  writes : Ask → List ℕ → List ℕ → Call
  reads : Ask → List ℕ → List ℕ → Call
  closes : Key → Call
  abandons : Key → Call
  drops : Key → Call
  looks : Key → List ℕ → Call

-- the key: it names the page and the class
abbrev pub key_of : Call → Key
key_of (opens ask) = ask.key
key_of (writes ask pels out) = ask.key
key_of (reads ask code out) = ask.key
key_of (closes k) = k
key_of (abandons k) = k
key_of (drops k) = k
key_of (looks k out) = k

-- the lent buffer as it was; empty where none is lent
abbrev pub lent_to : Call → List ℕ
lent_to (opens ask) = []
lent_to (writes ask pels out) = out
lent_to (reads ask code out) = out
lent_to (closes k) = []
lent_to (abandons k) = []
lent_to (drops k) = []
lent_to (looks k out) = out

-- A page's own calls are its open, its bands and its close or abandon; a look or drop of the same key is not one of
-- them.
abbrev pub kind_of : Call → Kind
kind_of (opens ask) = opening
kind_of (writes ask pels out) = band
kind_of (reads ask code out) = band
kind_of (closes k) = closing
kind_of (abandons k) = abandoning
kind_of (drops k) = changing
kind_of (looks k out) = looking
