-- What `serial` gives of one list of calls, in which the pages of two keys take turns. Assumes nothing.
use mathlib.Core.Path.{◌≡◌, refl}
use mathlib.Core.List.{List, [], ◌∷◌}
use Prim.Native.Nat.{ℕ}
use lib.Dec.{eqb}
use borrow.Author.Tests.{eqb-true, eq-eqb}
use Rattle.turns.specs.Service.{Kind, opening, band, closing, abandoning, looking, changing, Mark, accepted}
use Rattle.turns.specs.Service.{refused, Service, KeyLaws, Entry}
use Rattle.turns.specs.Serial.{waits_as, serves_as, serial_from, serial}

-- a key, what is asked of it, and a number that tells the calls apart
pub record Asked : Type 0 where
  pub owner : ℕ
  pub kind : Kind
  pub tag : ℕ

abbrev pub toy : Service
toy =
    record {
      Key = ℕ;
      same = eqb;
      Call = Asked;
      Output = ℕ;
      key = λ (a : Asked). a.owner;
      kind = λ (a : Asked). a.kind;
    }

-- equal numbers are the same
pub toy_keys : KeyLaws toy.Key toy.same
toy_keys = record { same_self = λ k. eq-eqb k k refl; same_only = eqb-true }

abbrev pub call : ℕ → Mark → Kind → ℕ → Entry toy
call n m κ k = record { call = record { owner = k; kind = κ; tag = n }; mark = m; output = n }

-- 5 is refused; the page opened by 10 is abandoned, the one opened by 14 is never closed
abbrev pub turns : List (Entry toy)
turns =
    call 1 accepted opening 1
    ∷ call 2 accepted opening 2
    ∷ call 3 accepted band 1
    ∷ call 4 accepted band 2
    ∷ call 5 refused band 1
    ∷ call 6 accepted looking 1
    ∷ call 7 accepted band 1
    ∷ call 8 accepted closing 2
    ∷ call 9 accepted changing 2
    ∷ call 10 accepted opening 2
    ∷ call 11 accepted closing 1
    ∷ call 12 accepted band 2
    ∷ call 13 accepted abandoning 2
    ∷ call 14 accepted opening 1
    ∷ []

unfoldable pub tags : List (Entry toy) → List ℕ
tags [] = []
tags (e ∷ es) = e.call.tag ∷ tags es

-- the look; key 2's page; the drop; key 1's page
pub served : tags (serial toy turns) ≡ 6 ∷ 2 ∷ 4 ∷ 8 ∷ 9 ∷ 1 ∷ 3 ∷ 7 ∷ 11 ∷ []
unfolding tags serial serial_from serves_as waits_as
served = refl
