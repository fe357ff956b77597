-- Pels read by any reader beside any engine: none, one, and some after others. Assumes nothing.
use mathlib.Core.Path.{◌≡◌, refl, sym, ap, ap₂, ◌∙◌, subst, subst₂}
use Prim.Native.Nat.{ℕ, suc, ◌+◌, ◌-◌, ◌%◌, ◌≤◌, ◌<◌}
use native.Mathlib.Nat.{zero-add, suc-add, add_assoc}
use native.Mathlib.Omega.{arith}
use mathlib.Core.Bool.{Bool, true, false, ◌&&◌}
use mathlib.Core.List.{List, [], ◌∷◌, ◌++◌, append_assoc}
use lib.ListN.{get_or, set, length, length-append}
use lib.Dec.{eqb}
use borrow.Author.Tests.{eq-eqb, ne_eqb}
use Rattle.coder.specs.Writing.{counted, after, step, Stage}
use Rattle.coder.specs.Page.{Page, context_of, entry_at, size, sense, move}
use Rattle.coder.specs.Reading.{Reader, pel_of, read_pels}
use Rattle.engine.specs.Engine.{Engine}
use Rattle.engine.specs.Coded.{Gives, LawfulTable, Pelled, pages, stage_of, page_of, Coded}
use Rattle.engine.specs.Followed.{matches, Told, reads, Followed}
use Rattle.engine.proofs.Engine.{IsEngine}
use Rattle.engine.proofs.Coded.{page-within, page-lawful, pelled-quiet, coded_none, coded-pel, coded-append}
use Rattle.engine.proofs.Matching.{with-true, and_assoc, matches-append}

-- the pel that was told is expected exactly where the reader said so
told-again : (s : ℕ) (b : Bool) → s ≤ 1 → eqb (pel_of s b) s ≡ b
told-again s true h = eq-eqb s s refl
told-again s false h = ne_eqb (1 - s) s (λ e. omega arith)

module _ (E : Engine) (K : IsEngine E) (R : Reader) where
  -- nothing is compared after a pel with no shift
  pub match_none : (c : E.Registers) (e : ℕ) (b : Bool) (v : Gives E.Registers) (code : List ℕ) (at : ℕ)
      (good : Bool) → Pelled E c e b v → v.revisited ≡ false → good ≡ (good && matches code at v.bytes)
  unfolding matches
  match_none c e b v code at good k z =
      sym (with-true good) ∙ ap (λ (bs : List ℕ). good && matches code at bs) (sym (pelled-quiet E K c e b v k z))

  module _ (width : ℕ) (code : List ℕ) where
    -- no pel
    pub followed-none : (m : Page) (c : E.Registers) (n at : ℕ) (good : Bool) (r : R.State)
        → LawfulTable E m.table → E.Ready c → Followed E R width code m c n at good r [] m c n at good r
    unfolding matches
    followed-none m c n at good r l f =
        record {
          settled = [];
          coded = coded_none E K width m c n l f;
          read = λ k. ap (λ (j : ℕ). reads E R width j m r) (zero-add k);
          matched = sym (with-true good);
          place = omega arith;
        }

    -- one pel
    module _ (table above this : List ℕ) (c : E.Registers) (n at : ℕ) (good : Bool) (r : R.State) (b : Bool) (p : ℕ)
        (s : R.State) (v : Gives E.Registers) (h : length this < width) (l : LawfulTable E table) (f : E.Ready c)
      where
        abbrev here : ℕ
        here = E.scheme.template above this (length this)

        abbrev e : ℕ
        e = get_or table here 0

        abbrev then : Page
        then = page_of E width (set table here v.entry) above (this ++ (p ∷ []))

        module _ (k : Told E R c r e b p s v) where
          same : eqb p (e % 2) ≡ b
          same = ap (λ (z : ℕ). eqb z (e % 2)) k.told ∙ told-again (e % 2) b (omega arith)

          coded-here : Coded E width (page_of E width table above this) c n (p ∷ []) then v.registers
              (counted v.revisited n) v.bytes
          coded-here = coded-pel E K width table above this c n p here v h refl l f
              (subst (λ (z : Bool). Pelled E c e z v) (sym same) k.pelled)

          abbrev under : Page
          under = record { table = table; above = above; this = this }

          within-row : page_of E width table above this ≡ under
          within-row = page-within E width table above this h

          -- the reader's model moves as the writer's does
          next-model : move E.scheme width under p (R.moves (E.scheme.size e) b r) ≡ then
          unfolding after size sense entry_at context_of
          next-model =
              ap (move E.scheme width under p) (k.moves
              ∙ ap (λ (z : Bool). E.writer.moves (E.scheme.size e) z (E.stands c [])) (sym same))
              ∙ ap (λ (t : Stage (pages E width) E.writer). t.model)
              (sym (ap (λ (m : Page). step (pages E width) E.writer (stage_of E width m (E.stands c []) n) p)
              within-row) ∙ coded-here.stage [])

          one-read : (j : ℕ) → reads E R width (suc j) (page_of E width table above this) r ≡ p ∷ reads E R width j then s
          unfolding read_pels size sense entry_at context_of
          one-read j =
              ap (λ (m : Page). reads E R width (suc j) m r) within-row
              ∙ ap (λ (z : Bool). pel_of (e % 2) z ∷ reads E R width j (move E.scheme width under (pel_of (e % 2) z)
              (R.moves (E.scheme.size e) z r)) (R.take (E.scheme.size e) z r)) (sym k.asked)
              ∙ ap (λ (z : ℕ). z ∷ reads E R width j (move E.scheme width under z
              (R.moves (E.scheme.size e) b r)) (R.take (E.scheme.size e) b r)) (sym k.told)
              ∙ ap₂ (λ (m : Page) (t : R.State). p ∷ reads E R width j m t) next-model (sym k.goes)

          followed-here : Followed E R width code (page_of E width table above this) c n at good r (p ∷ []) then
              v.registers (counted v.revisited n) (at + v.settled) (good && matches code at v.bytes) s
          followed-here =
              record {
                settled = v.bytes;
                coded = coded-here;
                read = λ j. ap (λ (i : ℕ). reads E R width i (page_of E width table above this) r)
                    (suc-add 0 j ∙ ap suc (zero-add j)) ∙ one-read j;
                matched = refl;
                place = omega (arith, k.pelled.size);
              }

    -- the same, in a context that is known by another name
    pub followed-pel : (table above this : List ℕ) (c : E.Registers) (n at : ℕ) (good : Bool) (r : R.State) (b : Bool)
        (p cx : ℕ) (s : R.State) (v : Gives E.Registers) → length this < width
        → cx ≡ E.scheme.template above this (length this) → LawfulTable E table → E.Ready c
        → Told E R c r (get_or table cx 0) b p s v
        → Followed E R width code (page_of E width table above this) c n at good r (p ∷ [])
        (page_of E width (set table cx v.entry) above (this ++ (p ∷ []))) v.registers (counted v.revisited n)
        (at + v.settled) (good && matches code at v.bytes) s
    followed-pel table above this c n at good r b p cx s v h ec l f k =
        subst (λ (z : ℕ). Followed E R width code (page_of E width table above this) c n at good r (p ∷ [])
        (page_of E width (set table z v.entry) above (this ++ (p ∷ []))) v.registers (counted v.revisited n)
        (at + v.settled) (good && matches code at v.bytes) s) (sym ec)
        (followed-here table above this c n at good r b p s v h l f
        (subst (λ (z : ℕ). Told E R c r (get_or table z 0) b p s v) ec k))

    -- pels after other pels
    pub followed-append : (m₀ : Page) (c₀ : E.Registers) (n₀ at₀ : ℕ) (good₀ : Bool) (r₀ : R.State) (ps : List ℕ)
        (m₁ : Page) (c₁ : E.Registers) (n₁ at₁ : ℕ) (good₁ : Bool) (r₁ : R.State) (qs : List ℕ) (m₂ : Page)
        (c₂ : E.Registers) (n₂ at₂ : ℕ) (good₂ : Bool) (r₂ : R.State)
        → Followed E R width code m₀ c₀ n₀ at₀ good₀ r₀ ps m₁ c₁ n₁ at₁ good₁ r₁
        → Followed E R width code m₁ c₁ n₁ at₁ good₁ r₁ qs m₂ c₂ n₂ at₂ good₂ r₂
        → Followed E R width code m₀ c₀ n₀ at₀ good₀ r₀ (ps ++ qs) m₂ c₂ n₂ at₂ good₂ r₂
    followed-append m₀ c₀ n₀ at₀ good₀ r₀ ps m₁ c₁ n₁ at₁ good₁ r₁ qs m₂ c₂ n₂ at₂ good₂ r₂ f g =
        record {
          settled = f.settled ++ g.settled;
          coded = coded-append E K width m₀ c₀ n₀ ps m₁ c₁ n₁ f.settled qs m₂ c₂ n₂ g.settled f.coded
              g.coded;
          read = λ k.
              ap (λ (j : ℕ). reads E R width j m₀ r₀) (ap (λ (j : ℕ). j + k) (length-append ps qs)
              ∙ add_assoc (length ps) (length qs) k)
              ∙ f.read (length qs + k) ∙ ap (λ (l : List ℕ). ps ++ l) (g.read k)
              ∙ sym (append_assoc ps qs (reads E R width k m₂ r₂));
          matched =
              g.matched ∙ ap₂ (λ (b : Bool) (j : ℕ). b && matches code j g.settled) f.matched f.place
              ∙ and_assoc good₀ (matches code at₀ f.settled) (matches code (at₀ + length f.settled) g.settled)
              ∙ ap (λ (b : Bool). good₀ && b) (sym (matches-append code at₀ f.settled g.settled));
          place = omega (arith, f.place, g.place, length-append f.settled g.settled);
        }

    -- one pel more within a row, with the numbers as a loop has them
    pub followed-turn : (m₀ : Page) (c₀ : E.Registers) (n₀ at₀ : ℕ) (good₀ : Bool) (r₀ : R.State)
        (t above this : List ℕ) (c : E.Registers) (n at : ℕ) (good : Bool) (r : R.State) (b : Bool) (p cx : ℕ)
        (s : R.State) (v : Gives E.Registers) (t' : List ℕ) (n' at' : ℕ) (good' : Bool)
        → Followed E R width code m₀ c₀ n₀ at₀ good₀ r₀ this (page_of E width t above this) c n at good r
        → length this < width → cx ≡ E.scheme.template above this (length this)
        → Told E R c r (get_or t cx 0) b p s v → t' ≡ set t cx v.entry → n' ≡ counted v.revisited n
        → at' ≡ at + v.settled → good' ≡ (good && matches code at v.bytes)
        → Followed E R width code m₀ c₀ n₀ at₀ good₀ r₀ (this ++ (p ∷ []))
        (page_of E width t' above (this ++ (p ∷ []))) v.registers n' at' good' s
    followed-turn m₀ c₀ n₀ at₀ good₀ r₀ t above this c n at good r b p cx s v t' n' at' good' f h ec k et en ea eg =
        followed-append m₀ c₀ n₀ at₀ good₀ r₀ this (page_of E width t above this) c n at good r (p ∷ [])
        (page_of E width t' above (this ++ (p ∷ []))) v.registers n' at' good' s f
        (subst₂ (λ (z : List ℕ) (j : ℕ). Followed E R width code (page_of E width t above this) c n at good r (p ∷ [])
        (page_of E width z above (this ++ (p ∷ []))) v.registers j at' good' s) (sym et) (sym en)
        (subst₂ (λ (i : ℕ) (g : Bool). Followed E R width code (page_of E width t above this) c n at good r (p ∷ [])
        (page_of E width (set t cx v.entry) above (this ++ (p ∷ []))) v.registers (counted v.revisited n) i g
        s) (sym ea) (sym eg) (followed-pel t above this c n at good r b p cx s v h ec
        (page-lawful E width t above this f.coded.lawful) f.coded.ready k)))
