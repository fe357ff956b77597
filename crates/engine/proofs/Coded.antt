-- Pels coded by any engine: none, one, and some after others; the pels revisited; the code at the end. Assumes nothing.
use mathlib.Core.Path.{◌≡◌, refl, sym, ap, ap₂, ◌∙◌, subst, subst₂}
use mathlib.Core.Logic.{◌≢◌, ◌⊎◌, inl, inr}
use Prim.Native.Nat.{ℕ, ◌+◌, ◌%◌, ◌≤◌, ◌<◌}
use native.Mathlib.Decide.{dec_lt}
use native.Mathlib.Omega.{arith}
use mathlib.Core.Bool.{Bool, true, false, cond}
use mathlib.Core.List.{List, [], ◌∷◌, ◌++◌, append-nil, append_assoc}
use lib.ListN.{get_or, set, length, length-append}
use lib.Seq.{set-get_or, get_or-set_same, get_or-set_other, set_out}
use lib.Dec.{eqb}
use Rattle.ground.proofs.Tests.{by_cond, same?, if-eq, if-ne}
use Rattle.coder.specs.Writing.{Stage, counted, step, after}
use Rattle.coder.proofs.Writing.{after-append}
use Rattle.coder.proofs.Revisits.{revisits-shifts}
use Rattle.coder.specs.Page.{Page, context_of, entry_at, size, sense, taught, placed, move}
use Rattle.store.specs.Store.{stores}
use Rattle.store.proofs.Store.{stores-append, length-stores}
use Rattle.engine.specs.Engine.{Engine}
use Rattle.engine.specs.Coded.{Gives, row_page, shifts_of, shifted_by, LawfulTable, Pelled, pages, stage_of, page_of}
use Rattle.engine.specs.Coded.{through, Coded, Stored}
use Rattle.engine.proofs.Engine.{IsEngine}

-- ---- a page's rows, whatever the engine
module _ (E : Engine) (width : ℕ) where
  -- within the row no row is full
  pub page-within : (table above this : List ℕ) → length this < width
      → page_of E width table above this ≡ record { table = table; above = above; this = this }
  unfolding placed
  page-within table above this h = if-ne (length this) width _ _ (λ e. omega arith)

  pub page-full : (table above this : List ℕ) → length this ≡ width
      → page_of E width table above this ≡ row_page table this
  unfolding placed
  page-full table above this h = if-eq (length this) width _ _ h

  page-table : (table above this : List ℕ) → (page_of E width table above this).table ≡ table
  unfolding placed
  page-table table above this =
      by_cond (λ (m : Page). m.table ≡ table) (eqb (length this) width) _ _ (λ t. refl) (λ t. refl)

  -- either way its table is lawful or not
  pub page-lawful : (table above this : List ℕ) → LawfulTable E (page_of E width table above this).table
      → LawfulTable E table
  page-lawful table above this l = subst (LawfulTable E) (page-table table above this) l

  pub lawful-page : (table above this : List ℕ) → LawfulTable E table
      → LawfulTable E (page_of E width table above this).table
  lawful-page table above this l = subst (LawfulTable E) (sym (page-table table above this)) l

module _ (E : Engine) (K : IsEngine E) where
  -- one entry changed
  set-lawful : (t : List ℕ) (cx e : ℕ) → LawfulTable E t → E.Lawful e → LawfulTable E (set t cx e)
  set-lawful t cx e l h k = go (same? k cx) (dec_lt cx (length t))
    where
      go : (k ≡ cx) ⊎ (k ≢ cx) → Dec (cx < length t) → E.Lawful (get_or (set t cx e) k 0)
      go (inl y) (yes n) = rw (y, get_or-set_same t cx e 0 n) h
      go (inl y) (no n) = rw (set_out t cx e (omega arith)) (l k)
      go (inr y) n = rw (get_or-set_other t cx k e 0 y) (l k)

  pelled-lawful : (c : E.Registers) (e : ℕ) (b : Bool) (v : Gives E.Registers) → E.Lawful e → Pelled E c e b v
      → E.Lawful v.entry
  pelled-lawful c e b v l k =
      subst E.Lawful (sym k.entry) (by_cond E.Lawful (shifted_by E c e b) (E.scheme.next b e) e
      (λ t. K.next b e l) (λ t. l))

  -- where there was no shift, no byte was settled,
  pub pelled-quiet : (c : E.Registers) (e : ℕ) (b : Bool) (v : Gives E.Registers) → Pelled E c e b v
      → v.revisited ≡ false → v.bytes ≡ []
  pelled-quiet c e b v k z = go v.bytes (k.size ∙ k.quiet z)
    where
      go : (l : List ℕ) → length l ≡ 0 → l ≡ []
      go [] h = refl
      go (x ∷ xs) h = absurd (omega arith)

  -- and a table, a buffer, a place and a count that were left alone are those with that entry, those bytes and that pel
  pub pelled-kept : (c : E.Registers) (t out : List ℕ) (cx at n : ℕ) (b : Bool) (v : Gives E.Registers)
      → Pelled E c (get_or t cx 0) b v → v.revisited ≡ false
      → (t ≡ set t cx v.entry) × (out ≡ stores out at v.bytes) × (at ≡ at + v.settled)
      × (n ≡ counted v.revisited n)
  unfolding stores
  pelled-kept c t out cx at n b v k z = (
    sym (ap (set t cx) (k.entry
        ∙ ap (λ (s : Bool). cond s (E.scheme.next b (get_or t cx 0)) (get_or t cx 0)) (sym k.revisited ∙ z))
        ∙ set-get_or t cx 0),
    ap (stores out at) (sym (pelled-quiet c (get_or t cx 0) b v k z)),
    omega (arith, k.quiet z),
    ap (λ (s : Bool). counted s n) (sym z),
  )

  module _ (width : ℕ) where
    -- no pel
    pub coded_none : (m : Page) (c : E.Registers) (n : ℕ) → LawfulTable E m.table → E.Ready c
        → Coded E width m c n [] m c n []
    unfolding after
    coded_none m c n l r =
        record {
          stage = λ xs. ap (λ (ys : List ℕ). stage_of E width m (E.stands c ys) n) (sym (append-nil xs));
          few = omega arith;
          lawful = l;
          ready = r;
          count = omega arith;
        }

    -- one pel
    module _ (table above this : List ℕ) (c : E.Registers) (n p : ℕ) (v : Gives E.Registers) where
      abbrev here : ℕ
      here = E.scheme.template above this (length this)

      abbrev e : ℕ
      e = get_or table here 0

      abbrev b : Bool
      b = eqb p (e % 2)

      abbrev then : Page
      then = page_of E width (set table here v.entry) above (this ++ (p ∷ []))

      taught-set : v.entry ≡ cond (shifted_by E c e b) (E.scheme.next b e) e
          → cond (shifted_by E c e b) (set table here (E.scheme.next b e)) table ≡ set table here v.entry
      taught-set k = go (shifted_by E c e b) v.entry k
        where
          go : (t : Bool) (x : ℕ) → x ≡ cond t (E.scheme.next b e) e
              → cond t (set table here (E.scheme.next b e)) table ≡ set table here x
          go true x k = ap (set table here) (sym k)
          go false x k = sym (set-get_or table here 0) ∙ ap (set table here) (sym k)

      one-stage : length this < width → Pelled E c e b v → (xs : List ℕ)
          → through E width (stage_of E width (page_of E width table above this) (E.stands c xs) n) (p ∷ [])
          ≡ stage_of E width then (E.stands v.registers (xs ++ v.bytes)) (counted v.revisited n)
      unfolding after size sense entry_at context_of move taught
      one-stage h k xs =
          ap (λ (m : Page). step (pages E width) E.writer (stage_of E width m (E.stands c xs) n) p)
          (page-within E width table above this h)
          ∙ ap (λ (s : Bool). stage_of E width (page_of E width (cond s (set table here (E.scheme.next b e)) table)
          above (this ++ (p ∷ []))) (E.writer.put (E.scheme.size e) b (E.stands c xs)) (counted s n))
          (K.moves (E.scheme.size e) b c xs)
          ∙ ap₂ (λ (t : List ℕ) (w : E.writer.State). stage_of E width (page_of E width t above (this ++ (p ∷ []))) w
          (counted (shifted_by E c e b) n)) (taught-set k.entry)
          (K.puts (E.scheme.size e) b c v.registers xs v.bytes k.puts)
          ∙ ap (λ (s : Bool). stage_of E width then (E.stands v.registers (xs ++ v.bytes)) (counted s n))
          (sym k.revisited)

      coded-here : length this < width → LawfulTable E table → E.Ready c → Pelled E c e b v
          → Coded E width (page_of E width table above this) c n (p ∷ []) then v.registers (counted v.revisited n)
          v.bytes
      coded-here h l r k =
          record {
            stage = one-stage h k;
            few = omega (arith, k.size, k.few);
            lawful = lawful-page E width (set table here v.entry) above (this ++ (p ∷ []))
                (set-lawful table here v.entry l (pelled-lawful c e b v (l here) k));
            ready = K.ready e b c v.registers v.bytes (l here) r k.puts;
            count = omega (arith, K.twelve (E.scheme.size e) b c v.registers v.bytes k.puts);
          }

    -- the same, in a context that is known by another name
    pub coded-pel : (table above this : List ℕ) (c : E.Registers) (n p cx : ℕ) (v : Gives E.Registers)
        → length this < width → cx ≡ E.scheme.template above this (length this) → LawfulTable E table → E.Ready c
        → Pelled E c (get_or table cx 0) (eqb p (get_or table cx 0 % 2)) v
        → Coded E width (page_of E width table above this) c n (p ∷ [])
        (page_of E width (set table cx v.entry) above (this ++ (p ∷ []))) v.registers (counted v.revisited n)
        v.bytes
    coded-pel table above this c n p cx v h ec l r k =
        subst (λ (z : ℕ). Coded E width (page_of E width table above this) c n (p ∷ [])
        (page_of E width (set table z v.entry) above (this ++ (p ∷ []))) v.registers (counted v.revisited n)
        v.bytes) (sym ec)
        (coded-here table above this c n p v h l r
        (subst (λ (z : ℕ). Pelled E c (get_or table z 0) (eqb p (get_or table z 0 % 2)) v) ec k))

    -- pels after other pels
    pub coded-append : (m₀ : Page) (c₀ : E.Registers) (n₀ : ℕ) (ps : List ℕ) (m₁ : Page) (c₁ : E.Registers) (n₁ : ℕ)
        (xs qs : List ℕ) (m₂ : Page) (c₂ : E.Registers) (n₂ : ℕ) (ys : List ℕ)
        → Coded E width m₀ c₀ n₀ ps m₁ c₁ n₁ xs → Coded E width m₁ c₁ n₁ qs m₂ c₂ n₂ ys
        → Coded E width m₀ c₀ n₀ (ps ++ qs) m₂ c₂ n₂ (xs ++ ys)
    coded-append m₀ c₀ n₀ ps m₁ c₁ n₁ xs qs m₂ c₂ n₂ ys f g =
        let l : length (ps ++ qs) ≡ length ps + length qs = length-append ps qs in
        record {
          stage = λ zs. after-append (pages E width) E.writer ps qs (stage_of E width m₀ (E.stands c₀ zs) n₀)
              ∙ ap (λ (s : Stage (pages E width) E.writer). through E width s qs) (f.stage zs)
              ∙ g.stage (zs ++ xs)
              ∙ ap (λ (l : List ℕ). stage_of E width m₂ (E.stands c₂ l) n₂) (append_assoc zs xs ys);
          few = omega (arith, f.few, g.few, length-append xs ys);
          lawful = g.lawful;
          ready = g.ready;
          count = omega (arith, f.count, g.count);
        }

    -- no more pels were revisited than there were shifts
    pub coded-revisits : (m₀ : Page) (c₀ : E.Registers) (n₀ : ℕ) (ps : List ℕ) (m : Page) (c : E.Registers) (n : ℕ)
        (xs : List ℕ) → Coded E width m₀ c₀ n₀ ps m c n xs → n₀ ≤ shifts_of E c₀ → n ≤ shifts_of E c
    coded-revisits m₀ c₀ n₀ ps m c n xs f h =
        subst (λ (k : ℕ). n ≤ k) (K.count c xs)
        (subst (λ (s : Stage (pages E width) E.writer). s.revisits ≤ E.writer.count s.writer) (f.stage [])
        (revisits-shifts (pages E width) E.writer K.counts ps (stage_of E width m₀ (E.stands c₀ []) n₀) h))

    -- ---- with their bytes in a buffer
    pub stored-none : (m : Page) (c : E.Registers) (n : ℕ) (out : List ℕ) (at : ℕ) → LawfulTable E m.table
        → E.Ready c → Stored E width m c n out at [] m c n out at
    unfolding stores
    stored-none m c n out at l r =
        record { settled = []; coded = coded_none m c n l r; stored = refl; place = omega arith }

    pub stored-append : (m₀ : Page) (c₀ : E.Registers) (n₀ : ℕ) (out₀ : List ℕ) (at₀ : ℕ) (ps : List ℕ) (m₁ : Page)
        (c₁ : E.Registers) (n₁ : ℕ) (out₁ : List ℕ) (at₁ : ℕ) (qs : List ℕ) (m₂ : Page) (c₂ : E.Registers) (n₂ : ℕ)
        (out₂ : List ℕ) (at₂ : ℕ) → Stored E width m₀ c₀ n₀ out₀ at₀ ps m₁ c₁ n₁ out₁ at₁
        → Stored E width m₁ c₁ n₁ out₁ at₁ qs m₂ c₂ n₂ out₂ at₂
        → Stored E width m₀ c₀ n₀ out₀ at₀ (ps ++ qs) m₂ c₂ n₂ out₂ at₂
    stored-append m₀ c₀ n₀ out₀ at₀ ps m₁ c₁ n₁ out₁ at₁ qs m₂ c₂ n₂ out₂ at₂ f g =
        record {
          settled = f.settled ++ g.settled;
          coded = coded-append m₀ c₀ n₀ ps m₁ c₁ n₁ f.settled qs m₂ c₂ n₂ g.settled f.coded g.coded;
          stored = g.stored ∙ ap₂ (λ (o : List ℕ) (a : ℕ). stores o a g.settled) f.stored f.place
              ∙ stores-append out₀ at₀ f.settled g.settled;
          place = omega (arith, f.place, g.place, length-append f.settled g.settled);
        }

    pub stored-length : (m₀ : Page) (c₀ : E.Registers) (n₀ : ℕ) (out₀ : List ℕ) (at₀ : ℕ) (ps : List ℕ) (m : Page)
        (c : E.Registers) (n : ℕ) (out : List ℕ) (at : ℕ) → Stored E width m₀ c₀ n₀ out₀ at₀ ps m c n out at
        → length out ≡ length out₀
    stored-length m₀ c₀ n₀ out₀ at₀ ps m c n out at f = ap length f.stored ∙ length-stores out₀ at₀ f.settled

    -- one pel more within a row, with the numbers as a loop has them
    pub stored-pel : (m₀ : Page) (c₀ : E.Registers) (n₀ : ℕ) (out₀ : List ℕ) (at₀ : ℕ) (t above this : List ℕ)
        (c : E.Registers) (n : ℕ) (out : List ℕ) (at p cx : ℕ) (v : Gives E.Registers) (t' : List ℕ) (n' : ℕ)
        (out' : List ℕ) (at' : ℕ) → Stored E width m₀ c₀ n₀ out₀ at₀ this (page_of E width t above this) c n out at
        → length this < width → cx ≡ E.scheme.template above this (length this)
        → Pelled E c (get_or t cx 0) (eqb p (get_or t cx 0 % 2)) v → t' ≡ set t cx v.entry
        → n' ≡ counted v.revisited n → out' ≡ stores out at v.bytes → at' ≡ at + v.settled
        → Stored E width m₀ c₀ n₀ out₀ at₀ (this ++ (p ∷ [])) (page_of E width t' above (this ++ (p ∷ [])))
        v.registers n' out' at'
    stored-pel m₀ c₀ n₀ out₀ at₀ t above this c n out at p cx v t' n' out' at' f h ec k et en eo ea =
        stored-append m₀ c₀ n₀ out₀ at₀ this (page_of E width t above this) c n out at (p ∷ [])
        (page_of E width t' above (this ++ (p ∷ []))) v.registers n' out' at' f
        (record {
          settled = v.bytes;
          coded = subst₂ (λ (z : List ℕ) (j : ℕ). Coded E width (page_of E width t above this) c n (p ∷ [])
              (page_of E width z above (this ++ (p ∷ []))) v.registers j v.bytes) (sym et) (sym en)
              (coded-pel t above this c n p cx v h ec (page-lawful E width t above this f.coded.lawful)
              f.coded.ready k);
          stored = eo;
          place = omega (arith, k.size);
        })
