-- A row as a writer's loop meets it, by any engine over our seven neighbours: after x pels the table, the registers,
-- the window and the buffer are the definition's. Assumes nothing.
use mathlib.Core.Path.{◌≡◌, sym, ap, ◌∙◌, subst, subst₂}
use Prim.Native.Nat.{ℕ, suc, ◌+◌, ◌*◌, ◌%◌, ◌≤◌, ◌<◌}
use native.Mathlib.Omega.{arith}
use mathlib.Core.List.{List, [], ◌∷◌, ◌++◌}
use lib.ListN.{get_or, set, length}
use lib.Dec.{eqb}
use Rattle.coder.specs.Writing.{counted}
use Rattle.coder.specs.Page.{Page}
use Rattle.engine.specs.Engine.{Engine}
use Rattle.engine.specs.Coded.{Gives, row_page, shifts_of, LawfulTable, page_of, Stored}
use Rattle.engine.specs.Coded as any
use Rattle.engine.proofs.Engine.{IsEngine}
use Rattle.engine.proofs.Coded.{page-within, page-full, page-lawful, lawful-page, coded-revisits, stored-none}
use Rattle.engine.proofs.Coded.{stored-pel, stored-length}
use Rattle.store.specs.Store.{stores}
use Rattle.template.specs.Pels.{pel_at, pels_to, context}
use Rattle.template.specs.declared.Window.{Window}
use Rattle.template.specs.Window.{Slid}
use Rattle.template.proofs.Sliding.{slid-on, slid-small, length-pels, pels-bits, pel-bit}

-- ---- a row
-- an engine over our seven neighbours
abbrev pub Seven : Engine → Type 0
Seven E = (above this : List ℕ) (x : ℕ) → E.scheme.template above this x ≡ context above this x

module _ (E : Engine) (K : IsEngine E) (seven : Seven E) (width : ℕ) (above row t₀ : List ℕ) (c₀ : E.Registers)
    (out₀ : List ℕ) (at₀ n₀ : ℕ) where
  -- x pels of the row are written
  pub record RowAt (t : List ℕ) (c : E.Registers) (w : Window) (out : List ℕ) (at n x : ℕ) : Type 0 where
    pub done : Stored E width (page_of E width t₀ above []) c₀ n₀ out₀ at₀ (pels_to row x)
        (page_of E width t above (pels_to row x)) c n out at
    pub slid : Slid above (pels_to row x) x w
    pub passed : x ≤ width

  pub row-start : (w : Window) → Slid above [] 0 w → LawfulTable E t₀ → E.Ready c₀
      → RowAt t₀ c₀ w out₀ at₀ n₀ 0
  unfolding pels_to
  row-start w s l r =
      record {
        done = stored-none E K width (page_of E width t₀ above []) c₀ n₀ out₀ at₀ (lawful-page E width t₀ above [] l) r;
        slid = s;
        passed = omega arith;
      }

  -- the numbers in the loop
  module _ (t : List ℕ) (c : E.Registers) (w : Window) (out : List ℕ) (at n x : ℕ) (r : RowAt t c w out at n x) where
    pub row-window : ((y : ℕ) → get_or above y 0 ≤ 1) → (w.above < 32) × (w.this < 4)
    row-window b = slid-small above (pels_to row x) x w b (pels-bits row x) r.slid

    pub row_lawful : LawfulTable E t
    row_lawful = page-lawful E width t above (pels_to row x) r.done.coded.lawful

    pub row_count : shifts_of E c ≤ shifts_of E c₀ + 12 * x
    row_count = omega (arith, r.done.coded.count, length-pels row x)

    pub row-place : at ≤ at₀ + 2 * x
    row-place = omega (arith, r.done.place, r.done.coded.few, length-pels row x)

    pub row-revisits : n₀ ≤ shifts_of E c₀ → n ≤ shifts_of E c
    row-revisits h = coded-revisits E K width _ c₀ n₀ _ _ c n _ r.done.coded h

    pub row-length : length out ≡ length out₀
    row-length = stored-length E K width _ c₀ n₀ out₀ at₀ _ _ c n out at r.done

    -- a pel p more, in the context cx
    pub row-again : (v : Gives E.Registers) → x < width → (cx p : ℕ) (t' : List ℕ) (w' : Window) (out' : List ℕ)
        (at' n' : ℕ) → ((y : ℕ) → get_or above y 0 ≤ 1) → cx ≡ context above (pels_to row x) x → p ≡ pel_at row x
        → any.Pelled E c (get_or t cx 0) (eqb p (get_or t cx 0 % 2)) v → t' ≡ set t cx v.entry
        → w'.above ≡ (2 * w.above + get_or above (x + 3) 0) % 32 → w'.this ≡ (2 * w.this + p) % 4
        → out' ≡ stores out at v.bytes → at' ≡ at + v.settled → n' ≡ counted v.revisited n
        → RowAt t' v.registers w' out' at' n' (suc x)
    unfolding pels_to
    row-again v h cx p t' w' out' at' n' b ec ep k et wa wt eo ea en =
        let this : List ℕ = pels_to row x in
        let l : length this ≡ x = length-pels row x in
        let ec' : cx ≡ E.scheme.template above this (length this) = ec ∙ ap (context above this) (sym l)
        ∙ sym (seven above this (length this)) in
        let d : Stored E width (page_of E width t₀ above []) c₀ n₀ out₀ at₀ (this ++ (p ∷ []))
        (page_of E width t' above (this ++ (p ∷ []))) v.registers n' out' at'
        = stored-pel E K width _ c₀ n₀ out₀ at₀ t above this c n out at p cx v t' n' out' at' r.done
        (omega arith) ec' k et en eo ea in
        record {
          done = subst (λ (z : ℕ). Stored E width (page_of E width t₀ above []) c₀ n₀ out₀ at₀ (this ++ (z ∷ []))
              (page_of E width t' above (this ++ (z ∷ []))) v.registers n' out' at') ep d;
          slid = subst (λ (z : ℕ). Slid above (this ++ (z ∷ [])) (suc x) w') ep
              (slid-on above this x p w w' b (pels-bits row x) l (subst (λ (z : ℕ). z ≤ 1) (sym ep) (pel-bit row x))
              r.slid wa wt);
          passed = h;
        }

    -- the whole row
    pub row_done : 1 ≤ width → x ≡ width → Stored E width (row_page t₀ above) c₀ n₀ out₀ at₀ (pels_to row width)
        (row_page t (pels_to row width)) c n out at
    row_done h e =
        let this : List ℕ = pels_to row width in
        subst₂ (λ (m₀ m : Page). Stored E width m₀ c₀ n₀ out₀ at₀ this m c n out at)
        (page-within E width t₀ above [] h) (page-full E width t above this (length-pels row width))
        (subst (λ (y : ℕ). Stored E width (page_of E width t₀ above []) c₀ n₀ out₀ at₀ (pels_to row y)
        (page_of E width t above (pels_to row y)) c n out at) e r.done)
