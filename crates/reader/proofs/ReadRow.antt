-- A row as a reader's loop meets it, by any engine over our seven neighbours and any reader beside it: after x pels it
-- has read what the reader reads, the engine has coded those pels, and each byte that is settled was compared with the
-- code. Assumes nothing.
use mathlib.Core.Path.{◌≡◌, refl, sym, ap, ◌∙◌, subst, subst₂}
use Prim.Native.Nat.{ℕ, suc, ◌+◌, ◌-◌, ◌*◌, ◌/◌, ◌%◌, ◌^◌, ◌≤◌, ◌<◌}
use native.Mathlib.Omega.{arith}
use mathlib.Core.Bool.{Bool, ◌&&◌}
use mathlib.Core.List.{List, [], ◌∷◌, ◌++◌}
use lib.ListN.{get_or, set, length, replicate}
use lib.Dec.{ltb}
use Rattle.limits.specs.Limits.{max_width, last_bytes}
use Rattle.coder.specs.Writing.{counted}
use Rattle.coder.specs.Page.{Page}
use Rattle.coder.specs.Reading.{Reader}
use Rattle.coder.proofs.Reading.{pel_of-bit}
use Rattle.engine.specs.Engine.{Engine}
use Rattle.engine.specs.Coded.{Gives, row_page, shifts_of, LawfulTable, page_of}
use Rattle.engine.specs.Followed.{matches, Told, Followed}
use Rattle.engine.proofs.Engine.{IsEngine}
use Rattle.engine.proofs.Coded.{page-within, page-full, page-lawful, lawful-page, coded-revisits}
use Rattle.engine.proofs.Followed.{followed-none, followed-turn}
use Rattle.estimate.specs.Estimate.{row_of}
use Rattle.exact.specs.Sight.{Sight}
use Rattle.octets.specs.declared.Coder.{Coder}
use Rattle.row.specs.QEngine.{q_engine}
use Rattle.row.proofs.WrittenRow.{Seven}
use Rattle.sight.specs.declared.View.{View}
use Rattle.sight.specs.declared.Told.{Told as Tells}
use Rattle.sight.specs.Views.{sight_of, ReadPel}
use Rattle.sight.proofs.Views.{taken-width}
use Rattle.template.specs.Pels.{pels_to, context}
use Rattle.template.specs.declared.Window.{Window}
use Rattle.template.specs.Window.{Slid}
use Rattle.template.specs.Packing.{Row}
use Rattle.template.proofs.Sliding.{slid-on, slid-small, length-pels, pels-bits}
use Rattle.template.proofs.Packing.{row_next, pels-next, byte-room}
use Rattle.top.specs.declared.Top.{Top}
use Rattle.top.specs.Top.{bottom_of, above_of}
use Rattle.row.specs.AnyEngine.{given}
use Rattle.row.specs.TopEngine.{top_engine}
use Rattle.row.proofs.TopEngine.{first-too, top_up-bottom}
use Rattle.unique.specs.QCoder.{q_reader}

-- one pel as the code reads it: told as our reader decides, and coded as told
pub read_told : (c : Top) (v : View) (code : List ℕ) (e : ℕ) (t : Tells) → ReadPel c v code e t
    → Told top_engine q_reader c (sight_of v c.width code) e t.expected t.p
    (sight_of t.view t.pel.coder.width code) (given e t.pel)
read_told c v code e t k =
    record {
      asked = k.asked;
      told = k.told;
      moves = ap (λ (z : ℕ). ltb z 0x1000) (taken-width (row_of e) t.expected
          (sight_of v c.width code) (bottom_of c).interval refl);
      goes = k.sight;
      pelled = k.pelled;
    }

-- pels followed by the second engine, from the string moved up, are followed by the first, to the string moved down
pub read_down : (c₀ : Coder) (t₀ : Top) → t₀ ≡ above_of c₀ → (width : ℕ) (code : List ℕ) (m₀ m : Page) (t : Top)
    (n₀ n at₀ at : ℕ) (good₀ good : Bool) (v₀ : View) (r : Sight) (ps : List ℕ)
    → Followed top_engine q_reader width code m₀ t₀ n₀ at₀ good₀ (sight_of v₀ t₀.width code) ps m t n at good r
    → Followed q_engine q_reader width code m₀ c₀ n₀ at₀ good₀ (sight_of v₀ c₀.interval.width code) ps m (bottom_of t)
    n at good r
read_down c₀ t₀ up width code m₀ m t n₀ n at₀ at good₀ good v₀ r ps f =
    subst₂ (λ (c : Coder) (s : Sight). Followed q_engine q_reader width code m₀ c n₀ at₀ good₀ s ps m (bottom_of t) n at
    good r) (top_up-bottom c₀ t₀ up) (ap (λ (u : Top). sight_of v₀ u.width code) up)
    (record {
      settled = f.settled;
      coded = first-too width m₀ m t₀ t n₀ n ps _ f.coded;
      read = f.read;
      matched = f.matched;
      place = f.place;
    })

module _ (E : Engine) (K : IsEngine E) (seven : Seven E) (R : Reader) (width : ℕ) (above t₀ : List ℕ)
    (c₀ : E.Registers) (code : List ℕ) (at₀ n₀ : ℕ) (good₀ : Bool) (r₀ : R.State) where
  -- x pels of the row are read
  pub record RowRead (row t : List ℕ) (c : E.Registers) (w : Window) (r : R.State) (at n : ℕ) (good : Bool)
      (x : ℕ) : Type 0 where
    pub done : Followed E R width code (page_of E width t₀ above []) c₀ n₀ at₀ good₀ r₀ (pels_to row x)
        (page_of E width t above (pels_to row x)) c n at good r
    pub slid : Slid above (pels_to row x) x w
    pub packed : Row row x
    pub passed : x ≤ width

  pub read-start : (w : Window) → Slid above [] 0 w → LawfulTable E t₀ → E.Ready c₀ → Row (replicate last_bytes 0) 0
      → RowRead (replicate last_bytes 0) t₀ c₀ w r₀ at₀ n₀ good₀ 0
  unfolding pels_to
  read-start w s l f p =
      record {
        done = followed-none E K R width code (page_of E width t₀ above []) c₀ n₀ at₀ good₀ r₀
            (lawful-page E width t₀ above [] l) f;
        slid = s;
        packed = p;
        passed = omega arith;
      }

  module _ (row t : List ℕ) (c : E.Registers) (w : Window) (r : R.State) (at n : ℕ) (good : Bool) (x : ℕ)
      (f : RowRead row t c w r at n good x) where
    -- the numbers in the loop
    pub read-window : ((y : ℕ) → get_or above y 0 ≤ 1) → (w.above < 32) × (w.this < 4)
    read-window b = slid-small above (pels_to row x) x w b (pels-bits row x) f.slid

    pub read-lawful : LawfulTable E t
    read-lawful = page-lawful E width t above (pels_to row x) f.done.coded.lawful

    pub read-few : n₀ ≤ shifts_of E c₀
        → (shifts_of E c ≤ shifts_of E c₀ + 12 * x) × (at ≤ at₀ + 2 * x) × (n ≤ shifts_of E c)
    read-few h = (
      omega (arith, f.done.coded.count, length-pels row x),
      omega (arith, f.done.place, f.done.coded.few, length-pels row x),
      coded-revisits E K width _ c₀ n₀ _ _ c n _ f.done.coded h,
    )

    -- there is room for the pel in its byte
    pub read-room : (p : ℕ) → x < max_width → p ≤ 1 → get_or row (x / 8) 0 + p * 2 ^ (7 - x % 8) ≤ 255
    read-room p h b = byte-room row x p f.packed h b

    -- one pel more, in the context cx
    pub read-turn : (v : Gives E.Registers) → x < width → width ≤ max_width → (b : Bool) (cx p weight : ℕ)
        (s : R.State) (t' : List ℕ) (w' : Window) (at' n' : ℕ) (good' : Bool) → ((y : ℕ) → get_or above y 0 ≤ 1)
        → cx ≡ context above (pels_to row x) x → Told E R c r (get_or t cx 0) b p s v → weight ≡ p * 2 ^ (7 - x % 8)
        → t' ≡ set t cx v.entry → w'.above ≡ (2 * w.above + get_or above (x + 3) 0) % 32
        → w'.this ≡ (2 * w.this + p) % 4 → at' ≡ at + v.settled → n' ≡ counted v.revisited n
        → good' ≡ (good && matches code at v.bytes)
        → RowRead (set row (x / 8) (get_or row (x / 8) 0 + weight)) t' v.registers w' s at' n' good' (suc x)
    read-turn v h narrow b cx p weight s t' w' at' n' good' bits ec k ew et wa wt ea en eg =
        let this : List ℕ = pels_to row x in
        let l : length this ≡ x = length-pels row x in
        let ec' : cx ≡ E.scheme.template above this (length this) = ec ∙ ap (context above this) (sym l)
        ∙ sym (seven above this (length this)) in
        let one : p ≤ 1 = subst (λ (z : ℕ). z ≤ 1) (sym k.told) (pel_of-bit (get_or t cx 0 % 2) b (omega arith)) in
        let e : this ++ (p ∷ []) ≡ pels_to (set row (x / 8) (get_or row (x / 8) 0 + p * 2 ^ (7 - x % 8))) (suc x) =
        sym (pels-next row x p f.packed (omega arith) one) in
        subst (λ (z : ℕ). RowRead (set row (x / 8) (get_or row (x / 8) 0 + z)) t' v.registers w' s at' n' good'
        (suc x)) (sym ew)
        (record {
          done = subst (λ (z : List ℕ). Followed E R width code (page_of E width t₀ above []) c₀ n₀ at₀ good₀ r₀ z
              (page_of E width t' above z) v.registers n' at' good' s) e
              (followed-turn E K R width code (page_of E width t₀ above []) c₀ n₀ at₀ good₀ r₀ t above this c n at good
              r b p cx s v t' n' at' good' f.done (omega arith) ec' k et en ea eg);
          slid = subst (λ (z : List ℕ). Slid above z (suc x) w') e
              (slid-on above this x p w w' bits (pels-bits row x) l one f.slid wa wt);
          packed = row_next row x p f.packed (omega arith) one;
          passed = h;
        })

    -- the whole row
    pub read_whole : 1 ≤ width → x ≡ width
        → Followed E R width code (row_page t₀ above) c₀ n₀ at₀ good₀ r₀ (pels_to row width)
        (row_page t (pels_to row width)) c n at good r
    read_whole h e =
        let this : List ℕ = pels_to row width in
        subst₂ (λ (m₀ m : Page). Followed E R width code m₀ c₀ n₀ at₀ good₀ r₀ this m c n at good r)
        (page-within E width t₀ above [] h) (page-full E width t above this (length-pels row width))
        (subst (λ (y : ℕ). Followed E R width code (page_of E width t₀ above []) c₀ n₀ at₀ good₀ r₀ (pels_to row y)
        (page_of E width t above (pels_to row y)) c n at good r) e f.done)
