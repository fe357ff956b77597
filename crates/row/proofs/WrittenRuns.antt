-- Expected pels with no shift, as a writer's loop meets them, by any engine: one, and a white run of them at once.
-- Assumes nothing.
use mathlib.Core.Path.{◌≡◌, refl, sym, ap, ◌∙◌, subst}
use Prim.Native.Nat.{ℕ, suc, ◌+◌, ◌-◌, ◌*◌, ◌%◌, ◌≤◌, ◌<◌}
use native.Mathlib.Omega.{arith}
use mathlib.Core.Bool.{Bool, true, false}
use mathlib.Core.List.{List, []}
use lib.ListN.{get_or}
use lib.Seq.{set-get_or}
use lib.Dec.{eqb}
use borrow.Author.Tests.{eq-eqb}
use Rattle.engine.specs.Engine.{Engine}
use Rattle.engine.specs.Coded.{Gives, Pelled}
use Rattle.engine.proofs.Engine.{IsEngine}
use Rattle.octets.proofs.Runs.{in-steps}
use Rattle.store.specs.Store.{stores}
use Rattle.template.specs.Pels.{pel_at, pels_to, context}
use Rattle.template.specs.declared.Window.{Window}
use Rattle.template.proofs.Sliding.{slid-context}
use Rattle.template.specs.White.{Clear, white_window}
use Rattle.template.proofs.White.{slid-white}
use Rattle.row.proofs.WrittenRow.{Seven, RowAt, row-again}

-- a pel that leaves its context's entry as it is and settles nothing
abbrev pub stays : {R : Type 0} → R → ℕ → Gives R
stays c e = record { registers = c; entry = e; revisited = false; settled = 0; bytes = [] }

-- what an engine does at expected pels with no shift: their sizes add up, and the width falls by as much
pub record Stills (E : Engine) : Type 0 where
  pub width : E.Registers → ℕ
  pub by : ℕ → E.Registers → E.Registers
  pub none : (c : E.Registers) → by 0 c ≡ c
  pub more : (m n : ℕ) (c : E.Registers) → by n (by m c) ≡ by (m + n) c
  pub narrow : (m : ℕ) (c : E.Registers) → width (by m c) ≡ width c - m
  pub pelled : (c : E.Registers) (e : ℕ) → E.Ready c → 4096 + E.scheme.size e ≤ width c
      → Pelled E c e true (stays (by (E.scheme.size e) c) e)

-- ---- white pels in context 0, whose entry expects white
module _ (E : Engine) (K : IsEngine E) (S : Stills E) (seven : Seven E) (width : ℕ) (above row t₀ : List ℕ)
    (c₀ : E.Registers) (out₀ : List ℕ) (at₀ n₀ : ℕ) (t out : List ℕ) (at n : ℕ) (white : get_or t 0 0 % 2 ≡ 0)
    (b : (y : ℕ) → get_or above y 0 ≤ 1) where
  abbrev e : ℕ
  e = get_or t 0 0

  abbrev q : ℕ
  q = E.scheme.size e

  abbrev On : E.Registers → ℕ → Type 0
  On c x = RowAt E K seven width above row t₀ c₀ out₀ at₀ n₀ t c (white_window above x) out at n x

  -- one of them: table, buffer, place and count stay
  one : (c : E.Registers) (x : ℕ) → On c x → x < width → 4096 + q ≤ S.width c → pel_at row x ≡ 0
      → get_or above (x + 2) 0 ≡ 0 → On (S.by q c) (suc x)
  unfolding stores
  one c x r h wide p a =
      let cx : 0 ≡ context above (pels_to row x) x = sym (omega (arith, a)) ∙ slid-context above (pels_to row x) x
      (white_window above x) r.slid in
      let s : get_or above (suc x + 2) 0 ≡ get_or above (x + 3) 0 = ap (λ (k : ℕ). get_or above k 0) (omega arith) in
      let k : Pelled E c e (eqb 0 (e % 2)) (stays (S.by q c) e)
      = subst (λ (v : Bool). Pelled E c e v (stays (S.by q c) e)) (sym (eq-eqb 0 (e % 2) (sym white)))
      (S.pelled c e r.done.coded.ready wide) in
      row-again E K seven width above row t₀ c₀ out₀ at₀ n₀ t c (white_window above x) out at n x r
      (stays (S.by q c) e) h 0 0 t (white_window above (suc x)) out at n b cx (sym p) k (sym (set-get_or t 0 0))
      (omega (arith, b (x + 3))) (omega arith) refl (omega arith) refl

  -- as the code has it: m of the pels up to y, from a window that is white, are one step
  pub row-run : (c : E.Registers) (w : Window) (x y m s : ℕ)
      → RowAt E K seven width above row t₀ c₀ out₀ at₀ n₀ t c w out at n x → 4 * w.above + w.this ≡ 0
      → Clear row above width x y → x ≤ y → m ≤ y - x → s ≡ m * q → 4096 + s ≤ S.width c → On (S.by s c) (x + m)
  row-run c w x y m s r z f l h e room =
      subst (λ (k : ℕ). On (S.by k c) (x + m)) (sym e)
      (in-steps q x y (S.width c - 4096) (λ k v. On (S.by k c) v) step m (omega arith) (omega arith)
      (subst (λ (d : E.Registers). On d x) (sym (S.none c))
      (subst (λ (v : Window). RowAt E K seven width above row t₀ c₀ out₀ at₀ n₀ t c v out at n x)
      (slid-white above (pels_to row x) x w r.slid z) r)))
    where
      step : (k v : ℕ) → x ≤ v → v < y → k + q ≤ S.width c - 4096 → On (S.by k c) v → On (S.by (k + q) c) (suc v)
      step k v a b g u =
          subst (λ (d : E.Registers). On d (suc v)) (S.more k q c)
          (one (S.by k c) v u (omega (arith, f.within)) (omega (arith, S.narrow k c)) (f.white.pels v a b)
          (f.under.pels v a b))
