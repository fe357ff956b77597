-- The second engine is one, since with its string at the bottom it is the first; and bands written by both are the
-- same. Assumes nothing.
use mathlib.Core.Path.{◌≡◌, sym, ◌∙◌, subst₂}
use Prim.Native.Nat.{ℕ, ◌+◌, ◌≤◌, ◌<◌}
use mathlib.Core.List.{List, [], ◌++◌}
use mathlib.Core.Bool.{Bool, true}
use lib.ListN.{drop}
use Rattle.coder.specs.Page.{Page}
use Rattle.engine.specs.Coded.{shifts_of, Coded}
use Rattle.engine.proofs.Engine.{IsEngine}
use Rattle.engine.proofs.Verdict.{end-code, end-shifts, end-revisits, end-model}
use Rattle.octets.specs.declared.Coder.{Coder}
use Rattle.estimate.specs.Estimate.{row_of, next}
use Rattle.interval.specs.Interval.{decision, part_of}
use Rattle.octets.specs.declared.Put.{Put}
use Rattle.octets.specs.Octets.{start, pel}
use Rattle.octets.specs.Fit.{Ready}
use Rattle.octets.specs.Lift.{lift, settled_of}
use Rattle.top.specs.declared.Top.{Top}
use Rattle.top.specs.Top.{bottom_of, above_of, narrowed}
use Rattle.top.specs.TopLaws.{above-bottom, above_holds, top_laws}
use Rattle.row.specs.QEngine.{q_engine}
use Rattle.row.proofs.QEngine.{q_is_engine}
use Rattle.row.specs.TopEngine.{top_engine, TopSound, TopPelled}
use Rattle.row.proofs.AnyEngine.{over_is_engine, over_seven, over-first, pelled-still, pelled-moved}
use Rattle.row.proofs.AnyEngine.{up-bottom, up-ready, up-count}
use Rattle.row.specs.AnyEngine.{still_pel, moved_pel}
use Rattle.row.proofs.WrittenRow.{Seven}

abbrev pub top_is_engine : IsEngine top_engine
top_is_engine = over_is_engine bottom_of TopSound

abbrev pub top_seven : Seven top_engine
top_seven = over_seven bottom_of TopSound

-- one pel by it
pub top_pelled-still : (t : Top) (e : ℕ) → TopSound t → 4096 + row_of e ≤ t.width
    → TopPelled t e true (still_pel (narrowed (row_of e) t))
top_pelled-still = pelled-still bottom_of TopSound above_of (λ n t. n ≤ t.width) narrowed top_laws

pub top_pelled-moved : (t : Top) (e : ℕ) (b : Bool) (u : Put Top) (n : ℕ)
    → (part_of (decision (row_of e) b) (bottom_of t).interval).width < 4096
    → pel (decision (row_of e) b) (lift (bottom_of t) []) ≡ lift (bottom_of u.coder) (settled_of u)
    → TopSound u.coder → n ≡ next b e → TopPelled t e b (moved_pel u n)
top_pelled-moved = pelled-moved bottom_of TopSound

-- ---- a row from the string moved up
module _ (c₀ : Coder) (t₀ : Top) (up : t₀ ≡ above_of c₀) where
  pub top_up-bottom : bottom_of t₀ ≡ c₀
  top_up-bottom = up-bottom bottom_of TopSound above_of (λ n t. n ≤ t.width) narrowed top_laws c₀ t₀ up

  pub top_up-ready : Ready (lift c₀ []) → top_engine.Ready t₀
  top_up-ready = up-ready bottom_of TopSound above_of (λ n t. n ≤ t.width) narrowed top_laws c₀ t₀ up

  pub top_up-count : t₀.count ≡ c₀.interval.count
  top_up-count = up-count bottom_of TopSound above_of (λ n t. n ≤ t.width) narrowed top_laws c₀ t₀ up

-- whatever the second engine codes, the first does, from the string moved down to the string moved down
pub first-too : (width : ℕ) (m₀ m : Page) (t₀ t : Top) (n₀ n : ℕ) (ps xs : List ℕ)
    → Coded top_engine width m₀ t₀ n₀ ps m t n xs → Coded q_engine width m₀ (bottom_of t₀) n₀ ps m (bottom_of t) n xs
first-too = over-first bottom_of TopSound

-- whatever the first engine codes, the second does, from the string moved up to the string moved up
pub second-too : (width : ℕ) (m₀ m : Page) (c₀ c : Coder) (n₀ n : ℕ) (ps xs : List ℕ)
    → Coded q_engine width m₀ c₀ n₀ ps m c n xs → Coded top_engine width m₀ (above_of c₀) n₀ ps m (above_of c) n xs
second-too width m₀ m c₀ c n₀ n ps xs f =
    let g : Coded q_engine width m₀ (bottom_of (above_of c₀)) n₀ ps m (bottom_of (above_of c)) n xs
    = subst₂ (λ (a b : Coder). Coded q_engine width m₀ a n₀ ps m b n xs) (sym (above-bottom c₀)) (sym (above-bottom c))
    f in
    record {
      stage = g.stage;
      few = g.few;
      lawful = g.lawful;
      ready = (g.ready, above_holds c);
      count = g.count;
    }

-- Request E8: from every table and last row, and for all pels, the second engine gives the bytes, S, the pels revisited
-- and the table of the first.
pub first-and-second : (width : ℕ) (m₀ : Page) (ps : List ℕ) (c₀ c : Coder) (t₀ t : Top) (m m' : Page) (n n' : ℕ)
    (xs ys : List ℕ) → lift c₀ [] ≡ start → lift (bottom_of t₀) [] ≡ start
    → Coded q_engine width m₀ c₀ 0 ps m c n xs → Coded top_engine width m₀ t₀ 0 ps m' t n' ys
    → (drop 1 (ys ++ top_engine.last t) ≡ drop 1 (xs ++ q_engine.last c))
    × (shifts_of top_engine t ≡ shifts_of q_engine c) × (n' ≡ n) × (m' ≡ m)
first-and-second width m₀ ps c₀ c t₀ t m m' n n' xs ys s z f g = (
  sym (end-code top_engine top_is_engine width m₀ t₀ ps m' t n' ys z g) ∙ end-code q_engine q_is_engine width m₀ c₀ ps m c n
      xs s f,
  sym (end-shifts top_engine top_is_engine width m₀ t₀ ps m' t n' ys z g) ∙ end-shifts q_engine q_is_engine width m₀ c₀ ps m
      c n xs s f,
  sym (end-revisits top_engine top_is_engine width m₀ t₀ ps m' t n' ys z g) ∙ end-revisits q_engine q_is_engine width m₀ c₀
      ps m c n xs s f,
  sym (end-model top_engine top_is_engine width m₀ t₀ ps m' t n' ys z g) ∙ end-model q_engine q_is_engine width m₀ c₀ ps m c
      n xs s f,
)
