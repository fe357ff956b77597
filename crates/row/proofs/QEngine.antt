-- The first engine is one: nothing looks at the bytes that were settled, and what is kept is kept. Assumes nothing.
use mathlib.Core.Path.{◌≡◌, refl, sym, ap, ◌∙◌, subst}
use Prim.Native.Nat.{ℕ, ◌+◌, ◌≤◌}
use native.Mathlib.Omega.{arith}
use mathlib.Core.List.{List, [], ◌∷◌, ◌++◌, append-nil}
use lib.ListN.{length, drop, length-append}
use Rattle.engine.proofs.Engine.{IsEngine}
use Rattle.estimate.proofs.LawfulEntries.{row_sized, next-lawful}
use Rattle.interval.specs.Interval.{decision}
use Rattle.octets.specs.declared.Coder.{Coder}
use Rattle.octets.specs.Octets.{Registers, pel, finish, bytes, follows, ended, code}
use Rattle.octets.specs.Fit.{Ready}
use Rattle.octets.specs.Lift.{lift}
use Rattle.octets.proofs.Fit.{ready-pel}
use Rattle.octets.proofs.Loops.{behind, behind-pel, behind-finish, pel-count}
use Rattle.octets.proofs.Ending.{ended-behind}
use Rattle.octets.proofs.OnePel.{ready-bare}
use Rattle.band.proofs.Revisits.{q-counts}
use Rattle.row.specs.QEngine.{q_engine}

-- the bytes before stay before
lift-behind : (c : Coder) (xs : List ℕ) → lift c xs ≡ behind xs (lift c [])
lift-behind c xs = λ i. record {
  interval = c.interval;
  until = c.until;
  held = c.held;
  settled = sym (append-nil xs) i;
}

-- the last bytes come after those that were settled
finish-behind : (c : Coder) (xs : List ℕ) → code (lift c xs) ≡ drop 1 (xs ++ ended (finish (lift c [])))
unfolding code
finish-behind c xs =
    ap (λ (w : Registers). drop 1 (ended (finish w))) (lift-behind c xs)
    ∙ ap (λ (w : Registers). drop 1 (ended w)) (behind-finish xs (lift c []))
    ∙ ap (drop 1) (ended-behind xs (finish (lift c [])))

ended_some : (w : Registers) → 1 ≤ length (ended w)
unfolding ended bytes
ended_some w =
    omega (
      arith,
      length-append (w.settled ++ (w.held ∷ [])) (follows w.held),
      length-append w.settled (w.held ∷ []),
    )

pub q_is_engine : IsEngine q_engine
q_is_engine =
    record {
      puts = λ q e c d xs ys k. ap (pel (decision q e)) (lift-behind c xs) ∙ behind-pel (decision q e) xs (lift c [])
          ∙ ap (behind xs) k;
      moves = λ q e c xs. refl;
      count = λ c xs. refl;
      twelve = λ q e c d ys k. subst (λ (w : Registers). w.interval.count ≤ c.interval.count + 12) k
          (pel-count (decision q e) (lift c []));
      counts = q-counts;
      ready = λ e b c d ys l r k. ready-bare d ys [] (subst Ready k (ready-pel (decision _ b) (lift c []) r
          (record { some = (row_sized e).some; small = (row_sized e).small })));
      next = next-lawful;
      ends = finish-behind;
      some = λ c. ended_some (finish (lift c []));
    }
