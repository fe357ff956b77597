-- The Q-coder is a coder: on a written code its reader decides each pel as it was written. Assumes nothing.
use mathlib.Core.Path.{◌≡◌, refl, sym, ap, ◌∙◌, subst, subst₂}
use Prim.Native.Nat.{ℕ, ◌-◌, ◌*◌, ◌^◌, ◌≤◌, ◌<◌}
use native.Mathlib.Omega.{arith}
use mathlib.Core.Bool.{Bool, true, false}
use mathlib.Core.List.{List, [], ◌∷◌, ◌++◌}
use lib.ListN.{drop, get_or}
use lib.Dec.{ltb}
use Rattle.coder.proofs.Reading.{IsCoder}
use Rattle.estimate.proofs.LawfulEntries.{Sized}
use Rattle.interval.specs.Interval.{Decision, decision}
use Rattle.octets.specs.Octets.{Registers, start, part, pel, run, finish, ended, code}
use Rattle.octets.proofs.Fit.{upper, lower, AllSized, ready-run, ready-start, rest_part}
use Rattle.octets.specs.Fit.{Ready}
use Rattle.octets.proofs.Fit.{Sized as Coded}
use Rattle.exact.specs.Value.{places}
use Rattle.exact.proofs.Ahead.{Ahead, ahead-covers}
use Rattle.exact.proofs.Going.{Going, going-part, going_end, going-shifts}
use Rattle.exact.proofs.Codes.{written, code-bytes}
use Rattle.exact.specs.Sight.{Sight, opened, seek, decide, above, under, taken}
use Rattle.exact.proofs.Reader.{Sees, sees-upper, sees-lower, sees-shifts, sees-start, expects, refuses, decide_true}
use Rattle.exact.proofs.Reader.{decide-false}
use Rattle.band.specs.Band.{q_writer}
use Rattle.unique.specs.QCoder.{q_reader}

-- ready: reached from the start by decisions of lawful sizes
pub record Reached (w : Registers) : Type 0 where
  pub ds : List Decision
  pub sized : AllSized ds
  pub is : run ds start ≡ w

pub record Ends (w : Registers) (c : List ℕ) : Type 0 where
  pub total : ℕ
  pub going : Going w (0 ∷ c) total

run_none : run [] start ≡ start
unfolding run
run_none = refl

run-snoc : (ds : List Decision) (d : Decision) (w : Registers) → run (ds ++ (d ∷ [])) w ≡ pel d (run ds w)
unfolding run
run-snoc [] d w = refl
run-snoc (x ∷ xs) d w = run-snoc xs d (pel x w)

size : (q : ℕ) (e : Bool) → Sized q → Coded (decision q e)
size q e z = record { some = z.some; small = z.small }

all_snoc : (ds : List Decision) (d : Decision) → AllSized ds → Coded d → AllSized (ds ++ (d ∷ []))
all_snoc [] d a z = (z, tt)
all_snoc (x ∷ xs) d a z = (a.0, all_snoc xs d a.1 z)

ready : (w : Registers) → Reached w → Ready w
ready w r = subst Ready r.is (ready-run r.ds start r.sized ready-start)

reached-put : (q : ℕ) (e : Bool) (w : Registers) → Sized q → Reached w → Reached (pel (decision q e) w)
reached-put q e w z r =
    record {
      ds = r.ds ++ (decision q e ∷ []);
      sized = all_snoc r.ds (decision q e) r.sized (size q e z);
      is = run-snoc r.ds (decision q e) start ∙ ap (pel (decision q e)) r.is;
    }

ends-here : (w : Registers) → Reached w → Ends w (code w)
unfolding written code
ends-here w r =
    let e : ended (finish w) ≡ 0 ∷ drop 1 (ended (finish w)) = subst (λ (v : Registers). ended (finish v) ≡ 0
    ∷ drop 1 (ended (finish v))) r.is (code-bytes r.ds r.sized) in
    record {
      total = w.interval.count;
      going = subst (λ (l : List ℕ). Going w l w.interval.count) e (going_end w (ready w r).rest);
    }

ends-part : (q : ℕ) (e : Bool) (w : Registers) (c : List ℕ) → Sized q → Reached w → Ends (pel (decision q e) w) c
    → Ends (part (decision q e) w) c
ends-part q e w c z r i =
    record {
      total = i.total;
      going = going-shifts 12 (part (decision q e) w) (0 ∷ c) i.total
          (rest_part (decision q e) w (ready w r) (size q e z)) i.going;
    }

ends-back : (q : ℕ) (e : Bool) (w : Registers) (c : List ℕ) → Sized q → Reached w → Ends (pel (decision q e) w) c
    → Ends w c
ends-back q e w c z r i =
    let k : Ends (part (decision q e) w) c = ends-part q e w c z r i in
    record {
      total = k.total;
      going = going-part (decision q e) w (0 ∷ c) k.total (ready w r) (size q e z) k.going;
    }

sees-first : (c : List ℕ) → Ends start c → Sees (opened c) start (0 ∷ c)
sees-first c i =
    let a : Ahead start (0 ∷ c) i.going.n = i.going.ahead in
    let b : 0 ≡ a.b = ap (λ (l : List ℕ). get_or l 0 0) a.joined in
    let s : c ≡ a.bs = ap (λ (l : List ℕ). drop 1 l) a.joined in
    sees-start c (0 ∷ c) refl (subst₂ (λ (x : ℕ) (l : List ℕ). 12 ≤ places x l) (sym b) (sym s)
    (omega (arith, ahead-covers start (0 ∷ c) i.going.n a, i.going.togo)))

module _ (q : ℕ) (w : Registers) (r : Sight) (c : List ℕ) (z : Sized q) (f : Reached w) (g : Sees r w (0 ∷ c)) where
  high : Ends (pel (decision q true) w) c → q * 2 ^ r.look ≤ r.x
  high i = let k : Ends (upper q w) c = ends-part q true w c z f i in expects q r w (0 ∷ c) k.going.n g
      k.going.ahead

  low : Ends (pel (decision q false) w) c → r.x < q * 2 ^ r.look
  low i = let k : Ends (lower q w) c = ends-part q false w c z f i in refuses q r w (0 ∷ c) k.going.n g
      k.going.ahead

  asks : (e : Bool) → Ends (pel (decision q e) w) c → decide q r ≡ e
  asks true i = decide_true q r (high i)
  asks false i = decide-false q r (low i)

  shifts : (e : Bool) → Ends (pel (decision q e) w) c → ltb (taken q e r).width 0x1000 ≡ ltb
      (part (decision q e) w).interval.width 0x1000
  shifts true i = ap (λ (a : ℕ). ltb (a - q) 0x1000) g.wide
  shifts false i = refl

  takes : (e : Bool) → Ends (pel (decision q e) w) c → Sees (seek 12 (taken q e r)) (pel (decision q e) w) (0 ∷ c)
  takes true i = sees-shifts 12 (above q r) (upper q w) (0 ∷ c) i.total (rest_part (decision q true) w (ready w f)
      (size q true z)) (sees-upper q r w (0 ∷ c) (high i) g) i.going
  takes false i = sees-shifts 12 (under q r) (lower q w) (0 ∷ c) i.total (rest_part (decision q false) w (ready w f)
      (size q false z)) (sees-lower q r w (0 ∷ c) g) i.going

pub q_coder : IsCoder q_writer q_reader Sized
q_coder =
    record {
      Ready = Reached;
      Ends = Ends;
      Beside = λ r w c. Sees r w (0 ∷ c);
      ready-start = record { ds = []; sized = tt; is = run_none };
      ready-put = reached-put;
      ends-here = ends-here;
      ends-back = ends-back;
      beside-start = sees-first;
      asks = λ q e w r c z f i g. asks q w r c z f g e i;
      shifts = λ q e w r c z f i g. shifts q w r c z f g e i;
      takes = λ q e w r c z f i g. takes q w r c z f g e i;
    }
