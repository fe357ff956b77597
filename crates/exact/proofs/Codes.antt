-- What is said of every written code: its bytes, its value, its length. Assumes nothing.
use mathlib.Core.Path.{◌≡◌, refl, sym, ap, ◌∙◌, subst, subst₂}
use mathlib.Core.Logic.{◌≢◌, ◌⊎◌, inl, inr}
use Prim.Native.Nat.{ℕ, ◌+◌, ◌-◌, ◌*◌, ◌/◌, ◌^◌, ◌≤◌, ◌<◌}
use native.Mathlib.Nat.{lt_of_mul-lt-mul_right}
use native.Mathlib.Omega.{arith}
use mathlib.Core.List.{List, [], ◌∷◌, ◌++◌}
use lib.ListN.{drop, length, length-append}
use lib.Pow.{pow-add}
use Rattle.ground.proofs.Tests.{same?}
use Rattle.octets.specs.Unit.{unit}
use Rattle.interval.specs.Interval.{Decision, whole}
use Rattle.octets.specs.Octets.{Registers, start, bits, run, finish, follows, ended, code}
use Rattle.octets.specs.Fit.{Ready}
use Rattle.octets.proofs.Fit.{AllSized, ready-run, ready-start, bits-ff, bits-else}
use Rattle.exact.specs.Value.{LawfulBytes, Made, LengthRule, LengthLaw, last_of, need, value, places, exact}
use Rattle.exact.proofs.Value.{head-le}
use Rattle.exact.proofs.Agree.{same-run, same_start}
use Rattle.exact.proofs.End.{value-run}
use Rattle.exact.proofs.Ahead.{Ahead}
use Rattle.exact.proofs.Follows.{made_ends}
use Rattle.exact.proofs.Going.{Going, going-run, going_end}

-- the code of a run of decisions, and its shifts
unfoldable pub written : List Decision → List ℕ
written ds = code (run ds start)

unfoldable pub counted : List Decision → ℕ
counted ds = (run ds start).interval.count

-- of any state w and any decisions that follow: w's settled bytes begin the code, and Ahead says how it goes on
extension : (es : List Decision) (w : Registers) → Ready w → AllSized es → Going w (ended (finish (run es w)))
    (run es w).interval.count
extension es w r z = going-run es w _ _ z r (going_end (run es w) (ready-run es w z r).rest)

going_start : (ds : List Decision) → AllSized ds → Going start (ended (finish (run ds start))) (counted ds)
unfolding counted
going_start ds z = extension ds start ready-start z

-- the byte before the code stays 0
first : (b K X : ℕ) → b * K ≤ X → X * 4096 < (0 * 4096 + 0 + 4096) * K → b ≡ 0
first b K X p q =
    let l : b * K < 1 * K = omega arith in
    let m : b < 1 = lt_of_mul-lt-mul_right K l in
    omega arith

ahead-zero : (all : List ℕ) (n : ℕ) (i : Ahead start all n) → i.b ≡ 0
unfolding unit
ahead-zero all n i = first i.b (2 ^ places i.b i.bs) (value (i.b ∷ i.bs)) (head-le i.b i.bs) i.roof

pub code-bytes : (ds : List Decision) → AllSized ds → ended (finish (run ds start)) ≡ 0 ∷ written ds
unfolding written code
code-bytes ds z =
    let g : Going start (ended (finish (run ds start))) (counted ds) = going_start ds z in
    let e : ended (finish (run ds start)) ≡ 0 ∷ g.ahead.bs = g.ahead.joined ∙ ap (λ (x : ℕ). x ∷ g.ahead.bs)
    (ahead-zero _ _ g.ahead) in
    e ∙ ap (λ (l : List ℕ). 0 ∷ drop 1 l) (sym e)

-- the code from the start: its bytes, and which of them were made to cover its bits
pub record Coded (code : List ℕ) (S : ℕ) : Type 0 where
  pub lawful : LawfulBytes 0 code
  pub made : List ℕ
  pub is : Made S code made

pub coded : (ds : List Decision) → AllSized ds → Coded (written ds) (counted ds)
coded ds z =
    let g : Going start (ended (finish (run ds start))) (counted ds) = going_start ds z in
    let i : Ahead start (ended (finish (run ds start))) g.n = g.ahead in
    let b0 : i.b ≡ 0 = ahead-zero _ _ i in
    let e : i.bs ≡ written ds = ap (λ (l : List ℕ). drop 1 l) (sym i.joined ∙ code-bytes ds z) in
    record {
      lawful = subst₂ (λ (b : ℕ) (l : List ℕ). LawfulBytes b l) b0 e i.lawful;
      made = i.made;
      is = record {
        covers = subst (λ (b : ℕ). 12 + counted ds ≤ places b i.made) b0 (omega (arith, i.covers, g.togo));
        wanted = subst (λ (b : ℕ). need b i.made ≤ 12 + counted ds) b0 (omega (arith, i.wanted, g.togo));
        joined = sym e ∙ subst (λ (b : ℕ). i.bs ≡ i.made ++ follows (last_of b i.made)) b0 i.split;
      };
    }

-- ---- the value of the code is the final lower end, exactly
counted-exact : (ds : List Decision) → AllSized ds → counted ds ≡ (exact ds whole).count
unfolding counted
counted-exact ds z = (same-run ds start whole z ready-start same_start).count

drop-eight : (v low n p : ℕ) → v * 2 ^ (20 + n) ≡ low * 2 ^ (8 + p) → v * 2 ^ (12 + n) ≡ low * 2 ^ p
drop-eight v low n p e =
    let x : 2 ^ (20 + n) ≡ 2 ^ 8 * 2 ^ (12 + n) = ap (λ (y : ℕ). 2 ^ y) (omega arith) ∙ pow-add 2 8 (12 + n) in
    let y : 2 ^ (8 + p) ≡ 2 ^ 8 * 2 ^ p = pow-add 2 8 p in
    let xx : v * 2 ^ (20 + n) ≡ v * (2 ^ 8 * 2 ^ (12 + n)) = ap (λ (k : ℕ). v * k) x in
    let yy : low * 2 ^ (8 + p) ≡ low * (2 ^ 8 * 2 ^ p) = ap (λ (k : ℕ). low * k) y in
    omega arith

zero-place : (l : List ℕ) → places 0 (0 ∷ l) ≡ 8 + places 0 l
unfolding places bits
zero-place l = refl

zero-value : (l : List ℕ) → value (0 ∷ l) ≡ value l
unfolding value
zero-value l = omega arith

pub value_written : (ds : List Decision) → AllSized ds → value (written ds) * 2 ^ (12 + counted ds) ≡ (exact ds
    whole).low * 2 ^ places 0 (written ds)
value_written ds z =
    let e : value (0 ∷ written ds) * 2 ^ (20 + (exact ds whole).count) ≡ (exact ds whole).low * 2 ^ places 0
    (0 ∷ written ds)
    = subst (λ (l : List ℕ). value l * 2 ^ (20 + (exact ds whole).count) ≡ (exact ds whole).low * 2 ^ places 0 l)
    (code-bytes ds z) (value-run ds z) in
    rw (counted-exact ds z) (drop-eight (value (written ds)) (exact ds whole).low (exact ds whole).count
    (places 0 (written ds)) (open-zero (written ds) _ _ e))
  where
    open-zero : (l : List ℕ) (x low : ℕ) → value (0 ∷ l) * x ≡ low * 2 ^ places 0 (0 ∷ l)
        → value l * x ≡ low * 2 ^ (8 + places 0 l)
    open-zero l x low e = rw (zero-place l) at (rw (zero-value l) at e)

-- ---- the length law
length-need : (b d : ℕ) (ds : List ℕ) → LawfulBytes b (d ∷ ds)
    → (b ≢ 255 → 8 * length ds + 1 ≤ need b (d ∷ ds) + length ds / 2)
    × (8 * length ds + 1 ≤ need b (d ∷ ds) + (length ds + 1) / 2)
unfolding need
length-need b d [] l = omega arith
length-need b d (e ∷ es) l =
    let i : (d ≢ 255 → 8 * length es + 1 ≤ need d (e ∷ es) + length es / 2)
    × (8 * length es + 1 ≤ need d (e ∷ es) + (length es + 1) / 2) = length-need d e es l.2 in
    (plain i, either (same? b 255) i)
  where
    plain : (d ≢ 255 → 8 * length es + 1 ≤ need d (e ∷ es) + length es / 2)
        × (8 * length es + 1 ≤ need d (e ∷ es) + (length es + 1) / 2)
        → b ≢ 255 → 8 * length (e ∷ es) + 1 ≤ need b (d ∷ e ∷ es) + length (e ∷ es) / 2
    plain i n = omega (arith, i.1, bits-else b n)

    either : (b ≡ 255) ⊎ (b ≢ 255) → (d ≢ 255 → 8 * length es + 1 ≤ need d (e ∷ es) + length es / 2)
        × (8 * length es + 1 ≤ need d (e ∷ es) + (length es + 1) / 2)
        → 8 * length (e ∷ es) + 1 ≤ need b (d ∷ e ∷ es) + (length (e ∷ es) + 1) / 2
    either (inl y) i = let small : d ≤ 143 = l.1 y in omega (arith, i.0 (omega arith), bits-ff b y)
    either (inr y) i = omega (arith, i.1, bits-else b y)

lawful-front : (b : ℕ) (xs ys : List ℕ) → LawfulBytes b (xs ++ ys) → LawfulBytes b xs
lawful-front b [] ys l = tt
lawful-front b (x ∷ xs) ys l = (l.0, l.1, lawful-front x xs ys l.2)

module _ (S : ℕ) (code made : List ℕ) (m : Made S code made) where
  made-length : LawfulBytes 0 code → LengthRule (length made) S
  made-length l = go made (lawful-front 0 made _ (subst (LawfulBytes 0) m.joined l)) m.wanted
    where
      go : (l : List ℕ) → LawfulBytes 0 l → need 0 l ≤ 12 + S → LengthRule (length l) S
      go [] c w h = omega arith
      go (d ∷ ds) c w h = omega (arith, (length-need 0 d ds c).0 (omega arith))

  pub length-law : LawfulBytes 0 code → LengthLaw S code made
  length-law l = go (made_ends S code made m)
    where
      one_less : code ≡ made ++ (0 ∷ []) → length made ≡ length code - 1
      one_less e = omega (arith, ap length e, length-append made (0 ∷ []))

      go : (code ≡ made) ⊎ (code ≡ made ++ (0 ∷ [])) → LengthLaw S code made
      go (inl e) = inl (e, subst (λ (c : List ℕ). LengthRule (length c) S) (sym e) (made-length l))
      go (inr e) = inr (e, subst (λ (n : ℕ). LengthRule n S) (one_less e) (made-length l))
