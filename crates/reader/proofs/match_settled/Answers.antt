-- The bytes that a pel settled compared with the code. Assumes nothing.
use mathlib.Core.Path.{◌≡◌, sym, ap, ◌∙◌}
use mathlib.Core.Bool.{Bool, true, ◌&&◌}
use native.Mathlib.Numerals.{add-one}
use Prim.Native.Nat.{suc}
use Rattle.engine.specs.Followed.{match_at, matches}
use Rattle.engine.proofs.Matching.{with-true, and_assoc}
use Rattle.reader.proofs.match_settled.Goals as goal
use Rattle.reader.proofs.match_settled.Goals.{Joined-good-2, then-good-2, else-good-2}

-- ---- whether the first of two is the code's
first : (c : Joined-good-2) → c.if-good-2.value ≡ (c.args.good && match_at c.args.code.now c.args.at c.in-Two.b)
first c = elim c.if-good-2.branch [
  | then-good-2 w ↦ rw w.if-good-2.true (w.value-is ∙ w.match_one-then-good-2.ensures)
  | else-good-2 w ↦ rw w.if-good-2.false (w.value-is ∙ w.if-good-2.false)
]

-- ---- the answers
pub returns-in-Nothing : goal.returns-in-Nothing
unfolding matches
returns-in-Nothing c = rw c.in-Nothing.is (sym (with-true _))

pub returns-then-good : goal.returns-then-good
unfolding matches
returns-then-good c = rw (c.in-One.is, c.if-good.true) (c.match_one.ensures ∙ sym (with-true _))

pub returns-then-match_one : goal.returns-then-match_one
unfolding matches
returns-then-match_one c =
    let a = c.args in
    let w = c.in-Two in
    let g = sym (first (goal.at.returns-then-match_one c).Joined-good-2) ∙ c.if-match_one.true in
    let second = match_at a.code.now (suc a.at) w.c in
    rw w.is
    ((rw add-one at c.match_one-then-match_one.ensures) ∙ sym (with-true second)
    ∙ ap (λ (b : Bool). b && (second && true)) (sym g)
    ∙ and_assoc a.good (match_at a.code.now a.at w.b) (second && true))

pub returns-else-match_one : goal.returns-else-match_one
unfolding matches
returns-else-match_one c =
    let a = c.args in
    let w = c.in-Two in
    let g = sym (first (goal.at.returns-else-match_one c).Joined-good-2) ∙ c.if-match_one.false in
    let second = match_at a.code.now (suc a.at) w.c in
    rw w.is
    (c.if-match_one.false ∙ ap (λ (b : Bool). b && (second && true)) (sym g)
    ∙ and_assoc a.good (match_at a.code.now a.at w.b) (second && true))
