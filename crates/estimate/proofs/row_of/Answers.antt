-- Each arm of the match is the row of its index; no lawful entry comes to the last two. Assumes nothing.
use mathlib.Core.Path.{◌≡◌, refl, ap, ◌∙◌}
use Prim.Native.Nat.{ℕ, zero, suc, ◌/◌, ◌%◌, ◌≤◌, ◌<◌}
use native.Mathlib.Decide.{dec_lt}
use native.Mathlib.Omega.{arith}
use lib.ListN.{get_or}
use Rattle.estimate.specs.Estimate.{rows, row_of, LawfulEntry}
use Rattle.estimate.proofs.row_of.Goals as goal

-- the five bits are the index
arm : (e k v : ℕ) → LawfulEntry e → e / 2 % 32 ≡ k → v ≡ get_or rows k 1 → v ≡ row_of e
unfolding row_of
arm e k v h i r = let j : k ≡ e / 2 = omega arith in r ∙ ap (λ (n : ℕ). get_or rows n 1) j

-- none of the first n numbers
abbrev NoneBelow : ℕ → ℕ → Type 0
NoneBelow zero x = Unit {0}
NoneBelow (suc n) x = NoneBelow n x × (x ≡ n → ⊥)

past : (n x : ℕ) → NoneBelow n x → n ≤ x
past zero x h = omega arith
past (suc n) x h = go (past n x h.0) (dec_lt n x)
  where
    go : n ≤ x → Dec (n < x) → suc n ≤ x
    go k (yes l) = l
    go k (no l) = absurd (h.1 (omega arith))

rest-arm : (e : ℕ) → LawfulEntry e → NoneBelow 31 (e / 2 % 32) → 1 ≡ row_of e
rest-arm e h n = let k : 31 ≤ e / 2 % 32 = past 31 (e / 2 % 32) n in absurd (omega arith)

pub returns-in-0 : goal.returns-in-0
returns-in-0 c = arm c.args.e 0 0x0AC1 c.requires c.in-0.is refl

pub returns-in-1 : goal.returns-in-1
returns-in-1 c = arm c.args.e 1 0x0A81 c.requires c.in-1.is refl

pub returns-in-2 : goal.returns-in-2
returns-in-2 c = arm c.args.e 2 0x0A01 c.requires c.in-2.is refl

pub returns-in-3 : goal.returns-in-3
returns-in-3 c = arm c.args.e 3 0x0901 c.requires c.in-3.is refl

pub returns-in-4 : goal.returns-in-4
returns-in-4 c = arm c.args.e 4 0x0701 c.requires c.in-4.is refl

pub returns-in-5 : goal.returns-in-5
returns-in-5 c = arm c.args.e 5 0x0681 c.requires c.in-5.is refl

pub returns-in-6 : goal.returns-in-6
returns-in-6 c = arm c.args.e 6 0x0601 c.requires c.in-6.is refl

pub returns-in-7 : goal.returns-in-7
returns-in-7 c = arm c.args.e 7 0x0501 c.requires c.in-7.is refl

pub returns-in-8 : goal.returns-in-8
returns-in-8 c = arm c.args.e 8 0x0481 c.requires c.in-8.is refl

pub returns-in-9 : goal.returns-in-9
returns-in-9 c = arm c.args.e 9 0x0441 c.requires c.in-9.is refl

pub returns-in-10 : goal.returns-in-10
returns-in-10 c = arm c.args.e 10 0x0381 c.requires c.in-10.is refl

pub returns-in-11 : goal.returns-in-11
returns-in-11 c = arm c.args.e 11 0x0301 c.requires c.in-11.is refl

pub returns-in-12 : goal.returns-in-12
returns-in-12 c = arm c.args.e 12 0x02C1 c.requires c.in-12.is refl

pub returns-in-13 : goal.returns-in-13
returns-in-13 c = arm c.args.e 13 0x0281 c.requires c.in-13.is refl

pub returns-in-14 : goal.returns-in-14
returns-in-14 c = arm c.args.e 14 0x0241 c.requires c.in-14.is refl

pub returns-in-15 : goal.returns-in-15
returns-in-15 c = arm c.args.e 15 0x0181 c.requires c.in-15.is refl

pub returns-in-16 : goal.returns-in-16
returns-in-16 c = arm c.args.e 16 0x0121 c.requires c.in-16.is refl

pub returns-in-17 : goal.returns-in-17
returns-in-17 c = arm c.args.e 17 0x00E1 c.requires c.in-17.is refl

pub returns-in-18 : goal.returns-in-18
returns-in-18 c = arm c.args.e 18 0x00A1 c.requires c.in-18.is refl

pub returns-in-19 : goal.returns-in-19
returns-in-19 c = arm c.args.e 19 0x0071 c.requires c.in-19.is refl

pub returns-in-20 : goal.returns-in-20
returns-in-20 c = arm c.args.e 20 0x0059 c.requires c.in-20.is refl

pub returns-in-21 : goal.returns-in-21
returns-in-21 c = arm c.args.e 21 0x0053 c.requires c.in-21.is refl

pub returns-in-22 : goal.returns-in-22
returns-in-22 c = arm c.args.e 22 0x0027 c.requires c.in-22.is refl

pub returns-in-23 : goal.returns-in-23
returns-in-23 c = arm c.args.e 23 0x0017 c.requires c.in-23.is refl

pub returns-in-24 : goal.returns-in-24
returns-in-24 c = arm c.args.e 24 0x0013 c.requires c.in-24.is refl

pub returns-in-25 : goal.returns-in-25
returns-in-25 c = arm c.args.e 25 0x000B c.requires c.in-25.is refl

pub returns-in-26 : goal.returns-in-26
returns-in-26 c = arm c.args.e 26 0x0007 c.requires c.in-26.is refl

pub returns-in-27 : goal.returns-in-27
returns-in-27 c = arm c.args.e 27 0x0005 c.requires c.in-27.is refl

pub returns-in-28 : goal.returns-in-28
returns-in-28 c = arm c.args.e 28 0x0003 c.requires c.in-28.is refl

pub returns-in-29 : goal.returns-in-29
returns-in-29 c = arm c.args.e 29 0x0001 c.requires c.in-29.is refl

pub returns-in-30 : goal.returns-in-30
returns-in-30 c = absurd (omega (arith, c.requires, c.in-30.is))

pub returns-in_default : goal.returns-in_default
returns-in_default c = rest-arm c.args.e c.requires c.in_default.in_default-own.rest
