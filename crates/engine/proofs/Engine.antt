-- The laws that tie an engine to the definition. Assumes nothing.
use mathlib.Core.Path.{◌≡◌}
use Prim.Native.Nat.{ℕ, ◌+◌, ◌≤◌}
use mathlib.Core.Bool.{Bool}
use mathlib.Core.List.{List, [], ◌++◌}
use lib.ListN.{length, drop}
use Rattle.coder.proofs.Revisits.{Counts}
use Rattle.engine.specs.Engine.{Engine}
use Rattle.engine.specs.Coded.{shifts_of}

pub record IsEngine (E : Engine) : Type 1 where
  -- a pel put in is the writer's, and the bytes before stay before; nothing else looks at them
  pub puts : (q : ℕ) (e : Bool) (c d : E.Registers) (xs ys : List ℕ) → E.Puts q e c d ys
      → E.writer.put q e (E.stands c xs) ≡ E.stands d (xs ++ ys)
  pub moves : (q : ℕ) (e : Bool) (c : E.Registers) (xs : List ℕ)
      → E.writer.moves q e (E.stands c xs) ≡ E.writer.moves q e (E.stands c [])
  pub count : (c : E.Registers) (xs : List ℕ) → E.writer.count (E.stands c xs) ≡ shifts_of E c
  -- twelve shifts a pel at the most, and each of them counts
  pub twelve : (q : ℕ) (e : Bool) (c d : E.Registers) (ys : List ℕ) → E.Puts q e c d ys
      → shifts_of E d ≤ shifts_of E c + 12
  pub counts : Counts E.writer
  -- ready registers and lawful entries stay so
  pub ready : (e : ℕ) (b : Bool) (c d : E.Registers) (ys : List ℕ) → E.Lawful e → E.Ready c
      → E.Puts (E.scheme.size e) b c d ys → E.Ready d
  pub next : (b : Bool) (e : ℕ) → E.Lawful e → E.Lawful (E.scheme.next b e)
  -- the end
  pub ends : (c : E.Registers) (xs : List ℕ) → E.writer.code (E.stands c xs) ≡ drop 1 (xs ++ E.last c)
  pub some : (c : E.Registers) → 1 ≤ length (E.last c)
