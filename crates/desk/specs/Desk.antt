-- Document 01, "The desk and who may stand at it": a page, a place, the desk. Assumes nothing.
use Rattle.std.specs.Prelude.{ℕ, List}
use Rattle.estimate.specs.declared.Table.{Table}
use Rattle.desk.specs.declared.Key.{Key}
use Rattle.desk.specs.declared.Answer.{Answer}

-- A page, open or unused. Its state: 0 unused, 1 open to write, 2 open to read; its key, its width, its working table,
-- its last row.
pub record Page : Type 0 where
  pub state : ℕ
  pub key : Key
  pub width : ℕ
  pub table : Table
  pub last : List ℕ

-- A class place. Its state: 0 free, 1 reserved by an open page whose class has no table, 2 taken by a class with a
-- learned table; the key, the learned table.
pub record Place : Type 0 where
  pub state : ℕ
  pub key : Key
  pub table : Table

-- the desk: its pages and its class places
pub record Desk : Type 0 where
  pub pages : List Page
  pub places : List Place

-- what a call answers, and the desk after it
pub record Outcome : Type 0 where
  pub answer : Answer
  pub desk : Desk
