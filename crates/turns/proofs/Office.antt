-- What a desk serves, one key at a time: document 01's "The desk and who may stand at it", without the room. Assumes
-- nothing.
use mathlib.Core.Path.{◌≡◌}
use mathlib.Core.Bool.{Bool, true}
use mathlib.Core.Option.{Option}
use Prim.Native.Nat.{ℕ}
use native.Mathlib.Omega.{arith}
use Rattle.turns.specs.Service.{Kind, Service, KeyLaws}

-- What stands under one key: the learned table, if there is one, and the open page, if there is one.
pub record Cell (Table Page : Type 0) : Type 0 where
  pub learned : Option Table
  pub page : Option Page

-- A refusal has only an output (number and lent buffer after); an accepted call also has what comes of it.
pub data Result (Output A : Type 0) : Type 0 where
  refuse : Output → Result Output A
  accept : Output → A → Result Output A

pub not-accepted : {Output A B : Type 0} {o p : Output} {a : A} → refuse o ≡ accept p a → B
not-accepted e = let z : ◌≡◌ {A = ℕ} 0 1 = cc in absurd (omega arith)

-- An office: `act` says what a call does to its key's cell where there is room; `working` is a page's working table;
-- `pages` and `places` are the room.
-- A call holds its inputs and the lent buffer as it was; an output holds the answer and the lent buffer as it is then.
pub record Office : Type 1 where
  pub Key : Type 0
  pub same : Key → Key → Bool
  pub same_self : (k : Key) → same k k ≡ true
  pub same_only : (j k : Key) → same j k ≡ true → j ≡ k
  pub Table : Type 0
  pub Page : Type 0
  pub Call : Type 0
  pub Output : Type 0
  pub key : Call → Key
  pub kind : Call → Kind
  pub working : Page → Table
  pub act : Call → Cell Table Page → Result Output (Cell Table Page)
  pub refusal : ℕ → Call → Output
  pub pages : ℕ
  pub places : ℕ

abbrev pub cell : {T P : Type 0} → Option T → Option P → Cell T P
cell t p = record { learned = t; page = p }

-- the calls of an office, without what they do
abbrev pub service : Office → Service
service O = record {
  Key = O.Key;
  same = O.same;
  Call = O.Call;
  Output = O.Output;
  key = O.key;
  kind = O.kind;
}

-- the laws of its keys
abbrev pub laws_of : (O : Office) → KeyLaws O.Key O.same
laws_of O = record { same_self = O.same_self; same_only = O.same_only }
