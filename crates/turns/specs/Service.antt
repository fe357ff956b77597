-- Calls, whose they are and of which kind; calls with their answers. Assumes nothing.
use Rattle.std.specs.Prelude.{◌≡◌, Bool, true, cond, List, [], ◌∷◌}

-- A page's own calls are its opening, its bands and its closing or abandoning.
-- The others are calls on a learned table: those that only show it (look), those that change it (drop).
pub data Kind : Type 0 where
  opening band closing abandoning looking changing : Kind

-- A call is accepted, or refused, or refused for want of room (4 or 5).
pub data Mark : Type 0 where
  accepted refused crowded : Mark

-- names that can be compared
pub record Keys : Type 1 where
  pub Key : Type 0
  pub same : Key → Key → Bool

-- what a test of names has to be: each name is the same as itself, and the same as no other
pub record KeyLaws (Key : Type 0) (same : Key → Key → Bool) : Type 0 where
  pub same_self : (k : Key) → same k k ≡ true
  pub same_only : (j k : Key) → same j k ≡ true → j ≡ k

-- What is asked and answered. A call holds its inputs and the lent buffer as it was; an output holds the answer and the
-- lent buffer as it is then.
pub record Service : Type 1 where
  pub Key : Type 0
  pub same : Key → Key → Bool
  pub Call : Type 0
  pub Output : Type 0
  pub key : Call → Key
  pub kind : Call → Kind

-- the keys of a service
abbrev pub keys : Service → Keys
keys S = record { Key = S.Key; same = S.same }

module _ (K : Keys) where
  open K use {Key, same}

  -- a in the place of what stood under k
  abbrev pub put : {A : Type 0} → Key → A → (Key → A) → Key → A
  put k a f j = cond (same k j) a (f j)

module _ (S : Service) where
  -- a call with what it answered
  pub record Entry : Type 0 where
    pub call : S.Call
    pub mark : Mark
    pub output : S.Output

  -- the calls alone
  unfoldable pub calls : List Entry → List S.Call
  calls [] = []
  calls (e ∷ es) = e.call ∷ calls es
