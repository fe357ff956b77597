-- Pels read by any reader, beside any engine that codes them: what was told, and the bytes compared with the code.
-- Assumes nothing.
use Rattle.std.specs.Prelude.{◌≡◌, ℕ, zero, suc, ◌+◌, ◌%◌, Bool, true, ◌&&◌, List, [], ◌∷◌, ◌++◌, get_or, length, ltb, eqb}
use Rattle.coder.specs.Page.{Page}
use Rattle.coder.specs.Reading.{Reader, pel_of, read_pels}
use Rattle.engine.specs.Engine.{Engine}
use Rattle.engine.specs.Coded.{Gives, Pelled, pages, Coded}

-- ---- the bytes settled, compared with the code; the very first, which is no part of it, is left out
unfoldable pub match_at : List ℕ → ℕ → ℕ → Bool
match_at code zero b = true
match_at code (suc n) b = ltb n (length code) && eqb (get_or code n 0) b

unfoldable pub matches : List ℕ → ℕ → List ℕ → Bool
matches code at [] = true
matches code at (b ∷ bs) = match_at code at b && matches code (suc at) bs

module _ (E : Engine) (R : Reader) where
  -- one pel read in a context whose entry is e: told as the reader decides, and coded as told
  pub record Told (c : E.Registers) (r : R.State) (e : ℕ) (b : Bool) (p : ℕ) (s : R.State)
      (v : Gives E.Registers) : Type 0 where
    pub asked : b ≡ R.ask (E.scheme.size e) r
    pub told : p ≡ pel_of (e % 2) b
    pub moves : R.moves (E.scheme.size e) b r ≡ E.writer.moves (E.scheme.size e) b (E.stands c [])
    pub goes : s ≡ R.take (E.scheme.size e) b r
    pub pelled : Pelled E c e b v

  module _ (width : ℕ) where
    -- the k pels that are read
    abbrev pub reads : ℕ → Page → R.State → List ℕ
    reads k m r = read_pels (pages E width) R k m r

    -- these pels are what the reader reads, the engine has coded them, and the bytes that it settled were compared
    pub record Followed (code : List ℕ) (m₀ : Page) (c₀ : E.Registers) (n₀ at₀ : ℕ) (good₀ : Bool) (r₀ : R.State)
        (ps : List ℕ) (m : Page) (c : E.Registers) (n at : ℕ) (good : Bool) (r : R.State) : Type 0 where
      pub settled : List ℕ
      pub coded : Coded E width m₀ c₀ n₀ ps m c n settled
      pub read : (k : ℕ) → reads (length ps + k) m₀ r₀ ≡ ps ++ reads k m r
      pub matched : good ≡ (good₀ && matches code at₀ settled)
      pub place : at ≡ at₀ + length settled
