-- The value of a code and the interval in exact arithmetic. Assumes nothing.
use Rattle.std.specs.Prelude.{◌≡◌, ◌⊎◌, ℕ, ◌+◌, ◌-◌, ◌*◌, ◌/◌, ◌^◌, ◌≤◌, List, [], ◌∷◌, ◌++◌, length}
use Rattle.interval.specs.declared.Interval.{Interval}
use Rattle.interval.specs.Interval.{Decision, coded}
use Rattle.octets.specs.Octets.{bits, follows}

-- the bits that bytes bring after the byte b
unfoldable pub places : ℕ → List ℕ → ℕ
places b [] = 0
places b (d ∷ ds) = bits b + places d ds

-- each byte at its place
unfoldable pub value : List ℕ → ℕ
value [] = 0
value (d ∷ ds) = d * 2 ^ places d ds + value ds

-- the interval after the decisions, with no bytes: its lower end is a fraction of 12 + count bits
unfoldable pub exact : List Decision → Interval → Interval
exact [] e = e
exact (d ∷ ds) e = exact ds (coded d e)

-- each is a byte, and after an FF it is at most 8F; b is the byte before them
abbrev pub LawfulBytes : ℕ → List ℕ → Type 0
LawfulBytes b [] = Unit {0}
LawfulBytes b (d ∷ ds) = (d ≤ 255) × (b ≡ 255 → d ≤ 143) × LawfulBytes d ds

-- the last byte, b if there are none
abbrev pub last_of : ℕ → List ℕ → ℕ
last_of b [] = b
last_of b (d ∷ ds) = last_of d ds

-- the fewest bits for which each of these bytes is needed: one more than all but the last bring
unfoldable pub need : ℕ → List ℕ → ℕ
need b [] = 0
need b (d ∷ []) = 1
need b (d ∷ e ∷ es) = bits b + need d (e ∷ es)

-- Of a code with S shifts, `made` are the bytes that cover the 12 + S bits: without the last of them they would not.
-- After them stands what follows their last.
pub record Made (S : ℕ) (code made : List ℕ) : Type 0 where
  pub covers : 12 + S ≤ places 0 made
  pub wanted : need 0 made ≤ 12 + S
  pub joined : code ≡ made ++ follows (last_of 0 made)

-- The length rule for n bytes and S shifts: for n of 2 or more, 8(n-1) less the whole half of (n-1) is at most 11 + S.
abbrev pub LengthRule : ℕ → ℕ → Type 0
LengthRule n S = 2 ≤ n → 8 * (n - 1) - (n - 1) / 2 ≤ 11 + S

-- The length law: the length rule where no byte was added; where one was, with n - 1 in the place of n.
abbrev pub LengthLaw : ℕ → List ℕ → List ℕ → Type 0
LengthLaw S code made =
    ((code ≡ made) × LengthRule (length code) S) ⊎ ((code ≡ made ++ (0 ∷ [])) × LengthRule (length code - 1) S)
