-- The code's numbers as the definition's registers, and the bytes of one pel as the code makes them. Assumes nothing.
use Rattle.std.specs.Prelude.{◌≡◌, ℕ, ◌-◌, ◌*◌, ◌/◌, ◌%◌, ◌^◌, ◌≤◌, ◌<◌, List, [], ◌∷◌}
use Rattle.octets.specs.declared.Coder.{Coder}
use Rattle.octets.specs.declared.Byte.{Byte}
use Rattle.octets.specs.declared.Put.{Put}
use Rattle.octets.specs.declared.Settled.{Settled}
use Rattle.octets.specs.declared.Settled.TheVariants.{Nothing, One, Two}
use Rattle.octets.specs.Octets.{Registers, bits, carried, left}

abbrev pub lift : Coder → List ℕ → Registers
lift c xs = record { interval = c.interval; until = c.until; held = c.held; settled = xs }

-- the bytes that a pel settles
abbrev pub bytes_of : Settled → List ℕ
bytes_of Nothing = []
bytes_of (One b) = b ∷ []
bytes_of (Two b c) = b ∷ c ∷ []

abbrev pub settled_of : {E : Type 0} → Put E → List ℕ
settled_of p = bytes_of p.bytes

-- a byte made of the held byte h and the lower end c, with c at the scale p
pub record Out (h c p : ℕ) (v : Byte) : Type 0 where
  pub byte : v.settled ≡ carried h c
  pub bits' : v.bits ≡ bits (carried h c)
  pub held : v.held ≡ left h c / 2 ^ (24 - bits (carried h c))
  pub low : v.low ≡ left h c % 2 ^ (24 - bits (carried h c)) * p

-- its bounds
pub record Small (p : ℕ) (v : Byte) : Type 0 where
  pub octet : v.held ≤ 255
  pub seven : 7 ≤ v.bits
  pub eight : v.bits ≤ 8
  pub short : v.low < 131072 * p

-- ---- j shifts are left when the byte goes out: c, a and s are the lower end, the width and the count there
abbrev pub there : List ℕ → ℕ → ℕ → ℕ → ℕ → Registers
there xs c a s h = record { interval = record { low = c; width = a; count = s }; until = 0; held = h; settled = xs }
