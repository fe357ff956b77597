-- What follows from something being there, or not. Assumes nothing.
use mathlib.Core.Path.{◌≡◌, refl}
use mathlib.Core.Bool.{false}
use mathlib.Core.Option.{Option, some, none}
use Rattle.ground.proofs.Bools.{no_way}
use Rattle.ground.specs.Options.{given}

pub none-given : {A : Type 0} (o : Option A) → given o ≡ false → o ≡ none
none-given none h = refl
none-given (some a) h = no_way h

abbrev pub mapped : {A B : Type 0} → (A → B) → Option A → Option B
mapped f none = none
mapped f (some a) = some (f a)

pub given-mapped : {A B : Type 0} (f : A → B) (o : Option A) → given (mapped f o) ≡ given o
given-mapped f none = refl
given-mapped f (some a) = refl
