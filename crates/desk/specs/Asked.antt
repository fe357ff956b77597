-- What the numbers of an outer call ask, as the records of the calls over the desk's parts. Assumes nothing.
use Rattle.std.specs.Prelude.{ℕ}
use Rattle.desk.specs.declared.Key.{Key}
use Rattle.desk.specs.declared.Opening.{Opening}
use Rattle.desk.specs.declared.Ask.{Ask}
use Rattle.desk.specs.declared.Direction.{Direction}
use Rattle.desk.specs.declared.Direction.TheVariants.{Write, Read}

-- a key by its school number and its class number
abbrev pub as_key : ℕ → ℕ → Key
as_key school class = record { school = school; class = class }

-- what open is asked: the key, the direction, the width
abbrev pub asked_to : ℕ → ℕ → Direction → ℕ → Opening
asked_to school class direction width = record { key = as_key school class; direction = direction; width = width }

-- what open is asked: a page to write
abbrev pub to_write : ℕ → ℕ → ℕ → Opening
to_write school class width = asked_to school class Write width

-- what open is asked: a page to read
abbrev pub to_read : ℕ → ℕ → ℕ → Opening
to_read school class width = asked_to school class Read width

-- what a band call is asked, beside its bytes
abbrev pub ask_of : ℕ → ℕ → ℕ → Ask
ask_of school class rows = record { key = as_key school class; rows = rows }
