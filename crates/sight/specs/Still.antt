-- What is in sight after expected pels with no shift. Assumes nothing.
use Rattle.std.specs.Prelude.{ℕ, ◌-◌, ◌*◌, ◌^◌}
use Rattle.sight.specs.declared.View.{View}

-- ---- what is in sight after expected pels with no shift, whose sizes add up to n
abbrev pub view_by : ℕ → View → View
view_by n v = record { x = v.x - n * 2 ^ v.look; look = v.look; last = v.last; at = v.at }
