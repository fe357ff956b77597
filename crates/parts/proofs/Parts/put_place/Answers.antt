-- What is put among the parts where a place was found is put there in the desk. Assumes nothing.
use Rattle.parts.specs.Parts.{as_place}
use Rattle.parts.proofs.Puts.{place-put, no-place-put}
use Rattle.parts.proofs.Parts.put_place.Goals as goal

pub returns-in_default : goal.returns-in_default
returns-in_default c = let a = c.args in no-place-put a.self.now a.found (as_place a.place a.table.entries)
    c.in_default.is

pub returns : goal.returns
returns c = let a = c.args in place-put a.self.now a.found _ a.place a.table.entries c.in-Some.is
