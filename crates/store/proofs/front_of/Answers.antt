-- The front part of the caller's own buffer. Assumes nothing.
use mathlib.Core.Path.{refl}
use Rattle.store.proofs.Store.{front-got}
use Rattle.store.proofs.front_of.Goals as goal

pub returns : goal.returns
returns c = front-got _ c.args.buf.now c.args.n c.unwrap_or.result _ c.get.ensures.lookup.0 refl c.unwrap_or.ensures
