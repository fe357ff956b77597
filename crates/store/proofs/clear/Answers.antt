-- Every byte is a copy of zero. Assumes nothing.
use Rattle.store.specs.Store.{cleared}
use Rattle.store.proofs.clear.Goals as goal

pub returns : goal.returns
unfolding cleared
returns c = c.fill.ensures.after (λ y e. e)
