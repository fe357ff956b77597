-- What is put among the parts at i is put in the desk at i. Assumes nothing.
use Rattle.parts.proofs.Puts.{page-put}
use Rattle.parts.proofs.Parts.put_page.Goals as goal

pub returns : goal.returns
returns c = let a = c.args in page-put a.self.now a.i a.page a.table.entries a.last
