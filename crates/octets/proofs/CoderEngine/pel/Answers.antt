-- One pel is the definition's. Assumes nothing.
use mathlib.Core.Path.{refl, ◌∙◌}
use native.Mathlib.Omega.{arith}
use Rattle.octets.proofs.OnePel.{low_fits, pel-few, pel-bytes, split, left_over}
use Rattle.octets.proofs.CoderEngine.pel.Goals as goal

pub code-v-requires : goal.code-v-requires
code-v-requires c = let f = c.requires.0 in omega (
  arith,
  f.wide,
  f.rest.fit.narrow,
  low_fits _
      f.rest.fit,
)

pub returns-then-k-until : goal.returns-then-k-until
returns-then-k-until c = let a = c.args in
    let v = c.code-v in
    let h = rw v.ensures.1 at c.if-k-until.true in
    rw (v.ensures.0, v.ensures.1) (
      pel-few a.self a.q a.expected c.requires.0 (omega arith)
          (omega arith) h,
      tt,
      refl,
    )

pub settle-requires : goal.settle-requires
settle-requires c = let a = c.args in
    let v = c.code-v in
    let h = rw v.ensures.1 at c.if-k-until.false in
    let o = left_over a.self a.q a.expected c.requires.0 (omega arith)
    (omega arith) h in
    let s = split a.self a.q a.expected c.requires.0 (omega arith)
    (omega arith) h in (
      c.requires.0.rest.fit.octet,
      rw v.ensures.1 o,
      rw
          (v.ensures.0, v.ensures.1) s.short,
    )

pub returns : goal.returns
returns c = let a = c.args in
    let v = c.code-v in
    let h = rw v.ensures.1 at c.if-k-until.false in
    let s = split a.self a.q a.expected c.requires.0 (omega arith)
    (omega arith) h in
    let t = rw (v.ensures.0, v.ensures.1) at c.settle.ensures.1 in (
      pel-bytes a.self a.q a.expected c.requires.0 (omega arith)
          (omega arith) h ∙ t _ _ _ s.low
          s.width s.count,
      tt,
      c.settle.ensures.0 ∙ v.ensures.1,
    )
