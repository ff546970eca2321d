use Rattle.std.proofs.Common.{inl, inr, length, sym, ap, ◌∙◌, subst, arith}
use Rattle.std.specs.Prelude.{None, ◌≡◌}
use Rattle.std.proofs.lemmas.List.{get_or_read}
use Rattle.std.proofs.lemmas.Bool.{cases_lt}
use Rattle.sweep_base.specs.Bits.{bit_in}
use Rattle.section_sweeps.specs.Group.{IsReleased}
use Rattle.section_sweeps.proofs.Grouping.{released_by, release_read}
use Rattle.section_sweeps.proofs.group.Group.are_released.Goals as goal

pub passed-requires : goal.passed-requires
passed-requires c =
    let s = c.args.self.now in
    let bit = c.loop-bit.bit in
    let q = c.index.result.now in
    let here = get_or_read s.acquires.items bit q (omega (arith, c.loop-bit-test.true, c.len-bit-end.ensures)) c.index.ensures 0 in
    let known = c.requires.known bit (omega (arith, c.loop-bit-test.true, c.len-bit-end.ensures)) in
    let read = get_or_read c.args.table.now.releases.items q c.index-in-loop-bit.result.now (omega (arith, known, here, c.requires.table.releases_are.size)) c.index-in-loop-bit.ensures None in
    let rel = release_read c.args.graph.now c.args.table.now.releases.items c.requires.table.releases_are q c.in-Some.release c.index-in-loop-bit.result.now read c.in-Some.is in
    omega (arith, rel.1, c.requires.size.passed)

pub loop-bit-preserved : goal.loop-bit-preserved
loop-bit-preserved c b low = elim (cases_lt b c.loop-bit.bit) [
  | inl before ↦ c.loop-bit.invariant b before
  | inr up ↦ (
      let g = c.args.graph.now in
      let s = c.args.self.now in
      let bit = c.loop-bit.bit in
      let q = c.index.result.now in
      let here = get_or_read s.acquires.items bit q (omega (arith, c.loop-bit-test.true, c.len-bit-end.ensures)) c.index.ensures 0 in
      let known = c.requires.known bit (omega (arith, c.loop-bit-test.true, c.len-bit-end.ensures)) in
      let read = get_or_read c.args.table.now.releases.items q c.index-in-loop-bit.result.now (omega (arith, known, here, c.requires.table.releases_are.size)) c.index-in-loop-bit.ensures None in
      let rel = release_read g c.args.table.now.releases.items c.requires.table.releases_are q c.in-Some.release c.index-in-loop-bit.result.now read c.in-Some.is in
      subst (λ z. IsReleased g c.args.table.now.places.items s.acquires.items c.args.high z) (let e : bit ≡ b = omega (arith, low, up) in e)
      (released_by g c.args.table.now.places.items s.acquires.items s.behind.own.items s.behind.passed.items s.to_releases.own.items c.args.high bit (length s.acquires.items) q c.in-Some.release
      c.requires.own c.requires.passed c.requires.releases_own c.requires.ends (omega (arith, c.loop-bit-test.true, c.len-bit-end.ensures)) (sym here) rel.0
      (ap (λ z. bit_in z bit) (sym c.passed.ensures) ∙ (sym c.has_bit.ensures ∙ c.if-not-has_bit.false))))
]
