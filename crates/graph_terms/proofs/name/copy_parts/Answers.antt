use Rattle.std.proofs.Common.{sym, ◌∙◌, arith}
use Rattle.graph_terms.specs.NameParts.{is_later_in}
use Rattle.graph_terms.proofs.NameCopy.{copied_next, passes_next}
use Rattle.graph_terms.proofs.name.copy_parts.Goals as goal

pub loop-i-preserved : goal.loop-i-preserved
loop-i-preserved c = record {
  parts = passes_next (is_later_in c.args.format) c.args.bytes.now c.loop-i.i c.loop-i-test.true c.loop-i.invariant.parts (sym c.is_later_in.ensures ∙ c.if-not-is_later_in.false);
  copied = copied_next c.args.bytes.now c.args.copy.now c.loop-i.copy c.loop-i.i c.loop-i-test.true (omega (arith, c.loop-i-test.true, c.requires, c.fits-copy)) c.loop-i.invariant.copied;
}
