use Rattle.space_classes.specs.Classes.{values}
use Rattle.space_classes.proofs.Spanning.{AreSpansTo}
use Rattle.space_classes.proofs.spans.spans_of.Given as goal

abbrev pub invariant-loop-k : goal.invariant-loop-k
invariant-loop-k l = AreSpansTo (values l.spaces) l.k l.spans.items
