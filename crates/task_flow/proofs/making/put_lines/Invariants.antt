use Rattle.std.proofs.Common.{◌≡◌, ◌++◌, [], false, length}
use Rattle.std.specs.Vec.Iter.{into_iter_items, into_iter_len}
use Rattle.graph_terms.specs.Fits.{is_beyond}
use Rattle.task_flow.specs.Fitting.{AreToFit, with_lines}
use Rattle.task_flow.proofs.making.put_lines.Given as goal

abbrev pub invariant-loop-line : goal.invariant-loop-line
invariant-loop-line l = record {
  graph : l.graph ≡ with_lines l.initial.graph l.yielded;
  fits : AreToFit l.initial.graph.format l.initial.graph.decls (l.initial.graph.lines ++ l.yielded) (into_iter_items l.line-iterator);
  within : (l.yielded ≡ [] → ⊥) → is_beyond (with_lines l.initial.graph l.yielded) ≡ false;
  items : l.yielded ++ into_iter_items l.line-iterator ≡ into_iter_items l.initial.line-iterator;
  count : into_iter_len l.line-iterator ≡ length (into_iter_items l.line-iterator);
}
