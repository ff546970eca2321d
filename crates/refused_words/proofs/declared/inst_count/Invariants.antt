use Rattle.std.proofs.Common.{◌≡◌, ◌≤◌, take, length}
use Rattle.std.specs.Prelude.{filter}
use Rattle.graph_terms.specs.Fits.{is_inst}
use Rattle.refused_words.proofs.declared.inst_count.Given as goal

abbrev pub invariant-loop-d : goal.invariant-loop-d
invariant-loop-d l = record {
  count : l.count ≡ length (filter is_inst (take l.d l.graph.decls));
  few : l.count ≤ l.d;
}
