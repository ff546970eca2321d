use Rattle.std.proofs.Common.{◌≤◌, take}
use Rattle.std.specs.Prelude.{Contains, slice_index}
use Rattle.graph_terms.specs.declared.verb.Edge.{Edge}
use Rattle.section_sweeps.proofs.sweep.first_source.Given as goal

abbrev pub invariant-loop-edge : goal.invariant-loop-edge
invariant-loop-edge l = record { limit : l.first ≤ l.limit; sources : (e : Edge) → Contains (take l.edge-index l.edges) e → l.first ≤ slice_index l.table.places.items e.from }
