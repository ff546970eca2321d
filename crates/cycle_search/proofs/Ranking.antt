-- A line is on no cycle if each edge into it raises the rank, where no edge lowers it.
use Rattle.std.proofs.Common.{◌≡◌, ℕ, ◌<◌, ◌≤◌, List, ap, arith}
use Rattle.std.specs.Prelude.{Contains, slice_index}
use Rattle.graph_terms.specs.declared.verb.Edge.{Edge}
use Rattle.graph_terms.specs.Graph.{GraphValue}
use Rattle.graph_terms.specs.Edges.{edges}
use Rattle.graph_meaning.specs.Path.{Path, last, first}
use Rattle.graph_meaning.specs.Rules.{NoCycleAt}
use Rattle.cycle_search.specs.Ranks.{AreRising}

-- a path to a line whose edges raise the rank raises it
raised : (es : List Edge) (rank : ℕ → ℕ) → ((e : Edge) → Contains es e → rank e.from ≤ rank e.to) → {i j : ℕ} → Path es i j → ((e : Edge) → Contains es e → e.to ≡ j → rank e.from < rank j) → rank i < rank j
raised es rank rising {i = i} {j = j} (last e c p q) up = let a : rank e.from ≡ rank i = ap rank p in let b : rank e.from < rank j = up e c q in omega arith
raised es rank rising {i = i} {j = j} (first e c p r) up =
    let a : rank e.from ≡ rank i = ap rank p in
    let step : rank e.from ≤ rank e.to = rising e c in
    let rest : rank e.to < rank j = raised es rank rising r up in omega arith

pub raised_no_cycle : (g : GraphValue) (ranks : List ℕ) → AreRising g ranks → (i : ℕ) → ((e : Edge) → Contains (edges g) e → e.to ≡ i → slice_index ranks e.from < slice_index ranks i) → NoCycleAt g i
raised_no_cycle g ranks are i up path = let k : slice_index ranks i < slice_index ranks i = raised (edges g) (slice_index ranks) are.rising path up in absurd (omega arith)
