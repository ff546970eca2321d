-- Texts of edges, one after the other.
use Rattle.std.proofs.Common.{◌≡◌, ℕ, ◌+◌, ◌<◌, ◌≤◌, List, [], ◌∷◌, ◌++◌, length, take, sym, ◌∙◌, ap, append_assoc}
use Rattle.std.specs.List.{slice_index_or}
use Rattle.std.proofs.lemmas.List.{take_more, take_all, append-nil}
use Rattle.graph_terms.specs.declared.verb.Edge.{Edge}
use Rattle.graph_terms.specs.Graph.{GraphValue}
use Rattle.explain_text.specs.TextLines.{TextLines}
use Rattle.explain_text.specs.Lines.{edge_text, all_edges_text}
use Rattle.explain_text.proofs.TextFacts.{then_put}

-- no edge, and one more
pub edges_begin : (g : GraphValue) (ls : TextLines) (old : List ℕ) → old ≡ old ++ all_edges_text g ls []
edges_begin g ls old = sym (append-nil old)

edges_push : (g : GraphValue) (ls : TextLines) (es : List Edge) (e : Edge) → all_edges_text g ls (es ++ e ∷ []) ≡ all_edges_text g ls es ++ edge_text g ls e
edges_push g ls [] e = append-nil (edge_text g ls e)
edges_push g ls (x ∷ es) e = ap (λ z. edge_text g ls x ++ z) (edges_push g ls es e) ∙ sym (append_assoc (edge_text g ls x) (all_edges_text g ls es) (edge_text g ls e))

pub edges_more : (g : GraphValue) (ls : TextLines) (old mid new : List ℕ) (es : List Edge) (k : ℕ) (d : Edge) → k < length es → mid ≡ old ++ all_edges_text g ls (take k es) → new ≡ mid ++ edge_text g ls (slice_index_or es k d) →
    new ≡ old ++ all_edges_text g ls (take (k + 1) es)
edges_more g ls old mid new es k d below first second =
    then_put old mid new (all_edges_text g ls (take k es)) (edge_text g ls (slice_index_or es k d)) first second
    ∙ ap (λ z. old ++ z) (sym (ap (all_edges_text g ls) (take_more es k d below) ∙ edges_push g ls (take k es) (slice_index_or es k d)))

pub edges_end : (g : GraphValue) (ls : TextLines) (old new : List ℕ) (es : List Edge) (k : ℕ) → length es ≤ k → new ≡ old ++ all_edges_text g ls (take k es) → new ≡ old ++ all_edges_text g ls es
edges_end g ls old new es k past is = is ∙ ap (λ xs. old ++ all_edges_text g ls xs) (take_all k es past)
