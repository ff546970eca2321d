-- What the events of closed graphs answer.
use Rattle.std.proofs.Common.{◌≡◌, ℕ, sym, ◌∙◌, subst}
use Rattle.std.specs.Prelude.{slice_index_or}
use Rattle.std.proofs.lemmas.Option.{get_or_from_slice_get}
use Rattle.session_run.specs.declared.running.RanGraph.{RanGraph}
use Rattle.session_run.specs.declared.ended.Ended.{Ended}
use Rattle.session_run.specs.Ended.{EventOf, HasLine, IsEnded}

pub same_graph : (e : Ended) (k i : ℕ) (x : RanGraph) → (l : HasLine e k i) → x ≡ slice_index_or e.graphs.items k x → l.0 ≡ x
same_graph e k i x l h = sym (get_or_from_slice_get e.graphs.items k l.0 x l.1) ∙ sym h

pub event_there : (e : Ended) (k i : ℕ) (x : RanGraph) → IsEnded e → HasLine e k i → x ≡ slice_index_or e.graphs.items k x → EventOf e x i
event_there e k i x is l h = subst (λ y. EventOf e y i) (same_graph e k i x l h) (is.events k i l.0 l.1 l.2)
