-- What a flow is: declarations and lines as in a graph of some format, each of which uses columns and waits for nothing.
use Rattle.std.specs.Prelude.{◌≡◌, ℕ, Bool, true, false, [], IsTrue, Some, slice_get}
use Rattle.graph_terms.specs.declared.verb.Line.{Line}
use Rattle.graph_terms.specs.declared.verb.Verb.{Verb}
use Rattle.graph_terms.specs.declared.verb.Verb.TheVariants.{Fill, Copy, Reduce, Task}
use Rattle.graph_terms.specs.Graph.{GraphValue}
use Rattle.graph_terms.specs.Fits.{IsGraph}

-- a verb of a flow
abbrev pub uses_columns : Verb → Bool
uses_columns (Fill target space value) = true
uses_columns (Copy source target space) = true
uses_columns (Reduce op source target space) = true
uses_columns (Task kernel) = true
uses_columns _ = false

pub record IsFlow (f : GraphValue) : Type 0 where
  pub fits : IsGraph f
  pub uses : (i : ℕ) (l : Line) → slice_get f.lines i ≡ Some l → IsTrue (uses_columns l.verb)
  pub waits : (i : ℕ) (l : Line) → slice_get f.lines i ≡ Some l → l.on ≡ []
