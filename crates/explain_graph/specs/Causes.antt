-- Why an edge of a graph is there.
use Rattle.std.specs.Prelude.{◌≡◌, ℕ, ◌==◌, Bool, cond, List, Contains, Option, Some, None, slice_get}
use Rattle.std.specs.Option.{unwrap_or}
use Rattle.std.specs.List.{list_any}
use Rattle.graph_terms.specs.declared.verb.Edge.{Edge}
use Rattle.graph_terms.specs.declared.verb.Line.{Line}
use Rattle.graph_terms.specs.declared.verb.Verb.{Verb}
use Rattle.graph_terms.specs.declared.verb.Verb.TheVariants as verb
use Rattle.graph_terms.specs.Graph.{GraphValue, verb_at}
use Rattle.explain_graph.specs.declared.causes.Cause.{Cause}
use Rattle.explain_graph.specs.declared.causes.Cause.TheVariants.{On, Merge, MergeIgnore, Trigger, Cancel, Arrival, PhaseOrder}

-- what each cause says of the line that comes first and of the line that waits
abbrev pub IsCause : GraphValue → Edge → Cause → Type 0
IsCause g e On = (l : Line) × (slice_get g.lines e.to ≡ Some l) × Contains l.on e.from
IsCause g e Merge = (events : List ℕ) × (verb_at g e.to ≡ Some (verb.Merge events)) × Contains events e.from
IsCause g e MergeIgnore = (events : List ℕ) × (verb_at g e.to ≡ Some (verb.MergeIgnore events)) × Contains events e.from
IsCause g e Trigger = verb_at g e.from ≡ Some (verb.Trigger e.to)
IsCause g e Cancel = verb_at g e.from ≡ Some (verb.Cancel e.to)
IsCause g e Arrival = (value weight : ℕ) × (verb_at g e.from ≡ Some (verb.Arrive e.to value weight))
IsCause g e PhaseOrder = (b : ℕ) × (verb_at g e.from ≡ Some (verb.Phase b)) × (verb_at g e.to ≡ Some (verb.Phase b))

-- a line is on another
abbrev pub is_on : Line → ℕ → Bool
is_on l other = list_any (λ e. e == other) l.on

-- the cause that the verb of the line that comes first gives, and the one that the other gives
abbrev pub source_cause : Verb → ℕ → Option Cause
source_cause (verb.Trigger u) to = cond (u == to) (Some Trigger) None
source_cause (verb.Cancel u) to = cond (u == to) (Some Cancel) None
source_cause (verb.Arrive p value weight) to = cond (p == to) (Some Arrival) None
source_cause v to = None

abbrev pub order_cause : ℕ → Verb → Option Cause
order_cause b (verb.Phase c) = cond (b == c) (Some PhaseOrder) None
order_cause b v = None

abbrev pub target_cause : Verb → Verb → ℕ → Option Cause
target_cause (verb.Merge events) other from = cond (list_any (λ e. e == from) events) (Some Merge) None
target_cause (verb.MergeIgnore events) other from = cond (list_any (λ e. e == from) events) (Some MergeIgnore) None
target_cause (verb.Phase b) other from = order_cause b other
target_cause v other from = None

-- the cause that is told of an edge, where more than one is given
abbrev pub cause_by : Line → Line → Edge → Cause
cause_by source target e = cond (is_on target e.from) On (unwrap_or (source_cause source.verb e.to) (unwrap_or (target_cause target.verb source.verb e.from) PhaseOrder))

abbrev pub cause_of_lines : Option Line → Option Line → Edge → Cause
cause_of_lines (Some source) (Some target) e = cause_by source target e
cause_of_lines source target e = PhaseOrder

abbrev pub cause_in : GraphValue → Edge → Cause
cause_in g e = cause_of_lines (slice_get g.lines e.from) (slice_get g.lines e.to) e
