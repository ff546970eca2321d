-- Items that small graphs refuse.
use Rattle.std.specs.Prelude.{◌≡◌, true, false, [], ◌∷◌, Some, None, codes, refl}
use Rattle.std.specs.Fmt.{digits}
use Rattle.graph_terms.specs.declared.decl.Decl.TheVariants.{Space, Inst}
use Rattle.graph_terms.specs.declared.format.Format.TheVariants.{Two, Three}
use Rattle.graph_terms.specs.declared.verb.Verb.TheVariants.{User, Trigger, Cancel, Arrive, Acquire, Fill}
use Rattle.graph_terms.specs.declared.why.Why.TheVariants as why
use Rattle.graph_terms.specs.Graph.{GraphValue}
use Rattle.graph_terms.specs.Fits.{line_fault}
use Rattle.graph_terms.proofs.examples.Graphs.{graph, line, wrapping_sum, light_phase, one_section}

-- a third arrival where two complete the phase
wrapping_sum-full : line_fault wrapping_sum (line (codes "z") (Arrive 0 1 1) []) ≡ Some why.Arrivals
unfolding digits
wrapping_sum-full = refl

-- a second end of a user event
abbrev triggered : GraphValue
triggered = graph [] (line (codes "u") User [] ∷ line (codes "t") (Trigger 0) [] ∷ [])

triggered-again : line_fault triggered (line (codes "c") (Cancel 0) []) ≡ Some why.Twice
unfolding digits
triggered-again = refl

-- a space that meets a column's intervals, and is not within them
abbrev apart : GraphValue
apart = graph (Space (codes "p") ((0, 1) ∷ (4, 5) ∷ []) ∷ Space (codes "q") ((1, 4) ∷ []) ∷ Inst (codes "a") 0 (codes "x" ∷ []) ∷ []) []

apart-outside : line_fault apart (line (codes "f") (Fill 0 1 1) []) ≡ Some why.Outside
unfolding digits
apart-outside = refl

-- an arrival with which a phase has more than it takes, and weights that a format has not
light_phase-late : line_fault light_phase (line (codes "w") (Arrive 0 1 2) []) ≡ Some why.Arrivals
unfolding digits
light_phase-late = refl

light_phase-weightless : line_fault light_phase (line (codes "w") (Arrive 0 1 0) []) ≡ Some why.Number
unfolding digits
light_phase-weightless = refl

wrapping_sum-weighted : line_fault wrapping_sum (line (codes "z") (Arrive 0 1 2) []) ≡ Some why.Number
unfolding digits
wrapping_sum-weighted = refl

-- a shared acquire, which format 1 has not
shared_in_format_one : line_fault one_section (line (codes "k") (Acquire 0 true) []) ≡ Some why.Kind
unfolding digits
shared_in_format_one = refl

shared_in_format_two : line_fault (record one_section { format = Two }) (line (codes "k") (Acquire 0 true) []) ≡ None
unfolding digits
shared_in_format_two = refl

-- two events behind `on`, which formats 1 and 2 have not, and one that is named twice
waits_for_two-in_two : line_fault (record one_section { format = Two }) (line (codes "k") (Acquire 0 false) (1 ∷ 2 ∷ [])) ≡ Some why.Kind
unfolding digits
waits_for_two-in_two = refl

waits_for_two-in_three : line_fault (record one_section { format = Three }) (line (codes "k") (Acquire 0 false) (1 ∷ 2 ∷ [])) ≡ None
unfolding digits
waits_for_two-in_three = refl

waits_for_two-again : line_fault (record one_section { format = Three }) (line (codes "k") (Acquire 0 false) (1 ∷ 1 ∷ [])) ≡ Some why.Twice
unfolding digits
waits_for_two-again = refl
