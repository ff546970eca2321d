-- What the evaluation of each small graph gives, by computing.
use Rattle.std.specs.Prelude.{◌≡◌, ℕ, List, [], ◌∷◌, map, Option, Some, None, refl, ◌==◌, ◌||◌}
use Rattle.index_spaces.specs.Column.{ColumnValue}
use Rattle.graph_terms.specs.declared.outcome.End.{End}
use Rattle.graph_terms.specs.declared.outcome.End.TheVariants.{Done, Faulted, Cancelled, Waiting}
use Rattle.graph_terms.specs.declared.outcome.Answer.TheVariants.{Triggered, Poisoned, Pending}
use Rattle.graph_terms.specs.Graph.{GraphValue}
use Rattle.graph_meaning.specs.Effect.{cells_after}
use Rattle.graph_meaning.specs.Evaluation.{steps_after, order, outcome, eval_changes, cells_of, cells_of_lines, column_of}
use Rattle.graph_terms.proofs.examples.Graphs.{one_fill, late_trigger, no_trigger, broken_paths, cancelled_arrival, wrapping_sum, short_phase, ordered_fills, reserved_sums, nine_fills, kernels, two_intervals, weighted_phase, light_phase, reserved_greatest}

abbrev cells : GraphValue → List (List ℕ)
cells g = map (λ (c : ColumnValue). c.cells) (outcome g []).columns

abbrev ends : GraphValue → List End
ends g = (outcome g []).ends

abbrev phases : GraphValue → List (Option ℕ)
phases g = (outcome g []).phases

one_fill-ends : ends one_fill ≡ Done ∷ []
one_fill-ends = refl

one_fill-cells : cells one_fill ≡ (7 ∷ 7 ∷ 7 ∷ 7 ∷ []) ∷ []
one_fill-cells = refl

late_trigger-ends : ends late_trigger ≡ Done ∷ Done ∷ Done ∷ Done ∷ []
late_trigger-ends = refl

late_trigger-order : order late_trigger ≡ 2 ∷ 3 ∷ 0 ∷ 1 ∷ []
late_trigger-order = refl

late_trigger-cells : cells late_trigger ≡ (5 ∷ 5 ∷ []) ∷ (6 ∷ 6 ∷ []) ∷ []
late_trigger-cells = refl

no_trigger-ends : ends no_trigger ≡ Waiting ∷ Waiting ∷ Done ∷ []
no_trigger-ends = refl

no_trigger-answers : (outcome no_trigger []).answers ≡ Pending ∷ Pending ∷ Triggered ∷ []
no_trigger-answers = refl

no_trigger-cells : cells no_trigger ≡ (0 ∷ 0 ∷ []) ∷ (6 ∷ 6 ∷ []) ∷ []
no_trigger-cells = refl

broken_paths-ends : ends broken_paths ≡ Done ∷ Faulted ∷ Cancelled ∷ Cancelled ∷ Done ∷ Done ∷ []
broken_paths-ends = refl

broken_paths-answers : (outcome broken_paths []).answers ≡ Triggered ∷ Poisoned ∷ Poisoned ∷ Poisoned ∷ Triggered ∷ Triggered ∷ []
broken_paths-answers = refl

broken_paths-cells : cells broken_paths ≡ (7 ∷ 7 ∷ []) ∷ (9 ∷ 9 ∷ []) ∷ []
broken_paths-cells = refl

cancelled_arrival-ends : ends cancelled_arrival ≡ Cancelled ∷ Cancelled ∷ Done ∷ Cancelled ∷ Done ∷ Done ∷ []
cancelled_arrival-ends = refl

cancelled_arrival-phases : phases cancelled_arrival ≡ None ∷ None ∷ Some 16 ∷ None ∷ None ∷ None ∷ []
cancelled_arrival-phases = refl

wrapping_sum-phases : phases wrapping_sum ≡ Some 5 ∷ None ∷ None ∷ []
wrapping_sum-phases = refl

short_phase-ends : ends short_phase ≡ Waiting ∷ Waiting ∷ Done ∷ Done ∷ Done ∷ []
short_phase-ends = refl

ordered_fills-cells : cells ordered_fills ≡ (8 ∷ 8 ∷ 8 ∷ 8 ∷ []) ∷ []
ordered_fills-cells = refl

reserved_sums-ends : ends reserved_sums ≡ Done ∷ Done ∷ Done ∷ Done ∷ Done ∷ Done ∷ Done ∷ Done ∷ Done ∷ Done ∷ []
reserved_sums-ends = refl

reserved_sums-cells : cells reserved_sums ≡ (3 ∷ 3 ∷ []) ∷ (4 ∷ 4 ∷ []) ∷ (7 ∷ 7 ∷ []) ∷ []
reserved_sums-cells = refl

nine_fills-cells : cells nine_fills ≡ (1 ∷ 2 ∷ 3 ∷ 4 ∷ 5 ∷ 6 ∷ 7 ∷ 8 ∷ 9 ∷ []) ∷ []
nine_fills-cells = refl

kernels-cells : cells kernels ≡ (1 ∷ 2 ∷ 3 ∷ 4 ∷ []) ∷ (1 ∷ 2 ∷ 3 ∷ 4 ∷ []) ∷ (6 ∷ 2 ∷ 6 ∷ 4 ∷ []) ∷ (72 ∷ []) ∷ []
kernels-cells = refl

two_intervals-cells : cells two_intervals ≡ (10 ∷ 11 ∷ 12 ∷ 13 ∷ []) ∷ []
two_intervals-cells = refl

short_phase-phases : phases short_phase ≡ None ∷ None ∷ None ∷ None ∷ None ∷ []
short_phase-phases = refl

-- the later sum was put back first: the earlier one, put on top of it, gives the cells of the evaluation's order
reserved_sums-other_order : cells_after (cells_of_lines reserved_sums (λ k. k == 7)) (eval_changes reserved_sums 3) 2 0 ≡ 7
reserved_sums-other_order = refl

reserved_sums-both : cells_of_lines reserved_sums (λ k. k == 3 || k == 7) 2 0 ≡ 7
reserved_sums-both = refl

late_trigger-answers : (outcome late_trigger []).answers ≡ Triggered ∷ Triggered ∷ Triggered ∷ Triggered ∷ []
late_trigger-answers = refl

wrapping_sum-ends : ends wrapping_sum ≡ Done ∷ Done ∷ Done ∷ []
wrapping_sum-ends = refl

nine_fills-ends : ends nine_fills ≡ Done ∷ Done ∷ Done ∷ Done ∷ Done ∷ Done ∷ Done ∷ Done ∷ Done ∷ Done ∷ Done ∷ []
nine_fills-ends = refl

kernels-ends : ends kernels ≡ Done ∷ Done ∷ Done ∷ Done ∷ Done ∷ Done ∷ Done ∷ Done ∷ Done ∷ []
kernels-ends = refl

-- on the way: after the fourth line, and after the fifth
kernels-fourth : (column_of kernels (cells_of (steps_after kernels 4)) 2).cells ≡ 13 ∷ 36 ∷ 69 ∷ 107 ∷ []
kernels-fourth = refl

kernels-fifth : (column_of kernels (cells_of (steps_after kernels 5)) 1).cells ≡ 2 ∷ 6 ∷ 6 ∷ 10 ∷ []
kernels-fifth = refl

two_intervals-ends : ends two_intervals ≡ Done ∷ []
two_intervals-ends = refl

weighted_phase-phases : phases weighted_phase ≡ Some 6 ∷ None ∷ None ∷ []
weighted_phase-phases = refl

light_phase-ends : ends light_phase ≡ Waiting ∷ Done ∷ []
light_phase-ends = refl

reserved_greatest-cells : cells reserved_greatest ≡ (3 ∷ 3 ∷ []) ∷ (4 ∷ 4 ∷ []) ∷ (4 ∷ 4 ∷ []) ∷ []
reserved_greatest-cells = refl
