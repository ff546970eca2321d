-- What a run of the graph of pieces gives, of the graph that was cut.
use Rattle.std.proofs.Common.{◌≡◌, ℕ, suc, ◌+◌, ◌<◌, List, [], ◌∷◌, length, refl, sym, ◌∙◌, ap, subst}
use Rattle.std.specs.Prelude.{Some, slice_get}
use Rattle.graph_terms.specs.declared.outcome.Outcome.{Outcome}
use Rattle.graph_terms.specs.declared.verb.Line.{Line}
use Rattle.graph_terms.specs.Fits.{IsGraph}
use Rattle.graph_terms.specs.Graph.{GraphValue}
use Rattle.graph_meaning.specs.Evaluation.{outcome}
use Rattle.graph_meaning.specs.Trace.{IsLawful}
use Rattle.column_pieces.specs.Cut.{Cut, IsCut, lines_on}
use Rattle.column_pieces.specs.Joined.{joined}
use Rattle.column_pieces.specs.Laws.{OutcomeOfPieces, TracesOfPieces}

-- put together, its outcome is the outcome of the graph
pub outcome_is : OutcomeOfPieces → (g h : GraphValue) (cut : Cut) → IsGraph h → IsCut g h cut → (part o : Outcome) → part ≡ outcome h part.trace → o ≡ joined g cut part → o ≡ outcome g o.trace
outcome_is law g h cut fits is part o e f =
    let t : o.trace ≡ part.trace = ap (λ (x : Outcome). x.trace) f in
    f ∙ (ap (joined g cut) e ∙ (law g h cut part.trace fits is ∙ ap (outcome g) (sym t)))

-- its trace is one of the graph
pub trace_is_lawful : TracesOfPieces → (g h : GraphValue) (cut : Cut) → IsCut g h cut → (part o : Outcome) → IsLawful h part.trace → o ≡ joined g cut part → IsLawful g o.trace
trace_is_lawful law g h cut is part o lawful f =
    let t : part.trace ≡ o.trace = sym (ap (λ (x : Outcome). x.trace) f) in
    subst (IsLawful g) t (law g h cut part.trace is lawful)

lines_number : (named : ℕ → ℕ → ℕ) (n : ℕ) (ls : List Line) → length (lines_on named n ls) ≡ length ls
lines_number named n [] = refl
lines_number named n (l ∷ ls) = ap suc (lines_number named (n + 1) ls)

pub lines_are_known : (g h : GraphValue) (cut : Cut) → IsCut g h cut → (part o : Outcome) → ((k i : ℕ) → slice_get part.trace k ≡ Some i → i < length h.lines) → o ≡ joined g cut part →
    (k i : ℕ) → slice_get o.trace k ≡ Some i → i < length g.lines
lines_are_known g h cut is part o known f k i at =
    let number : length h.lines ≡ length g.lines = ap length is.lines ∙ lines_number cut.named 0 g.lines in
    subst (λ n. i < n) number (known k i (ap (λ (x : Outcome). slice_get x.trace k) (sym f) ∙ at))
