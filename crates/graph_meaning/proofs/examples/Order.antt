-- The premises of confluence are met: in the sums under one reservation the second section is over before the first sum is taken.
use Rattle.std.proofs.Common.{◌≡◌, ℕ, Bool, true, ◌||◌, refl, ◌∙◌, ap}
use Rattle.std.specs.Prelude.{◌==◌, Contains}
use Rattle.std.specs.Fmt.{digits}
use Rattle.std.proofs.lemmas.Bool.{eq-eqb}
use Rattle.graph_terms.specs.declared.verb.Edge.{Edge}
use Rattle.graph_terms.specs.Edges.{edges}
use Rattle.graph_meaning.specs.Effect.{Cells}
use Rattle.graph_terms.specs.Fits.{IsGraph}
use Rattle.graph_meaning.specs.Laws.{IsReadyAmong, AgreeWhereUsed, cells_put, DoesAsEvaluated}
use Rattle.graph_terms.proofs.examples.Graphs.{reserved_sums}
use Rattle.graph_meaning.proofs.examples.Accepted.{reserved_sums-accepted}
use Rattle.basics.proofs.ListFacts.{passes_each}
use Rattle.graph_terms.proofs.FitsTable.{fits_by_computing}
use Rattle.graph_meaning.proofs.RulesTable.{implies, implied}
use Rattle.graph_meaning.proofs.GraphLaws.{order_is_irrelevant}

pub reserved_sums-fits : IsGraph reserved_sums
unfolding digits
reserved_sums-fits = fits_by_computing reserved_sums refl refl

-- the fills, both acquires, and the whole second section
abbrev second_first : ℕ → Bool
second_first k = k == 0 || (k == 1 || (k == 2 || (k == 6 || (k == 7 || (k == 8 || k == 9)))))

closed : (e : Edge) → Contains (edges reserved_sums) e → second_first e.to ≡ true → second_first e.from ≡ true
closed e c h = implied (second_first e.to) (second_first e.from) (passes_each (λ (e : Edge). implies (second_first e.to) (second_first e.from)) (edges reserved_sums) refl e c) h

ready_among : IsReadyAmong reserved_sums 3 second_first (λ c k. second_first k)
ready_among = record {
  closed = closed;
  ready = λ e c to. implied (e.to == 3) (second_first e.from) (passes_each (λ (e : Edge). implies (e.to == 3) (second_first e.from)) (edges reserved_sums) refl e c) (eq-eqb e.to 3 to);
  left = refl;
  out = λ c. refl;
  put_ready = λ c k h e ce to. closed e ce (ap second_first to ∙ h);
  kept = λ k x h hx. h;
}

-- so the first sum does then what it does at its turn in the evaluation
first_sum : (cells : Cells) → AgreeWhereUsed reserved_sums 3 cells (cells_put reserved_sums (λ c k. second_first k)) → DoesAsEvaluated reserved_sums 3 cells
first_sum = (order_is_irrelevant reserved_sums 3 second_first (λ c k. second_first k) reserved_sums-fits reserved_sums-accepted refl ready_among).0
