-- Each run by a host agrees with the evaluation, goes on, and leaves the evaluation's memory.
use Rattle.std.proofs.Common.{◌≡◌, ℕ, Bool, true, not, ◌&&◌, inl, inr, List, [], ◌∷◌, length, refl, sym, ◌∙◌, ap, subst}
use Rattle.std.specs.Prelude.{Contains, filter, cond}
use Rattle.std.specs.List.{list_any}
use Rattle.std.proofs.lemmas.Bool.{true≢false, cases_Bool, and_parts, not-true, true_from_ne_false}
use Rattle.basics.specs.Lists.{numbers_below}
use Rattle.basics.proofs.ListFacts.{contains_here, contains_there, contains_below, some_passes, passes_some}
use Rattle.graph_terms.specs.Graph.{GraphValue}
use Rattle.graph_terms.specs.Fits.{IsGraph}
use Rattle.graph_meaning.specs.Path.{Reached}
use Rattle.graph_meaning.specs.Rules.{Accepted}
use Rattle.graph_meaning.specs.Effect.{Cells, Effects}
use Rattle.graph_meaning.specs.Evaluation.{is_ended, end_with, order_with, cells_by_with}
use Rattle.graph_meaning.specs.Laws.{KeepsToAccesses, OrderIrrelevantWith, WaitsWhereReachedWith, OrderListsEndedWith, ReadyWhereUnreached}
use Rattle.graph_meaning.proofs.Public.{ended_lines_stand, cells_by_all_lines}
use Rattle.host_bodies.specs.Host.{HostRun, over, IsHostRun, begins, takes, changes, puts, passes}
use Rattle.host_bodies.specs.Laws.{HostAgrees, HostLeavesEvaluation, HostGoesOn}
use Rattle.host_bodies.proofs.Runs.{IsKept, kept_begun, kept_taken, kept_changed, kept_put, kept_cancelled}

module _ (order : OrderIrrelevantWith) (waits : WaitsWhereReachedWith) (g : GraphValue) (fits : IsGraph g) (accepted : Accepted g) (does : Effects) (keeps : KeepsToAccesses g does) (first : Cells) where
  kept : {n : HostRun} → IsHostRun g does first n → IsKept g does first n
  kept (begins e) = subst (λ n. IsKept g does first n) (sym e) (kept_begun order waits g fits accepted does keeps first)
  kept (takes h i r may e) = subst (λ n. IsKept g does first n) (sym e) (kept_taken order waits g fits accepted does keeps first h (kept r) i may)
  kept (changes h i memory r out own e) = subst (λ n. IsKept g does first n) (sym e) (kept_changed order waits g fits accepted does keeps first h (kept r) i memory out own)
  kept (puts h i r out done e) = subst (λ n. IsKept g does first n) (sym e) (kept_put order waits g fits accepted does keeps first h (kept r) i out done)
  kept (passes h i r due cancelled e) = subst (λ n. IsKept g does first n) (sym e) (kept_cancelled order waits g fits accepted does keeps first h (kept r) i due cancelled)

pub host_agrees : OrderIrrelevantWith → WaitsWhereReachedWith → HostAgrees
host_agrees order waits g does first h fits accepted keeps r = (kept order waits g fits accepted does keeps first r).agrees

-- THE MEMORY AT THE END
all_pass : (t : ℕ → Bool) (ks : List ℕ) → ((k : ℕ) → Contains ks k → t k ≡ true) → filter t ks ≡ ks
all_pass t [] all = refl
all_pass t (k ∷ ks) all = ap (λ b. cond b (k ∷ filter t ks) (filter t ks)) (all k (contains_here k ks)) ∙ ap (λ xs. k ∷ xs) (all_pass t ks (λ m listed. all m (contains_there k ks m listed)))

pub host_leaves_evaluation : HostAgrees → OrderListsEndedWith → HostLeavesEvaluation
host_leaves_evaluation agree lists g does first h fits accepted keeps r ended c p =
    (agree g does first h fits accepted keeps r).memory c p (λ k out. absurd (true≢false (sym out ∙ ended.none_out k)))
    ∙ (ap (λ ks. cells_by_with does first g ks c p) (all_pass (λ k. over h k) (order_with does first g) (λ k listed. ended.all_over k (((lists does first g).ended k).0 listed)))
    ∙ ap (λ (x : Cells). x c p) (sym (cells_by_all_lines does first g)))

-- THE RUN GOES ON
one_left : (t : ℕ → Bool) (ks : List ℕ) → (x : ℕ) × Contains ks x × (t x ≡ true) → (x : ℕ) × (t x ≡ true)
one_left t ks (x, listed, e) = (x, e)

unreached : WaitsWhereReachedWith → (g : GraphValue) (does : Effects) (first : Cells) → IsGraph g → Accepted g → (i : ℕ) → is_ended (end_with does first g i) ≡ true → Reached g i → ⊥
unreached waits g does first fits accepted i ends reached =
    true≢false (sym ends ∙ ap is_ended ((waits does first g i fits accepted.acyclic (ended_lines_stand does first g i ends)).1 reached))

pub host_goes_on : WaitsWhereReachedWith → ReadyWhereUnreached → HostGoesOn
host_goes_on waits ready g does first h fits accepted keeps r none_out =
    let is_left = λ (k : ℕ). is_ended (end_with does first g k) && not (over h k) in
    elim (cases_Bool (list_any is_left (numbers_below (length g.lines)))) [
      | inl found ↦ (
          let s = one_left is_left (numbers_below (length g.lines)) (some_passes is_left (numbers_below (length g.lines)) found) in
          let parts = and_parts (is_ended (end_with does first g s.0)) (not (over h s.0)) s.1 in
          let k = ready g (λ k. over h k) s.0 fits accepted.acyclic (ended_lines_stand does first g s.0 parts.0) (not-true (over h s.0) parts.1) (unreached waits g does first fits accepted s.0 parts.0) in
          inl (
            k.0,
            record {
              below = k.1.below;
              comes = k.1.comes;
              here = none_out k.0;
              left = k.1.left;
              ready = k.1.sources;
            },
          ))
      | inr none ↦ inr (record {
        none_out = none_out;
        all_over = λ k ends. true_from_ne_false (over h k) (λ f.
            true≢false (sym (passes_some is_left (numbers_below (length g.lines)) k (contains_below (length g.lines) k (ended_lines_stand does first g k ends)) (ap (λ b. is_ended (end_with does first g k) && not b) f ∙ ap (λ b. b && true) ends)) ∙ none));
      })
    ]
