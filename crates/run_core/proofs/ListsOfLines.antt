-- What a quiet run answers, made line by line.
use Rattle.std.proofs.Common.{◌≡◌, ℕ, ◌+◌, ◌<◌, inl, inr, List, [], ◌∷◌, ◌++◌, length, map, sym, ◌∙◌, ap, subst, arith, get_or}
use Rattle.std.specs.Prelude.{Some, slice_get}
use Rattle.std.proofs.lemmas.Bool.{cases_lt}
use Rattle.std.proofs.lemmas.Option.{same_Some, slice_get-get_or, slice_get_within}
use Rattle.std.proofs.Math.Seq.{get_or-append_seam}
use Rattle.std.proofs.lemmas.List.{length_push, get_or-map}
use Rattle.graph_terms.specs.declared.outcome.Answer.{Answer}
use Rattle.event_table.specs.declared.handle.Handle.{Handle}
use Rattle.event_table.specs.declared.handle.Answer.{Answer as EventAnswer}
use Rattle.event_table.specs.EventMap.{EventMap, answer}
use Rattle.basics.proofs.ListFacts.{got_in}
use Rattle.graph_terms.specs.Graph.{GraphValue, verb_at}
use Rattle.run_state.specs.Run.{Unissued, end_so_far}
use Rattle.run_core.specs.Answers.{answer_shown, phase_for, phase_of_line, AsksHandles}
use Rattle.run_lists.specs.Stages.{shown_stage}
use Rattle.run_parts.specs.declared.progress.Progress.{Progress}

-- the value of the next phase
pub phase_next : (g : GraphValue) (stages : List Progress) (values : List ℕ) (i : ℕ) (d : Progress) → i < length stages → phase_for (end_so_far (shown_stage (get_or stages i d))) (verb_at g i) (get_or values i 0) ≡ phase_of_line g (map shown_stage stages) values i
phase_next g stages values i d h = ap (λ s. phase_for (end_so_far s) (verb_at g i) (get_or values i 0)) (sym (get_or-map shown_stage stages i d Unissued h))

-- the answers of the first k handles
pub record AnswersSoFar (handles : List Handle) (table : EventMap) (k : ℕ) (answers : List Answer) : Type 0 where
  pub each : length answers ≡ k
  pub asked : (i : ℕ) (h : Handle) (a : EventAnswer) → i < k → slice_get handles i ≡ Some h → answer table h ≡ Some a → slice_get answers i ≡ Some (answer_shown a)

last_got : {X : Type 0} (xs : List X) (x : X) → slice_get (xs ++ x ∷ []) (length xs) ≡ Some x
last_got xs x = slice_get-get_or (xs ++ x ∷ []) (length xs) x (let more : length (xs ++ x ∷ []) ≡ length xs + 1 = length_push xs x in let z : length xs < length (xs ++ x ∷ []) = omega arith in z) ∙ ap (λ y. Some y) (get_or-append_seam xs x [] x)

pub answers_more : (handles : List Handle) (table : EventMap) (k : ℕ) (old new : List Answer) (x : EventAnswer) (y : Answer) → AnswersSoFar handles table k old → new ≡ old ++ y ∷ [] → y ≡ answer_shown x → ((h : Handle) → slice_get handles k ≡ Some h → answer table h ≡ Some x) → AnswersSoFar handles table (k + 1) new
answers_more handles table k old new x y s w shown asks = record {
  each = (let e = s.each in let more : length new ≡ length old + 1 = ap length w ∙ length_push old y in omega (arith, e, more));
  asked = λ i h a b at is. ap (λ xs. slice_get xs i) w ∙ (elim (cases_lt i k) [
    | inl before ↦ got_in old (y ∷ []) i (answer_shown a) (s.asked i h a before at is)
    | inr after ↦ (
        let same : i ≡ k = omega arith in
        ap (slice_get (old ++ y ∷ [])) (same ∙ sym s.each) ∙ (last_got old y ∙ (ap (λ z. Some z) shown ∙ ap (λ z. Some (answer_shown z)) (same_Some x a (sym (asks h (ap (slice_get handles) (sym same) ∙ at)) ∙ is)))))
  ]);
}

pub answers_all : (handles : List Handle) (table : EventMap) (k : ℕ) (answers : List Answer) → length handles ≡ k → AnswersSoFar handles table k answers → AsksHandles handles table answers
answers_all handles table k answers e s = record { each = s.each ∙ sym e; asked = λ i h a at is. s.asked i h a (subst (λ n. i < n) e (slice_get_within handles i h at)) at is }
