-- Facts about lists of entries, and about stages.
use Rattle.std.proofs.Common.{◌≡◌, ℕ, ◌<◌, Bool, true, false, not, ◌⊎◌, inl, inr, List, [], ◌∷◌, length, refl, sym, ◌∙◌, ap, subst}
use Rattle.std.specs.Prelude.{Contains, Some, ◌==◌, nat_lt, cond, slice_index_or, slice_set}
use Rattle.std.proofs.lemmas.List.{get_or-set_same, get_or-set_other, get_or_past}
use Rattle.std.proofs.lemmas.Bool.{true≢false, cases_eq, cases_lt, eq-eqb, eqb-true, ne_eqb, or_cases, or_left, or_right, not_from_true, not_from_false}
use Rattle.graph_terms.specs.declared.outcome.End.{End}
use Rattle.basics.proofs.ListFacts.{passes_some, some_passes, filter_contains, contains_filter}
use Rattle.run_state.specs.Run.{LineStage, Unissued, Issued, Out, Ending, Ended, is_listed, stage_issued, stage_out, stage_started, stage_over, stage_ended, kept_end, end_so_far}
use Rattle.run_state.specs.Moves.{inserted, without}
use Rattle.run_state.specs.Laws.{ListedIsContained, ContainedIsListed, FirstIsListed, RestIsListed, ListedByCases, NothingListed, ListedWithoutOne, OthersStayListed, InsertedIsListed, ListedStaysInserted, InsertedByCases, OutHasStarted, OverHasStarted, EndedIsOver, OutHasNotEnded, IssuedLinesHaveStage}

-- what holds of each entry, where one is set
pub each_set : {X : Type 0} (P : ℕ → X → Type 0) (xs : List X) (d : X) (i : ℕ) (x : X) → i < length xs → P i x → ((k : ℕ) → (k ≡ i → ⊥) → P k (slice_index_or xs k d)) →
    (k : ℕ) → P k (slice_index_or (slice_set xs i x) k d)
each_set P xs d i x h here there k = elim (cases_eq k i) [
  | inl e ↦ subst (λ m. P m (slice_index_or (slice_set xs i x) m d)) (sym e) (subst (P i) (sym (get_or-set_same xs i x d h)) here)
  | inr ne ↦ subst (P k) (sym (get_or-set_other xs i k x d ne)) (there k ne)
]

-- an entry that is not the default is there
pub is_there : {X : Type 0} (xs : List X) (d : X) (i : ℕ) → (slice_index_or xs i d ≡ d → ⊥) → i < length xs
is_there xs d i ne = elim (cases_lt i (length xs)) [ inl h ↦ h | inr h ↦ absurd (ne (get_or_past xs i d h)) ]

-- lists of numbers
pub listed_contains : ListedIsContained
listed_contains ks i h = let s = some_passes (λ k. i == k) ks h in subst (Contains ks) (sym (eqb-true i s.0 s.2)) s.1

pub contains_listed : ContainedIsListed
contains_listed ks i c = passes_some (λ k. i == k) ks i c (eq-eqb i i refl)

pub listed_here : FirstIsListed
listed_here i ks = or_left (i == i) (is_listed ks i) (eq-eqb i i refl)

pub listed_there : RestIsListed
listed_there i k ks h = or_right (k == i) (is_listed ks k) h

pub listed_cases : ListedByCases
listed_cases i k ks h = elim (or_cases (k == i) (is_listed ks k) h) [ inl e ↦ inl (eqb-true k i e) | inr r ↦ inr r ]

pub none_listed : NothingListed
none_listed k h = true≢false (sym h)

pub listed_without : ListedWithoutOne
listed_without q k ks h =
    let f = filter_contains (λ k. not (k == q)) ks k (listed_contains (without q ks) k h) in
    (contains_listed ks k f.0, λ e. true≢false (sym f.1 ∙ not_from_true (k == q) (eq-eqb k q e)))

pub without_listed : OthersStayListed
without_listed q k ks h ne = contains_listed (without q ks) k (contains_filter (λ k. not (k == q)) ks k (listed_contains ks k h) (not_from_false (k == q) (ne_eqb k q ne)))

-- a number put into a list
module _ (q j k : ℕ) (ks rest : List ℕ) where
  put_there : (b : Bool) → (is_listed (k ∷ ks) j ≡ true → is_listed (k ∷ rest) j ≡ true) → is_listed (k ∷ ks) j ≡ true → is_listed (cond b (q ∷ k ∷ ks) (k ∷ rest)) j ≡ true
  put_there true more h = listed_there q j (k ∷ ks) h
  put_there false more h = more h

  put_cases : (b : Bool) → (is_listed rest j ≡ true → (j ≡ q) ⊎ (is_listed ks j ≡ true)) → is_listed (cond b (q ∷ k ∷ ks) (k ∷ rest)) j ≡ true → (j ≡ q) ⊎ (is_listed (k ∷ ks) j ≡ true)
  put_cases true old h = listed_cases q j (k ∷ ks) h
  put_cases false old h = elim (listed_cases k j rest h) [
    | inl e ↦ inr (subst (λ z. is_listed (k ∷ ks) z ≡ true) (sym e) (listed_here k ks))
    | inr r ↦ elim (old r) [ inl e ↦ inl e | inr o ↦ inr (listed_there k j ks o) ]
  ]

put_here : (q k : ℕ) (ks rest : List ℕ) (b : Bool) → is_listed rest q ≡ true → is_listed (cond b (q ∷ k ∷ ks) (k ∷ rest)) q ≡ true
put_here q k ks rest true h = listed_here q (k ∷ ks)
put_here q k ks rest false h = listed_there k q rest h

pub inserted_here : InsertedIsListed
inserted_here q [] = listed_here q []
inserted_here q (k ∷ ks) = put_here q k ks (inserted q ks) (nat_lt q k) (inserted_here q ks)

pub inserted_there : ListedStaysInserted
inserted_there q j [] h = absurd (none_listed j h)
inserted_there q j (k ∷ ks) h = put_there q j k ks (inserted q ks) (nat_lt q k) (λ l. elim (listed_cases k j ks l) [
  | inl e ↦ subst (λ z. is_listed (k ∷ inserted q ks) z ≡ true) (sym e) (listed_here k (inserted q ks))
  | inr r ↦ listed_there k j (inserted q ks) (inserted_there q j ks r)
]) h

pub inserted_cases : InsertedByCases
inserted_cases q j [] h = listed_cases q j [] h
inserted_cases q j (k ∷ ks) h = put_cases q j k ks (inserted q ks) (nat_lt q k) (inserted_cases q j ks) h

-- tests of stages
pub out_started : OutHasStarted
out_started Unissued h = h
out_started Issued h = h
out_started _ h = refl

pub over_started : OverHasStarted
over_started Unissued h = h
over_started Issued h = h
over_started _ h = refl

pub ended_over : EndedIsOver
ended_over (Ending x) h = refl
ended_over (Ended x) h = refl
ended_over _ h = h

pub started_cases : (s : LineStage) → stage_started s ≡ true → (stage_out s ≡ true) ⊎ (stage_over s ≡ true)
started_cases Out h = inl refl
started_cases (Ending x) h = inr refl
started_cases (Ended x) h = inr refl
started_cases Unissued h = inl h
started_cases Issued h = inl h

pub ended_keeps : (s : LineStage) → stage_ended s ≡ true → (x : End) × (s ≡ Ended x)
ended_keeps (Ended x) h = (x, refl)
ended_keeps _ h = absurd (true≢false (sym h))

pub over_keeps : (s : LineStage) → stage_over s ≡ true → kept_end s ≡ Some (end_so_far s)
over_keeps (Ended x) h = refl
over_keeps (Ending x) h = refl
over_keeps _ h = absurd (true≢false (sym h))

pub out_not_over : (s : LineStage) → stage_out s ≡ true → stage_over s ≡ false
out_not_over Out h = refl
out_not_over (Ending x) h = absurd (true≢false (sym h))
out_not_over (Ended x) h = absurd (true≢false (sym h))
out_not_over Issued h = refl
out_not_over Unissued h = refl

pub out_not_ended : OutHasNotEnded
out_not_ended (Ended x) h = absurd (true≢false (sym h))
out_not_ended _ h = refl

pub out_is : (s : LineStage) → stage_out s ≡ true → s ≡ Out
out_is Out h = refl
out_is _ h = absurd (true≢false (sym h))

-- a line that has a stage besides unissued is there
pub stage_there : IssuedLinesHaveStage
stage_there stages i h = is_there stages Unissued i (λ e. true≢false (sym h ∙ ap stage_issued e))

pub started_issued : (s : LineStage) → stage_started s ≡ true → stage_issued s ≡ true
started_issued Unissued h = h
started_issued _ h = refl
