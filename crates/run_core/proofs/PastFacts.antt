-- What has happened, with one more line that has ended.
use Rattle.std.proofs.Common.{◌≡◌, ℕ, suc, ◌+◌, ◌⊎◌, inl, inr, List, [], ◌∷◌, ◌++◌, length, refl, sym, ◌∙◌, ap, arith, true}
use Rattle.std.specs.Prelude.{Option, Some, None, slice_get, slice_index_or, slice_set}
use Rattle.std.proofs.lemmas.Bool.{cases_eq, cases_lt}
use Rattle.std.proofs.lemmas.List.{get_or-set_same, get_or-set_other, set_past}
use Rattle.std.proofs.lemmas.Option.{none-some, same_Some}
use Rattle.graph_terms.specs.Graph.{GraphValue}
use Rattle.run_state.specs.Run.{time_at, is_listed}
use Rattle.basics.proofs.ListFacts.{same_at}
use Rattle.run_lists.specs.Holders.{frees}
use Rattle.run_core.specs.Kept.{Past, no_past, with_line, past_from, past_of}
use Rattle.graph_terms.specs.declared.outcome.End.{End}
use Rattle.run_state.specs.WholeLine.{all_back, columns_for, arrived_with, arrival_for, freed_with}
use Rattle.run_state.proofs.Public.{listed_here, listed_there}

pub past_more : (g : GraphValue) (ends : ℕ → End) (past : Past) (is : List ℕ) (i : ℕ) → past_from g ends past (is ++ i ∷ []) ≡ with_line g ends (past_from g ends past is) i
past_more g ends past [] i = refl
past_more g ends past (k ∷ is) i = past_more g ends (with_line g ends past k) is i

pub clock_from : (g : GraphValue) (ends : ℕ → End) (past : Past) (is : List ℕ) → (past_from g ends past is).clock ≡ past.clock + length is
clock_from g ends past [] = (let z : past.clock ≡ past.clock + 0 = omega arith in z)
clock_from g ends past (k ∷ is) = clock_from g ends (with_line g ends past k) is ∙ (let z : past.clock + 1 + length is ≡ past.clock + suc (length is) = omega arith in z)

-- a line that has a time ended at that place
times_more : (times : List (Option ℕ)) (j i t clock : ℕ) → time_at (slice_set times j (Some clock)) i ≡ Some t → ((i ≡ j) × (t ≡ clock)) ⊎ (time_at times i ≡ Some t)
times_more times j i t clock h = elim (cases_eq i j) [
  | inl same ↦ (elim (cases_lt j (length times)) [
    | inl near ↦ inl (same, same_Some t clock (sym h ∙ (ap (λ k. slice_index_or (slice_set times j (Some clock)) k None) same ∙ get_or-set_same times j (Some clock) None near)))
    | inr far ↦ inr (ap (λ ts. slice_index_or ts i None) (sym (set_past times j (Some clock) far)) ∙ h)
  ])
  | inr other ↦ inr (sym (get_or-set_other times j i (Some clock) None other) ∙ h)
]

pub record EndedAt (past : Past) (is : List ℕ) (i t : ℕ) : Type 0 where
  pub place : ℕ
  pub time : t ≡ past.clock + place
  pub stands : slice_get is place ≡ Some i

pub times_from : (g : GraphValue) (ends : ℕ → End) (past : Past) (is : List ℕ) (i t : ℕ) → time_at (past_from g ends past is).times i ≡ Some t → EndedAt past is i t ⊎ (time_at past.times i ≡ Some t)
times_from g ends past [] i t h = inr h
times_from g ends past (j ∷ is) i t h = elim (times_from g ends (with_line g ends past j) is i t h) [
  | inl later ↦ inl (record { place = suc later.place; time = (let e : t ≡ past.clock + 1 + later.place = later.time in omega (arith, e)); stands = later.stands })
  | inr before ↦ (elim (times_more past.times j i t past.clock before) [
    | inl here ↦ inl (record { place = 0; time = (let e : t ≡ past.clock = here.1 in omega (arith, e)); stands = ap Some (sym here.0) })
    | inr old ↦ inr old
  ])
]

-- none had a time before
pub no_times : (g : GraphValue) (i : ℕ) → time_at (no_past g).times i ≡ None
no_times g i = same_at None (length g.lines) i

pub at_time : (g : GraphValue) (ends : ℕ → End) (trace : List ℕ) (i t : ℕ) → time_at (past_of g ends trace).times i ≡ Some t → slice_get trace t ≡ Some i
at_time g ends trace i t h = elim (times_from g ends (no_past g) trace i t h) [
  | inl e ↦ (let z : t ≡ e.place = omega (arith, e.time) in ap (slice_get trace) z ∙ e.stands)
  | inr old ↦ absurd (none-some t (sym (no_times g i) ∙ old))
]

-- what has happened rests on no ends but those of its lines, and of the acquires that they release
pub past_same : (g : GraphValue) (a b : ℕ → End) (past : Past) (is : List ℕ) → ((k : ℕ) → is_listed is k ≡ true → (a k ≡ b k) × (frees g a k ≡ frees g b k)) → past_from g a past is ≡ past_from g b past is
past_same g a b past [] h = refl
past_same g a b past (j ∷ is) h =
    let e = h j (listed_here j is) in
    ap (λ p. past_from g a p is) (line_same e.0 e.1) ∙ past_same g a b (with_line g b past j) is (λ k l. h k (listed_there j k is l))
  where
    line_same : a j ≡ b j → frees g a j ≡ frees g b j → with_line g a past j ≡ with_line g b past j
    line_same e f = λ t. record {
      times = slice_set past.times j (Some past.clock);
      clock = past.clock + 1;
      back = all_back past.back j (columns_for g j (e t));
      arrived = arrived_with past.arrived j (arrival_for g j (e t));
      freed = freed_with past.freed j (f t);
    }
