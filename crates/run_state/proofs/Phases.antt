-- An arrival put in keeps the state sound.
use Rattle.std.proofs.Common.{◌≡◌, ℕ, zero, suc, ◌<◌, true, false, cond, ◌⊎◌, inl, inr, List, [], ◌∷◌, ◌++◌, length, refl, sym, ◌∙◌, ap, subst, length-set, append-nil, arith}
use Rattle.std.specs.Prelude.{◌≢◌, Option, Some, None, filter_map, slice_get, slice_index, slice_set}
use Rattle.std.specs.Option.{option_map_or}
use Rattle.std.proofs.lemmas.List.{get_or-set_same, get_or-set_other}
use Rattle.std.proofs.lemmas.Bool.{true≢false, cases_eq, eq-eqb, ne_eqb}
use Rattle.std.proofs.lemmas.Option.{none-some, same_Some}
use Rattle.index_spaces.specs.declared.Op.{Op}
use Rattle.graph_terms.specs.declared.outcome.End.TheVariants.{Cancelled}
use Rattle.graph_terms.specs.declared.verb.Verb.{Verb}
use Rattle.graph_terms.specs.declared.verb.Verb.TheVariants.{Phase, Arrive}
use Rattle.graph_terms.specs.Graph.{GraphValue, verb_at, line_passes}
use Rattle.graph_meaning.specs.Evaluation.{end_with, combined, reduced_with, arrival_value}
use Rattle.run_state.specs.Run.{Run, is_listed, stage_at, started}
use Rattle.run_state.specs.Sound.{is_arrive, value_for, SoundPhasesWith, SoundWith}
use Rattle.run_state.specs.Moves.{arrive}
use Rattle.std.proofs.lemmas.List.Sums.{fold_push}
use Rattle.graph_terms.proofs.Public.{verb_below}
use Rattle.graph_meaning.proofs.ArrivalFacts.{arrival_is}
use Rattle.run_state.proofs.SoundParts.{with_phases}
use Rattle.run_state.proofs.Lists.{listed_there, listed_contains, contains_listed, out_started}
use Rattle.std.proofs.lemmas.List.Elements.{Contains-push_cases, Contains-append_left, filter_map-append}
use Rattle.run_state.specs.Premises.{MayArriveWith}
use Rattle.run_state.specs.Laws.{ListedAtEndByCases, ListedStaysWithMore, OnceWithAnother, PlacedIsListed, ValueOfArrival}
use Rattle.graph_meaning.specs.Effect.{Effects, zero_cells}

-- a number is behind the others, or among them
got_push : (xs : List ℕ) (x a i : ℕ) → slice_get (xs ++ x ∷ []) a ≡ Some i → ((a ≡ length xs) × (x ≡ i)) ⊎ ((a < length xs) × (slice_get xs a ≡ Some i))
got_push [] x zero i h = inl (refl, same_Some x i h)
got_push [] x (suc a) i h = absurd (none-some i h)
got_push (y ∷ xs) x zero i h = inr (omega arith, h)
got_push (y ∷ xs) x (suc a) i h = elim (got_push xs x a i h) [ inl e ↦ inl (ap suc e.0, e.1) | inr r ↦ inr ((let l : a < length xs = r.0 in omega arith), r.1) ]

pub got_listed : PlacedIsListed
got_listed [] a i h = absurd (none-some i h)
got_listed (x ∷ xs) zero i h = rw (eq-eqb i x (sym (same_Some x i h))) refl
got_listed (x ∷ xs) (suc a) i h = listed_there x i xs (got_listed xs a i h)

pub once_push : OnceWithAnother
once_push xs x o new a b i ha hb = elim (got_push xs x a i ha) [
  | inl ea ↦ elim (got_push xs x b i hb) [
    | inl eb ↦ ea.0 ∙ sym eb.0
    | inr rb ↦ absurd (true≢false (sym (got_listed xs b i rb.1) ∙ (ap (is_listed xs) (sym ea.1) ∙ new)))
  ]
  | inr ra ↦ elim (got_push xs x b i hb) [
    | inl eb ↦ absurd (true≢false (sym (got_listed xs a i ra.1) ∙ (ap (is_listed xs) (sym eb.1) ∙ new)))
    | inr rb ↦ o a b i ra.1 rb.1
  ]
]

pub listed_push : ListedAtEndByCases
listed_push xs x k h = elim (Contains-push_cases xs x k (listed_contains (xs ++ x ∷ []) k h)) [ inl c ↦ inl (contains_listed xs k c) | inr e ↦ inr (sym e) ]

pub push_listed : ListedStaysWithMore
push_listed xs x k h = contains_listed (xs ++ x ∷ []) k (Contains-append_left xs (x ∷ []) k (listed_contains xs k h))

-- a line that brings a value to a phase is an arrival at it
pub value_is : (p : ℕ) (o : Option Verb) (n : ℕ) → option_map_or (arrival_value p) o None ≡ Some n → (w : ℕ) × (o ≡ Some (Arrive p n w))
value_is p None n h = absurd (none-some n h)
value_is p (Some v) n h = let a = arrival_is p v n h in (a.0, ap Some a.1)

-- what an arrival brings to its phase, and to others
pub value_here : ValueOfArrival
value_here g i p v w e = ap (λ (o : Option Verb). option_map_or (arrival_value p) o None) e ∙ ap (λ b. cond b (Some v) None) (eq-eqb p p refl)

value_elsewhere : (g : GraphValue) (i p q v : ℕ) → value_for g p i ≡ Some v → (q ≡ p → ⊥) → value_for g q i ≡ None
value_elsewhere g i p q v e ne =
    ap (λ (o : Option Verb). option_map_or (arrival_value q) o None) (value_is p (verb_at g i) v e).1 ∙ ap (λ b. cond b (Some v) None) (ne_eqb p q (λ s. ne (sym s)))

filter_one : {X Y : Type 0} (f : X → Option Y) (x : X) (y : Y) → f x ≡ Some y → filter_map f (x ∷ []) ≡ y ∷ []
filter_one f x y e = rw e refl

filter_none : {X Y : Type 0} (f : X → Option Y) (x : X) → f x ≡ None → filter_map f (x ∷ []) ≡ []
filter_none f x e = rw e refl

arrive_phases : {does : Effects} {g : GraphValue} {run : Run} → SoundWith does g run → (o : Op) (i p v : ℕ) → MayArriveWith does g run o i p v →
    SoundPhasesWith does g run.stages (slice_set run.values p (combined o (slice_index run.values p) v)) (run.arrived ++ i ∷ [])
arrive_phases {does} {g} {run} s o i p v m =
    let t = s.on_phases in
    record {
      each_value = length-set run.values p (combined o (slice_index run.values p) v) ∙ t.each_value;
      value = λ q b x vq bx. elim (cases_eq q p) [
        | inl same ↦ (
            let phase : verb_at g p ≡ Some (Phase b) = ap (verb_at g) (sym same) ∙ vq in
            let there : p < length run.values = subst (λ n. p < n) (sym t.each_value) (verb_below g p (Phase b) phase) in
            let more : filter_map (value_for g p) (run.arrived ++ i ∷ []) ≡ filter_map (value_for g p) run.arrived ++ v ∷ [] =
            filter_map-append (value_for g p) run.arrived (i ∷ []) ∙ ap (λ ys. filter_map (value_for g p) run.arrived ++ ys) (filter_one (value_for g p) i v m.arrives) in
            let now : slice_index (slice_set run.values p (combined o (slice_index run.values p) v)) p ≡ reduced_with x.op x.first (filter_map (value_for g p) (run.arrived ++ i ∷ [])) =
            get_or-set_same run.values p (combined o (slice_index run.values p) v) 0 there
            ∙ (ap (λ y. combined o y v) (t.value p b x phase bx)
            ∙ (ap (λ y. combined y (reduced_with x.op x.first (filter_map (value_for g p) run.arrived)) v) (sym (m.by_barrier b x phase bx))
            ∙ (sym (fold_push (combined x.op) x.first (filter_map (value_for g p) run.arrived) v) ∙ ap (reduced_with x.op x.first) (sym more)))) in
            subst (λ z. slice_index (slice_set run.values p (combined o (slice_index run.values p) v)) z ≡ reduced_with x.op x.first (filter_map (value_for g z) (run.arrived ++ i ∷ []))) (sym same) now)
        | inr ne ↦ (
            let more : filter_map (value_for g q) (run.arrived ++ i ∷ []) ≡ filter_map (value_for g q) run.arrived =
            filter_map-append (value_for g q) run.arrived (i ∷ []) ∙ (ap (λ ys. filter_map (value_for g q) run.arrived ++ ys) (filter_none (value_for g q) i (value_elsewhere g i p q v m.arrives ne)) ∙ append-nil (filter_map (value_for g q) run.arrived)) in
            get_or-set_other run.values p q (combined o (slice_index run.values p) v) 0 ne ∙ (t.value q b x vq bx ∙ ap (reduced_with x.op x.first) (sym more)))
      ];
      arrived_started = λ k h. elim (listed_push run.arrived i k h) [ inl old ↦ t.arrived_started k old | inr e ↦ ap (started run.stages) e ∙ out_started (stage_at run.stages i) m.is_out ];
      arrived_arrives = λ k h. elim (listed_push run.arrived i k h) [ inl old ↦ t.arrived_arrives k old | inr e ↦ subst (λ z. line_passes is_arrive g z ≡ true) (sym e) (ap (λ (o : Option Verb). option_map_or is_arrive o false) (value_is p (verb_at g i) v m.arrives).1) ];
      arrived_once = once_push run.arrived i t.arrived_once m.not_arrived;
      arrived_not_cancelled = λ k h. elim (listed_push run.arrived i k h) [ inl old ↦ t.arrived_not_cancelled k old | inr e ↦ subst (λ z. end_with does zero_cells g z ≢ Cancelled) (sym e) m.not_cancelled ];
      over_arrived = λ k h a n. push_listed run.arrived i k (t.over_arrived k h a n);
    }

-- an arrival put in
pub arrive-sound : {does : Effects} {g : GraphValue} {run : Run} → SoundWith does g run → (o : Op) (i p v : ℕ) → MayArriveWith does g run o i p v → SoundWith does g (arrive run o i p v)
arrive-sound {does} {g} {run} s o i p v m = with_phases s (slice_set run.values p (combined o (slice_index run.values p) v)) (run.arrived ++ i ∷ []) (arrive_phases s o i p v m)
