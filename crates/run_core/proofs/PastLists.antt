-- Which lines stand in the lists of what has happened: those of the trace that do what the list is of.
use Rattle.std.proofs.Common.{◌≡◌, ℕ, ◌<◌, true, ◌⊎◌, inl, inr, List, [], ◌∷◌, ◌++◌, length, length-set, refl, sym, ◌∙◌, ap, subst}
use Rattle.std.specs.Prelude.{Option, Some, None, slice_index_or, slice_set}
use Rattle.std.proofs.lemmas.Bool.{true≢false, cases_eq, cases_lt, false_from_ne_true}
use Rattle.std.proofs.lemmas.List.{get_or-set_same, get_or-set_other, set_past}
use Rattle.std.proofs.lemmas.Option.{none-some}
use Rattle.index_spaces.specs.declared.Op.{Op}
use Rattle.graph_terms.specs.Graph.{GraphValue}
use Rattle.run_state.specs.Run.{is_listed, list_at, time_at}
use Rattle.run_state.specs.Sound.{Once}
use Rattle.run_state.specs.WholeLine.{all_back, columns_for, arrived_with, arrival_for, freed_with}
use Rattle.run_state.proofs.Public.{listed_here, listed_there, listed_cases, none_listed, listed_push, push_listed, once_push}
use Rattle.run_state.proofs.Reductions.{Fresh}
use Rattle.run_lists.specs.Holders.{frees}
use Rattle.run_core.specs.Kept.{Past, with_line, past_from}
use Rattle.graph_terms.specs.declared.outcome.End.{End}

-- ONE LINE MORE
set_cases : (back : List (List ℕ)) (c i d k : ℕ) → is_listed (list_at (slice_set back c (i ∷ list_at back c)) d) k ≡ true → ((k ≡ i) × (d ≡ c)) ⊎ (is_listed (list_at back d) k ≡ true)
set_cases back c i d k h = elim (cases_eq d c) [
  | inl same ↦ (elim (cases_lt c (length back)) [
    | inl near ↦ (elim (listed_cases i k (list_at back c) (subst (λ ks. is_listed ks k ≡ true) (ap (λ e. list_at (slice_set back c (i ∷ list_at back c)) e) same ∙ get_or-set_same back c (i ∷ list_at back c) [] near) h)) [
      | inl e ↦ inl (e, same)
      | inr old ↦ inr (subst (λ e. is_listed (list_at back e) k ≡ true) (sym same) old)
    ])
    | inr far ↦ inr (subst (λ bs. is_listed (list_at bs d) k ≡ true) (set_past back c (i ∷ list_at back c) far) h)
  ])
  | inr other ↦ inr (subst (λ ks. is_listed ks k ≡ true) (get_or-set_other back c d (i ∷ list_at back c) [] other) h)
]

set_more : (back : List (List ℕ)) (c i d k : ℕ) → is_listed (list_at back d) k ≡ true → is_listed (list_at (slice_set back c (i ∷ list_at back c)) d) k ≡ true
set_more back c i d k h = elim (cases_eq d c) [
  | inl same ↦ (elim (cases_lt c (length back)) [
    | inl near ↦ subst (λ ks. is_listed ks k ≡ true) (sym (ap (λ e. list_at (slice_set back c (i ∷ list_at back c)) e) same ∙ get_or-set_same back c (i ∷ list_at back c) [] near))
        (listed_there i k (list_at back c) (subst (λ e. is_listed (list_at back e) k ≡ true) same h))
    | inr far ↦ subst (λ bs. is_listed (list_at bs d) k ≡ true) (sym (set_past back c (i ∷ list_at back c) far)) h
  ])
  | inr other ↦ subst (λ ks. is_listed ks k ≡ true) (sym (get_or-set_other back c d (i ∷ list_at back c) [] other)) h
]

set_new : (back : List (List ℕ)) (c i : ℕ) → c < length back → is_listed (list_at (slice_set back c (i ∷ list_at back c)) c) i ≡ true
set_new back c i near = subst (λ ks. is_listed ks i ≡ true) (sym (get_or-set_same back c (i ∷ list_at back c) [] near)) (listed_here i (list_at back c))

all_back_cases : (back : List (List ℕ)) (i : ℕ) (cs : List ℕ) (d k : ℕ) → is_listed (list_at (all_back back i cs) d) k ≡ true → ((k ≡ i) × (is_listed cs d ≡ true)) ⊎ (is_listed (list_at back d) k ≡ true)
all_back_cases back i [] d k h = inr h
all_back_cases back i (c ∷ cs) d k h = elim (all_back_cases (slice_set back c (i ∷ list_at back c)) i cs d k h) [
  | inl e ↦ inl (e.0, listed_there c d cs e.1)
  | inr r ↦ (elim (set_cases back c i d k r) [
    | inl e ↦ inl (e.0, subst (λ z. is_listed (z ∷ cs) d ≡ true) e.1 (listed_here d cs))
    | inr old ↦ inr old
  ])
]

all_back_more : (back : List (List ℕ)) (i : ℕ) (cs : List ℕ) (d k : ℕ) → is_listed (list_at back d) k ≡ true → is_listed (list_at (all_back back i cs) d) k ≡ true
all_back_more back i [] d k h = h
all_back_more back i (c ∷ cs) d k h = all_back_more (slice_set back c (i ∷ list_at back c)) i cs d k (set_more back c i d k h)

length-all_back : (back : List (List ℕ)) (i : ℕ) (cs : List ℕ) → length (all_back back i cs) ≡ length back
length-all_back back i [] = refl
length-all_back back i (c ∷ cs) = length-all_back (slice_set back c (i ∷ list_at back c)) i cs ∙ length-set back c (i ∷ list_at back c)

all_back_new : (back : List (List ℕ)) (i : ℕ) (cs : List ℕ) (d : ℕ) → d < length back → is_listed cs d ≡ true → is_listed (list_at (all_back back i cs) d) i ≡ true
all_back_new back i [] d near h = absurd (none_listed d h)
all_back_new back i (c ∷ cs) d near h = elim (listed_cases c d cs h) [
  | inl e ↦ all_back_more (slice_set back c (i ∷ list_at back c)) i cs d i (subst (λ z. is_listed (list_at (slice_set back c (i ∷ list_at back c)) z) i ≡ true) (sym e) (set_new back c i (subst (λ z. z < length back) e near)))
  | inr r ↦ all_back_new (slice_set back c (i ∷ list_at back c)) i cs d (subst (λ n. d < n) (sym (length-set back c (i ∷ list_at back c))) near) r
]

-- ALL LINES OF A TRACE
pub length-back_from : (g : GraphValue) (ends : ℕ → End) (past : Past) (is : List ℕ) → length (past_from g ends past is).back ≡ length past.back
length-back_from g ends past [] = refl
length-back_from g ends past (j ∷ is) = length-back_from g ends (with_line g ends past j) is ∙ length-all_back past.back j (columns_for g j (ends j))

pub length-times_from : (g : GraphValue) (ends : ℕ → End) (past : Past) (is : List ℕ) → length (past_from g ends past is).times ≡ length past.times
length-times_from g ends past [] = refl
length-times_from g ends past (j ∷ is) = length-times_from g ends (with_line g ends past j) is ∙ length-set past.times j (Some past.clock)

pub back_cases : (g : GraphValue) (ends : ℕ → End) (past : Past) (is : List ℕ) (d k : ℕ) → is_listed (list_at (past_from g ends past is).back d) k ≡ true → ((is_listed is k ≡ true) × (is_listed (columns_for g k (ends k)) d ≡ true)) ⊎ (is_listed (list_at past.back d) k ≡ true)
back_cases g ends past [] d k h = inr h
back_cases g ends past (j ∷ is) d k h = elim (back_cases g ends (with_line g ends past j) is d k h) [
  | inl e ↦ inl (listed_there j k is e.0, e.1)
  | inr r ↦ (elim (all_back_cases past.back j (columns_for g j (ends j)) d k r) [
    | inl e ↦ inl (subst (λ z. is_listed (z ∷ is) k ≡ true) e.0 (listed_here k is), subst (λ z. is_listed (columns_for g z (ends z)) d ≡ true) (sym e.0) e.1)
    | inr old ↦ inr old
  ])
]

back_more : (g : GraphValue) (ends : ℕ → End) (past : Past) (is : List ℕ) (d k : ℕ) → is_listed (list_at past.back d) k ≡ true → is_listed (list_at (past_from g ends past is).back d) k ≡ true
back_more g ends past [] d k h = h
back_more g ends past (j ∷ is) d k h = back_more g ends (with_line g ends past j) is d k (all_back_more past.back j (columns_for g j (ends j)) d k h)

pub back_new : (g : GraphValue) (ends : ℕ → End) (past : Past) (is : List ℕ) (d k : ℕ) → d < length past.back → is_listed is k ≡ true → is_listed (columns_for g k (ends k)) d ≡ true → is_listed (list_at (past_from g ends past is).back d) k ≡ true
back_new g ends past [] d k near h a = absurd (none_listed k h)
back_new g ends past (j ∷ is) d k near h a = elim (listed_cases j k is h) [
  | inl e ↦ back_more g ends (with_line g ends past j) is d k (subst (λ z. is_listed (list_at (all_back past.back j (columns_for g j (ends j))) d) z ≡ true) (sym e) (all_back_new past.back j (columns_for g j (ends j)) d near (subst (λ z. is_listed (columns_for g z (ends z)) d ≡ true) e a)))
  | inr r ↦ back_new g ends (with_line g ends past j) is d k (subst (λ n. d < n) (sym (length-all_back past.back j (columns_for g j (ends j)))) near) r a
]

-- the arrivals
arrived_more : (arrived : List ℕ) (i : ℕ) (o : Option (Op × ℕ × ℕ)) (k : ℕ) → is_listed arrived k ≡ true → is_listed (arrived_with arrived i o) k ≡ true
arrived_more arrived i None k h = h
arrived_more arrived i (Some a) k h = push_listed arrived i k h

last_listed : (arrived : List ℕ) (i : ℕ) → is_listed (arrived ++ i ∷ []) i ≡ true
last_listed [] i = listed_here i []
last_listed (k ∷ ks) i = listed_there k i (ks ++ i ∷ []) (last_listed ks i)

arrived_new : (arrived : List ℕ) (i : ℕ) (o : Option (Op × ℕ × ℕ)) (a : Op × ℕ × ℕ) → o ≡ Some a → is_listed (arrived_with arrived i o) i ≡ true
arrived_new arrived i None a e = absurd (none-some a e)
arrived_new arrived i (Some b) a e = last_listed arrived i

arrived_cases : (arrived : List ℕ) (i : ℕ) (o : Option (Op × ℕ × ℕ)) (k : ℕ) → is_listed (arrived_with arrived i o) k ≡ true → ((k ≡ i) × (a : Op × ℕ × ℕ) × (o ≡ Some a)) ⊎ (is_listed arrived k ≡ true)
arrived_cases arrived i None k h = inr h
arrived_cases arrived i (Some a) k h = elim (listed_push arrived i k h) [ inl old ↦ inr old | inr e ↦ inl (e, a, refl) ]

abbrev pub Arrives : GraphValue → (ℕ → End) → ℕ → Type 0
Arrives g ends k = (a : Op × ℕ × ℕ) × (arrival_for g k (ends k) ≡ Some a)

pub arrived_from_cases : (g : GraphValue) (ends : ℕ → End) (past : Past) (is : List ℕ) (k : ℕ) → is_listed (past_from g ends past is).arrived k ≡ true → ((is_listed is k ≡ true) × Arrives g ends k) ⊎ (is_listed past.arrived k ≡ true)
arrived_from_cases g ends past [] k h = inr h
arrived_from_cases g ends past (j ∷ is) k h = elim (arrived_from_cases g ends (with_line g ends past j) is k h) [
  | inl e ↦ inl (listed_there j k is e.0, e.1)
  | inr r ↦ (elim (arrived_cases past.arrived j (arrival_for g j (ends j)) k r) [
    | inl e ↦ inl (subst (λ z. is_listed (z ∷ is) k ≡ true) e.0 (listed_here k is), subst (Arrives g ends) (sym e.0) (e.1, e.2))
    | inr old ↦ inr old
  ])
]

arrived_from_more : (g : GraphValue) (ends : ℕ → End) (past : Past) (is : List ℕ) (k : ℕ) → is_listed past.arrived k ≡ true → is_listed (past_from g ends past is).arrived k ≡ true
arrived_from_more g ends past [] k h = h
arrived_from_more g ends past (j ∷ is) k h = arrived_from_more g ends (with_line g ends past j) is k (arrived_more past.arrived j (arrival_for g j (ends j)) k h)

pub arrived_from_new : (g : GraphValue) (ends : ℕ → End) (past : Past) (is : List ℕ) (k : ℕ) → is_listed is k ≡ true → Arrives g ends k → is_listed (past_from g ends past is).arrived k ≡ true
arrived_from_new g ends past [] k h a = absurd (none_listed k h)
arrived_from_new g ends past (j ∷ is) k h a = elim (listed_cases j k is h) [
  | inl e ↦ arrived_from_more g ends (with_line g ends past j) is k (subst (λ z. is_listed (arrived_with past.arrived j (arrival_for g j (ends j))) z ≡ true) (sym e) (arrived_new past.arrived j (arrival_for g j (ends j)) a.0 (subst (λ z. arrival_for g z (ends z) ≡ Some a.0) e a.1)))
  | inr r ↦ arrived_from_new g ends (with_line g ends past j) is k r a
]

-- each once, where the lines of the trace differ
once_with : (arrived : List ℕ) (j : ℕ) (o : Option (Op × ℕ × ℕ)) → Once arrived → (is_listed arrived j ≡ true → ⊥) → Once (arrived_with arrived j o)
once_with arrived j None once new = once
once_with arrived j (Some a) once new = once_push arrived j once (false_from_ne_true (is_listed arrived j) new)

pub once_from : (g : GraphValue) (ends : ℕ → End) (past : Past) (is : List ℕ) → Fresh is → Once past.arrived → ((k : ℕ) → is_listed past.arrived k ≡ true → is_listed is k ≡ true → ⊥) → Once (past_from g ends past is).arrived
once_from g ends past [] fresh once apart = once
once_from g ends past (j ∷ is) fresh once apart = once_from g ends (with_line g ends past j) is fresh.1
    (once_with past.arrived j (arrival_for g j (ends j)) once (λ h. apart j h (listed_here j is)))
    (λ k h l. elim (arrived_cases past.arrived j (arrival_for g j (ends j)) k h) [
      | inl e ↦ true≢false (sym l ∙ (ap (is_listed is) e.0 ∙ fresh.0))
      | inr old ↦ apart k old (listed_there j k is l)
    ])

-- the releases that have freed
freed_more : (freed : List ℕ) (i : ℕ) (o : Option (ℕ × ℕ)) (k : ℕ) → is_listed freed k ≡ true → is_listed (freed_with freed i o) k ≡ true
freed_more freed i None k h = h
freed_more freed i (Some a) k h = listed_there i k freed h

freed_new : (freed : List ℕ) (i : ℕ) (o : Option (ℕ × ℕ)) (a : ℕ × ℕ) → o ≡ Some a → is_listed (freed_with freed i o) i ≡ true
freed_new freed i None a e = absurd (none-some a e)
freed_new freed i (Some b) a e = listed_here i freed

freed_cases : (freed : List ℕ) (i : ℕ) (o : Option (ℕ × ℕ)) (k : ℕ) → is_listed (freed_with freed i o) k ≡ true → ((k ≡ i) × (a : ℕ × ℕ) × (o ≡ Some a)) ⊎ (is_listed freed k ≡ true)
freed_cases freed i None k h = inr h
freed_cases freed i (Some a) k h = elim (listed_cases i k freed h) [ inl e ↦ inl (e, a, refl) | inr old ↦ inr old ]

abbrev pub Frees : GraphValue → (ℕ → End) → ℕ → Type 0
Frees g ends k = (a : ℕ × ℕ) × (frees g ends k ≡ Some a)

pub freed_from_cases : (g : GraphValue) (ends : ℕ → End) (past : Past) (is : List ℕ) (k : ℕ) → is_listed (past_from g ends past is).freed k ≡ true → ((is_listed is k ≡ true) × Frees g ends k) ⊎ (is_listed past.freed k ≡ true)
freed_from_cases g ends past [] k h = inr h
freed_from_cases g ends past (j ∷ is) k h = elim (freed_from_cases g ends (with_line g ends past j) is k h) [
  | inl e ↦ inl (listed_there j k is e.0, e.1)
  | inr r ↦ (elim (freed_cases past.freed j (frees g ends j) k r) [
    | inl e ↦ inl (subst (λ z. is_listed (z ∷ is) k ≡ true) e.0 (listed_here k is), subst (Frees g ends) (sym e.0) (e.1, e.2))
    | inr old ↦ inr old
  ])
]

freed_from_more : (g : GraphValue) (ends : ℕ → End) (past : Past) (is : List ℕ) (k : ℕ) → is_listed past.freed k ≡ true → is_listed (past_from g ends past is).freed k ≡ true
freed_from_more g ends past [] k h = h
freed_from_more g ends past (j ∷ is) k h = freed_from_more g ends (with_line g ends past j) is k (freed_more past.freed j (frees g ends j) k h)

pub freed_from_new : (g : GraphValue) (ends : ℕ → End) (past : Past) (is : List ℕ) (k : ℕ) → is_listed is k ≡ true → Frees g ends k → is_listed (past_from g ends past is).freed k ≡ true
freed_from_new g ends past [] k h a = absurd (none_listed k h)
freed_from_new g ends past (j ∷ is) k h a = elim (listed_cases j k is h) [
  | inl e ↦ freed_from_more g ends (with_line g ends past j) is k (subst (λ z. is_listed (freed_with past.freed j (frees g ends j)) z ≡ true) (sym e) (freed_new past.freed j (frees g ends j) a.0 (subst (λ z. frees g ends z ≡ Some a.0) e a.1)))
  | inr r ↦ freed_from_new g ends (with_line g ends past j) is k r a
]

-- the lines of the trace have times
times_more : (g : GraphValue) (ends : ℕ → End) (past : Past) (is : List ℕ) (k t : ℕ) → time_at past.times k ≡ Some t → (u : ℕ) × (time_at (past_from g ends past is).times k ≡ Some u)
times_more g ends past [] k t h = (t, h)
times_more g ends past (j ∷ is) k t h = elim (cases_eq k j) [
  | inl same ↦ (elim (cases_lt j (length past.times)) [
    | inl near ↦ times_more g ends (with_line g ends past j) is k past.clock (ap (λ z. slice_index_or (slice_set past.times j (Some past.clock)) z None) same ∙ get_or-set_same past.times j (Some past.clock) None near)
    | inr far ↦ times_more g ends (with_line g ends past j) is k t (ap (λ ts. slice_index_or ts k None) (set_past past.times j (Some past.clock) far) ∙ h)
  ])
  | inr other ↦ times_more g ends (with_line g ends past j) is k t (get_or-set_other past.times j k (Some past.clock) None other ∙ h)
]

pub times_new : (g : GraphValue) (ends : ℕ → End) (past : Past) (is : List ℕ) (k : ℕ) → k < length past.times → is_listed is k ≡ true → (u : ℕ) × (time_at (past_from g ends past is).times k ≡ Some u)
times_new g ends past [] k near h = absurd (none_listed k h)
times_new g ends past (j ∷ is) k near h = elim (listed_cases j k is h) [
  | inl e ↦ times_more g ends (with_line g ends past j) is k past.clock (subst (λ z. time_at (slice_set past.times j (Some past.clock)) z ≡ Some past.clock) (sym e) (get_or-set_same past.times j (Some past.clock) None (subst (λ z. z < length past.times) e near)))
  | inr r ↦ times_new g ends (with_line g ends past j) is k (subst (λ n. k < n) (sym (length-set past.times j (Some past.clock))) near) r
]
