-- Lines that wait for the last lines that access their columns.
use Rattle.std.proofs.Common.{◌≡◌, ◌⊎◌, ℕ, ◌+◌, ◌<◌, ◌≤◌, inl, inr, List, length, sym, ◌∙◌, ap, subst, arith}
use Rattle.std.specs.Prelude.{Option, Some, None, IfSome, Contains, slice_get}
use Rattle.std.specs.List.{slice_index_or}
use Rattle.std.proofs.lemmas.Bool.{cases_lt, cases_eq}
use Rattle.std.proofs.lemmas.List.{get_or-set_same, get_or-set_other}
use Rattle.std.proofs.lemmas.Option.{same_Some, slice_get-get_or}
use Rattle.graph_terms.specs.declared.verb.Access.{Access}
use Rattle.graph_terms.specs.Graph.{GraphValue}
use Rattle.graph_terms.specs.Access.{all_accesses}
use Rattle.graph_meaning.specs.Path.{HasPath}
use Rattle.graph_meaning.specs.Rules.{Everywhere, RaceAt}
use Rattle.graph_meaning.proofs.Public.{path_append}
use Rattle.race_pairs.specs.Last.{Leads, AreLast, IsFollowed, IsLed}
use Rattle.race_pairs.specs.Topmost.{NoneRaceBelow, races_with}

-- this line is the last that accesses the columns of the first accesses of a list
abbrev pub AreHere : ℕ → List (Option ℕ) → List Access → ℕ → Type 0
AreHere n last xs k = (m : ℕ) (a : Access) → m < k → slice_get xs m ≡ Some a → slice_index_or last a.column None ≡ Some n

module _ (g : GraphValue) (n c : ℕ) (old new : List (Option ℕ)) (there : c < length old) (step : IsFollowed g n c old new) where
  here : slice_index_or new c None ≡ Some n
  here = ap (λ xs. slice_index_or xs c None) step.is ∙ get_or-set_same old c (Some n) None there

  elsewhere : (d : ℕ) → (d ≡ c → ⊥) → slice_index_or new d None ≡ slice_index_or old d None
  elsewhere d other = ap (λ xs. slice_index_or xs d None) step.is ∙ get_or-set_other old c d (Some n) None other

  -- what leads to the last line of this column leads to line n
  leads_here : (i : ℕ) → Leads g old i c → Leads g new i c
  leads_here i (m, is, way) =
      let waits : (m ≡ n) ⊎ HasPath g m n = subst (λ o. IfSome o (λ m. (m ≡ n) ⊎ HasPath g m n)) is step.waits in (
        n,
        here,
        elim way [
          | inl same ↦ elim waits [
            | inl this ↦ inl (same ∙ this)
            | inr path ↦ inr (subst (λ z. HasPath g z n) (sym same) path)
          ]
          | inr before ↦ elim waits [
            | inl this ↦ inr (subst (HasPath g i) this before)
            | inr path ↦ inr (path_append before path)
          ]
        ],
      )

  pub leads_more : (i d : ℕ) → Leads g old i d → Leads g new i d
  leads_more i d l = elim (cases_eq d c) [
    | inl same ↦ subst (Leads g new i) (sym same) (leads_here i (subst (Leads g old i) same l))
    | inr other ↦ (l.0, elsewhere d other ∙ l.1, l.2)
  ]

  pub here_more : (xs : List Access) (k : ℕ) (y : Access) → slice_get xs k ≡ Some y → y.column ≡ c → AreHere n old xs k → AreHere n new xs (k + 1)
  here_more xs k y at is before m a low got = elim (cases_lt m k) [
    | inl l ↦ elim (cases_eq a.column c) [
      | inl same ↦ subst (λ z. slice_index_or new z None ≡ Some n) (sym same) here
      | inr other ↦ elsewhere a.column other ∙ before m a l got
    ]
    | inr up ↦ (
        let same : m ≡ k = omega arith in
        let this : y ≡ a = same_Some y a (sym at ∙ (ap (slice_get xs) (sym same) ∙ got)) in
        subst (λ z. slice_index_or new z None ≡ Some n) (sym is ∙ ap (λ (x : Access). x.column) this) here)
  ]

pub all_here : (n : ℕ) (last : List (Option ℕ)) (xs : List Access) (k : ℕ) → length xs ≤ k → AreHere n last xs k → (a : Access) → Contains xs a → slice_index_or last a.column None ≡ Some n
all_here n last xs k few here a c = here c.0 a (let l : c.0 < length xs = c.1 in omega arith) (slice_get-get_or xs c.0 a c.1 ∙ ap Some c.2)

module _ (g : GraphValue) (first n : ℕ) (last : List (Option ℕ)) (are : AreLast g first n last) (here : (a : Access) → Contains (all_accesses g n) a → slice_index_or last a.column None ≡ Some n) where
  pub last_more : AreLast g first (n + 1) last
  last_more i a begins low has = elim (cases_lt i n) [
    | inl l ↦ are i a begins l has
    | inr up ↦ (
        let same : i ≡ n = omega (arith, up, low) in
        (n, here a (subst (λ z. Contains (all_accesses g z) a) same has), inl same))
  ]

  pub led : IsLed g first n
  led i begins low c =
      let l = are i c.one begins low c.one_in in
      let this : slice_index_or last c.one.column None ≡ Some n = ap (λ z. slice_index_or last z None) c.conflict.column ∙ here c.other c.other_in in
      let same : l.0 ≡ n = same_Some l.0 n (sym l.1 ∙ this) in
      elim l.2 [
        | inl is ↦ absurd (c.different (is ∙ same))
        | inr path ↦ subst (HasPath g i) same path
      ]

-- so it races with none
none_at : (g : GraphValue) (first n : ℕ) → ((k : ℕ) → k < first → Everywhere (RaceAt g k)) → IsLed g first n → Everywhere (races_with g n)
none_at g first n above led i low c = elim (cases_lt i first) [
  | inl before ↦ above i before n low c
  | inr up ↦ inl (led i up low c)
]

pub none_more : (g : GraphValue) (first n : ℕ) → ((k : ℕ) → k < first → Everywhere (RaceAt g k)) → IsLed g first n → NoneRaceBelow g n → NoneRaceBelow g (n + 1)
none_more g first n above led free k low = elim (cases_lt k n) [
  | inl before ↦ free k before
  | inr up ↦ subst (λ z. Everywhere (races_with g z)) (let e : n ≡ k = omega (arith, up, low) in e) (none_at g first n above led)
]
