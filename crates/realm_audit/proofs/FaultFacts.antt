-- The faults at a place, by what is kept of the items before it.
use Rattle.std.proofs.Common.{◌≡◌, ℕ, Bool, ◌+◌, ◌≤◌, min, true, false, inl, inr, List, length, refl, sym, ◌∙◌, ap, subst, arith}
use Rattle.std.specs.Prelude.{◌↔◌, ◌==◌, Contains, Option, Some, None, MatchOption, slice_get}
use Rattle.std.specs.Option.{option_map_or}
use Rattle.std.proofs.lemmas.Bool.{true≢false, false_from_ne_true, cases_eq, cases_lt}
use Rattle.std.proofs.lemmas.Option.{same_Some}
use Rattle.graph_terms.specs.declared.verb.Edge.{Edge}
use Rattle.graph_terms.specs.declared.verb.EdgeKind.TheVariants.{Passes}
use Rattle.graph_terms.specs.Graph.{GraphValue, line_passes, is_shared}
use Rattle.basics.proofs.ListFacts.{got_contains, contains_map, filter_contains}
use Rattle.graph_terms.specs.Edges.{edges, edges_into, sources}
use Rattle.graph_terms.specs.Reservations.{both_shared}
use Rattle.graph_terms.proofs.Public.{acquire_one}
use Rattle.realm_audit.specs.Lawful.{StandsEarlier, IsRepeatAt, IsSourceFaultAt, IsOverlapAt, IsMissing, IsLeast}
use Rattle.realm_audit.specs.Prefix.{Takes, AreEarlier, AreOpen, stands_in, IsLeft, IsLate, IsOpenBeside, IsRival}
use Rattle.realm_audit.proofs.EndFacts.{source_edge, into_line}
use Rattle.realm_audit.proofs.Earlier.{earlier_none, earlier_by, earlier_more, earlier_here, earlier_cases, earlier_listed, listed_earlier}

pub least_same : (P Q : ℕ → Type 0) → ((j : ℕ) → P j ↔ Q j) → (n : ℕ) → IsLeast P n → IsLeast Q n
least_same P Q same n l = record { here = (same n).0 l.here; below = λ m h q. l.below m h ((same m).1 q) }

-- which lines stand before a place, at the first place and one place more
pub none_stand : (trace : List ℕ) (stands : ℕ → Bool) → ((i : ℕ) → stands i ≡ false) → AreEarlier trace 0 stands
none_stand trace stands none i = ((λ e. absurd (true≢false (sym e ∙ none i))), (λ s. absurd (earlier_none trace i s)))

pub stands_more : (trace : List ℕ) (k i : ℕ) → slice_get trace k ≡ Some i → (old new : ℕ → Bool) → AreEarlier trace k old → new i ≡ true → ((j : ℕ) → (j ≡ i → ⊥) → new j ≡ old j) → AreEarlier trace (k + 1) new
stands_more trace k i at old new are here other j = elim (cases_eq j i) [
  | inl same ↦ ((λ e. subst (λ z. StandsEarlier trace (k + 1) z) (sym same) (earlier_here trace k i at)), (λ s. ap new same ∙ here))
  | inr apart ↦ (
    (λ e. earlier_more trace k j ((are j).0 (sym (other j apart) ∙ e))),
    (λ s. elim (earlier_cases trace k i j at s) [ inl same ↦ absurd (apart (sym same)) | inr before ↦ other j apart ∙ (are j).1 before ]),
  )
]

module _ (g : GraphValue) (trace : List ℕ) (k i : ℕ) (at : slice_get trace k ≡ Some i) where
  pub no_repeat : (stands : List Bool) → AreEarlier trace k (stands_in stands) → stands_in stands i ≡ false → IsRepeatAt trace k → ⊥
  no_repeat stands are h r = true≢false (sym ((are i).1 (subst (λ z. StandsEarlier trace k z) (same_Some r.0 i (sym r.1 ∙ at)) r.2)) ∙ h)

  pub late_is : (stands : List Bool) → AreEarlier trace k (stands_in stands) → (j : ℕ) → IsLate g stands i j ↔ IsSourceFaultAt g trace k j
  late_is stands are j = (
    (λ h. (i, at, h.0, h.1.0, (λ s. true≢false (sym ((are j).1 s) ∙ h.1.1)))),
    (λ f. (subst (λ z. Contains (sources g z) j) (same_Some f.0 i (sym f.1 ∙ at)) f.2, (f.3, false_from_ne_true (stands_in stands j) (λ h. f.4 ((are j).0 h))))),
  )

  pub rival_is : (opened : List Bool) → AreOpen g trace k (stands_in opened) → (IsRepeatAt trace k → ⊥) → (q : ℕ) → IsRival g opened i q ↔ IsOverlapAt g trace k q
  rival_is opened are once q = (
    (λ h. (let b = h.2 in let o = (are q).0 b.is_open in
        (i, at, (h.0, record { acquires = (b.acquires, h.1.0); differ = λ e. once (i, at, subst (λ z. StandsEarlier trace k z) e o.2.0); apart = b.apart; done = (o.1.1, h.1.1) }), o.2))),
    (λ f. (let same = same_Some f.0 i (sym f.1 ∙ at) in let s = f.2.1 in (
      f.2.0,
      subst (λ z. Takes g z f.2.0) same (s.acquires.1, s.done.1),
      record {
        is_open = (are q).1 (f.2.0, (s.acquires.0, s.done.0), f.3);
        acquires = s.acquires.0;
        apart = subst (λ z. both_shared g q z ≡ false) same s.apart;
      },
    ))),
  )

-- at the end of a trace the lines that are left are missing
pub missing_is : (g : GraphValue) (trace : List ℕ) (stands : List Bool) → AreEarlier trace (length trace) (stands_in stands) → (j : ℕ) → IsLeft g stands j ↔ IsMissing g trace j
missing_is g trace stands are j = (
  (λ h. (h.0, (λ c. true≢false (sym ((are j).1 (listed_earlier trace j c)) ∙ h.1)))),
  (λ m. (m.0, false_from_ne_true (stands_in stands j) (λ h. m.1 (earlier_listed trace (length trace) j ((are j).0 h))))),
)

-- the rivals of a line, by the reservation that it takes
module _ (g : GraphValue) (opened : List Bool) (i l : ℕ) (shared : Bool) (takes : Takes g i l) (s : line_passes is_shared g i ≡ shared) where
  pub rival_beside : (q : ℕ) → IsOpenBeside g opened l shared q ↔ IsRival g opened i q
  rival_beside q = (
    (λ b. (l, takes, subst (λ z. IsOpenBeside g opened l z q) (sym s) b)),
    (λ r. subst (λ z. IsOpenBeside g opened z shared q) (acquire_one g i r.0 l r.1.0 takes.0) (subst (λ z. IsOpenBeside g opened r.0 z q) s r.2)),
  )

  pub least_rival : (o : Option ℕ) → MatchOption o ((q : ℕ) → IsOpenBeside g opened l shared q → ⊥) (IsLeast (IsOpenBeside g opened l shared)) → MatchOption o ((q : ℕ) → IsRival g opened i q → ⊥) (IsLeast (IsRival g opened i))
  least_rival None h = λ q r. h q ((rival_beside q).1 r)
  least_rival (Some q) h = least_same (IsOpenBeside g opened l shared) (IsRival g opened i) rival_beside q h

-- the least source of the first n edges that does not wait and is not among those that stand
pub record IsLeastOf (g : GraphValue) (stands : List Bool) (es : List Edge) (n j : ℕ) : Type 0 where
  pub left : IsLeft g stands j
  pub listed : (e : Edge) × StandsEarlier es n e × (e.from ≡ j)
  pub least : (e : Edge) → StandsEarlier es n e → IsLeft g stands e.from → j ≤ e.from

abbrev pub IsLeastTo : GraphValue → List Bool → List Edge → ℕ → Option ℕ → Type 0
IsLeastTo g stands es n None = (e : Edge) → StandsEarlier es n e → IsLeft g stands e.from → ⊥
IsLeastTo g stands es n (Some j) = IsLeastOf g stands es n j

-- one more edge
abbrev lesser : Option ℕ → ℕ → ℕ
lesser one other = option_map_or (λ n. min n other) one other

module _ (g : GraphValue) (stands : List Bool) (es : List Edge) (n : ℕ) (d : Edge) (at : slice_get es n ≡ Some d) where
  pub least_kept : (o : Option ℕ) → IsLeastTo g stands es n o → (IsLeft g stands d.from → ⊥) → IsLeastTo g stands es (n + 1) o
  least_kept None h none = λ e c left. elim (earlier_cases es n d e at c) [
    | inl same ↦ none (subst (λ (z : Edge). IsLeft g stands z.from) (sym same) left)
    | inr before ↦ h e before left
  ]
  least_kept (Some j) h none = record {
    left = h.left;
    listed = (h.listed.0, earlier_more es n h.listed.0 h.listed.1, h.listed.2);
    least = λ e c left. elim (earlier_cases es n d e at c) [
      | inl same ↦ absurd (none (subst (λ (z : Edge). IsLeft g stands z.from) (sym same) left))
      | inr before ↦ h.least e before left
    ];
  }

  is_least : (j : ℕ) → IsLeft g stands j → (e : Edge) × StandsEarlier es (n + 1) e × (e.from ≡ j) → j ≤ d.from → ((e : Edge) → StandsEarlier es n e → IsLeft g stands e.from → j ≤ e.from) → IsLeastOf g stands es (n + 1) j
  is_least j left listed most before = record {
    left = left;
    listed = listed;
    least = λ e c other. elim (earlier_cases es n d e at c) [
      | inl same ↦ (let from : d.from ≡ e.from = ap (λ (z : Edge). z.from) same in omega arith)
      | inr earlier ↦ before e earlier other
    ];
  }

  pub least_added : (o : Option ℕ) → IsLeastTo g stands es n o → IsLeft g stands d.from → IsLeastTo g stands es (n + 1) (Some (lesser o d.from))
  least_added None h left = is_least d.from left (d, earlier_here es n d at, refl) (omega arith) (λ e c other. absurd (h e c other))
  least_added (Some j) h left = elim (cases_lt d.from j) [
    | inl less ↦ subst (λ m. IsLeastOf g stands es (n + 1) m) (let e : d.from ≡ min j d.from = omega arith in e)
        (is_least d.from left (d, earlier_here es n d at, refl) (omega arith) (λ e c other. (let most : j ≤ e.from = h.least e c other in omega arith)))
    | inr up ↦ subst (λ m. IsLeastOf g stands es (n + 1) m) (let e : j ≡ min j d.from = omega arith in e)
        (is_least j h.left (h.listed.0, earlier_more es n h.listed.0 h.listed.1, h.listed.2) up h.least)
  ]

abbrev pub no_edge : Edge
no_edge = record { «from» = 0; «to» = 0; «kind» = Passes }

-- an edge into a line is an edge
pub edge_there : (g : GraphValue) (i k : ℕ) (es : List Edge) (e : Edge) → es ≡ edges_into g i → slice_get es k ≡ Some e → Contains (edges g) e
edge_there g i k es e is at = (filter_contains (λ (x : Edge). x.to == i) (edges g) e (subst (λ xs. Contains xs e) is (got_contains es k e at))).0

edge_earlier : (g : GraphValue) (i : ℕ) (es : List Edge) → es ≡ edges_into g i → (n : ℕ) → length es ≤ n → (e : Edge) → Contains (edges g) e → e.to ≡ i → StandsEarlier es n e
edge_earlier g i es is n all e c to = earlier_by es (length es) n e all (listed_earlier es e (subst (λ xs. Contains xs e) (sym is) (into_line g e i c to)))

-- the least source among all edges into a line
pub least_source : (g : GraphValue) (stands : List Bool) (i : ℕ) (es : List Edge) → es ≡ edges_into g i → (n : ℕ) → length es ≤ n → (o : Option ℕ) → IsLeastTo g stands es n o →
    MatchOption o ((j : ℕ) → IsLate g stands i j → ⊥) (λ j. IsLeast (IsLate g stands i) j)
least_source g stands i es is n all None h = λ j late. (let e = source_edge g i j late.0 in
    h e.0 (edge_earlier g i es is n all e.0 e.1 e.3) (subst (λ z. IsLeft g stands z) (sym e.2) late.1))
least_source g stands i es is n all (Some j) h = record {
  here = (subst (λ z. Contains (sources g i) z) h.listed.2 (contains_map (λ (x : Edge). x.from) (edges_into g i) h.listed.0 (subst (λ xs. Contains xs h.listed.0) is (earlier_listed es n h.listed.0 h.listed.1))), h.left);
  below = λ m less late. (let e = source_edge g i m late.0 in
      let least : j ≤ e.0.from = h.least e.0 (edge_earlier g i es is n all e.0 e.1 e.3) (subst (λ z. IsLeft g stands z) (sym e.2) late.1) in
      let from : e.0.from ≡ m = e.2 in absurd (omega arith));
}
