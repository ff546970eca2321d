-- Lines that stand behind their sources have no path to themselves, and searches along edges.
use Rattle.std.proofs.Common.{◌≡◌, ℕ, ◌<◌, Bool, true, false, inl, inr, List, [], ◌∷◌, sym, ◌∙◌, ap, arith}
use Rattle.std.specs.Prelude.{Contains, ◌↔◌}
use Rattle.std.proofs.lemmas.Bool.{cases_Bool}
use Rattle.graph_terms.specs.declared.verb.Edge.{Edge}
use Rattle.graph_terms.specs.Graph.{GraphValue}
use Rattle.graph_terms.specs.Edges.{edges}
use Rattle.graph_meaning.specs.Path.{Path, last, first}
use Rattle.graph_meaning.specs.Rules.{NoCycleAt}
use Rattle.basics.proofs.ListFacts.{contains_none, contains_cases, contains_here}
use Rattle.graph_meaning.proofs.Public.{path_append, along_path}
use Rattle.cycle_search.specs.Search.{IsSearching}

-- lines whose sources are all listed, each at a lesser place, have no path to themselves, also where other lines have
pub record IsListed (es : List Edge) (listed : ℕ → Bool) (rank : ℕ → ℕ) : Type 0 where
  pub each : (e : Edge) → Contains es e → listed e.to ≡ true → (listed e.from ≡ true) × (rank e.from < rank e.to)

listed_path : (es : List Edge) (listed : ℕ → Bool) (rank : ℕ → ℕ) → IsListed es listed rank → {i j : ℕ} → Path es i j → listed j ≡ true → (listed i ≡ true) × (rank i < rank j)
listed_path es listed rank l {i = i} {j = j} (last e c p q) h =
    let k = l.each e c (ap listed q ∙ h) in
    let a : rank e.from ≡ rank i = ap rank p in let b : rank e.to ≡ rank j = ap rank q in let up : rank e.from < rank e.to = k.1 in (ap listed (sym p) ∙ k.0, (let r : rank i < rank j = omega arith in r))
listed_path es listed rank l {i = i} {j = j} (first e c p r) h =
    let m = listed_path es listed rank l r h in
    let k = l.each e c m.0 in
    let a : rank e.from ≡ rank i = ap rank p in let up : rank e.from < rank e.to = k.1 in let rest : rank e.to < rank j = m.1 in (ap listed (sym p) ∙ k.0, (let r : rank i < rank j = omega arith in r))

pub listed_no_cycle : (g : GraphValue) (listed : ℕ → Bool) (rank : ℕ → ℕ) → IsListed (edges g) listed rank → (i : ℕ) → listed i ≡ true → NoCycleAt g i
listed_no_cycle g listed rank l i h p = let k = listed_path (edges g) listed rank l p h in let up : rank i < rank i = k.1 in absurd (omega arith)

-- a search begins with the targets of the line's edges, marked and on the stack
pub search_begins : (es : List Edge) (i : ℕ) (marked : ℕ → Bool) (stack : List ℕ) → ((j : ℕ) → marked j ≡ true → ((e : Edge) × Contains es e × (e.from ≡ i) × (e.to ≡ j)) × Contains stack j) →
    ((j : ℕ) → Contains stack j → marked j ≡ true) → ((e : Edge) → Contains es e → e.from ≡ i → marked e.to ≡ true) → IsSearching es i marked stack
search_begins es i marked stack targets stacked begun = record {
  found = λ j h. (let e = (targets j h).0 in last e.0 e.1 e.2 e.3);
  stacked = stacked;
  begun = begun;
  closed = λ e c h. inr (targets e.from h).1;
}

-- one line off the stack: the unmarked targets of its edges are marked and pushed
pub search_more : (es : List Edge) (i x : ℕ) (marked after : ℕ → Bool) (stack pushed : List ℕ) → IsSearching es i marked (x ∷ stack) → ((j : ℕ) → marked j ≡ true → after j ≡ true) →
    ((j : ℕ) → marked j ≡ false → after j ≡ true → ((e : Edge) × Contains es e × (e.from ≡ x) × (e.to ≡ j)) × Contains pushed j) →
    ((e : Edge) → Contains es e → e.from ≡ x → after e.to ≡ true) → ((j : ℕ) → Contains stack j → Contains pushed j) → ((j : ℕ) → Contains pushed j → after j ≡ true) → IsSearching es i after pushed
search_more es i x marked after stack pushed s keeps marks covers stays stacked = record {
  found = λ j h. elim (cases_Bool (marked j)) [
    | inl old ↦ s.found j old
    | inr new ↦ (let e = (marks j new h).0 in path_append (s.found x (s.stacked x (contains_here x stack))) (last e.0 e.1 e.2 e.3))
  ];
  stacked = stacked;
  begun = λ e c h. keeps e.to (s.begun e c h);
  closed = λ e c h. elim (cases_Bool (marked e.from)) [
    | inl old ↦ elim (s.closed e c old) [
      | inl t ↦ inl (keeps e.to t)
      | inr on ↦ elim (contains_cases x stack e.from on) [ inl same ↦ inl (covers e c (sym same)) | inr rest ↦ inr (stays e.from rest) ]
    ]
    | inr new ↦ inr (marks e.from new h).1
  ];
}

search_reaches : (es : List Edge) (i : ℕ) (marked : ℕ → Bool) → IsSearching es i marked [] → (j : ℕ) → Path es i j → marked j ≡ true
search_reaches es i marked s j (last e c p q) = ap marked (sym q) ∙ s.begun e c p
search_reaches es i marked s j (first e c p r) = along_path (λ v. marked v ≡ true) (λ x d h. elim (s.closed x d h) [ inl t ↦ t | inr on ↦ absurd (contains_none x.from on) ]) r (s.begun e c p)

-- at its end it has marked exactly the lines to which a path leads
pub search_is : (es : List Edge) (i : ℕ) (marked : ℕ → Bool) → IsSearching es i marked [] → (j : ℕ) → (marked j ≡ true) ↔ Path es i j
search_is es i marked s j = (s.found j, search_reaches es i marked s j)
