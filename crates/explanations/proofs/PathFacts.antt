-- Paths and lists of edges, and how counts bound how long these are.
use Rattle.std.proofs.Common.{◌≡◌, ℕ, ◌+◌, ◌<◌, ◌≤◌, inl, inr, List, [], ◌∷◌, length, refl, sym, ◌∙◌, ap, subst, arith}
use Rattle.std.specs.Prelude.{Contains, Option, Some, None, Result, Ok, Err, Vec, IfOk, IfSome, MatchOption}
use Rattle.std.specs.Global.{Global}
use Rattle.index_spaces.specs.declared.NoMemory.{NoMemory}
use Rattle.basics.proofs.ListFacts.{contains_here, contains_cases, contains_none}
use Rattle.graph_terms.specs.declared.verb.Edge.{Edge}
use Rattle.graph_terms.specs.Graph.{GraphValue}
use Rattle.graph_terms.specs.Edges.{edges}
use Rattle.graph_meaning.specs.Path.{Path, last, first, HasPath}
use Rattle.explanations.specs.Paths.{Leads, IsPath, IsShortest, path_edges, PathsAreLists}
use Rattle.explanations.specs.declared.search.Way.TheVariants.{Back}
use Rattle.explanations.specs.Search.{near_end, far_end, AreCounts, LeadsBack, IsTrail}

path_leads : {all : List Edge} {i j : ℕ} (p : Path all i j) → (0 < length (path_edges p)) × Leads all i j (path_edges p)
path_leads (last e c f t) = (omega arith, (c, f, t))
path_leads (first e c f p) = (omega arith, (c, f, (path_leads p).1))

leads_path : (all : List Edge) (i j : ℕ) (e : Edge) (rest : List Edge) → Leads all i j (e ∷ rest) → (p : Path all i j) × (path_edges p ≡ e ∷ rest)
leads_path all i j e [] l = (last e l.0 l.1 l.2, refl)
leads_path all i j e (x ∷ rest) l = let r = leads_path all e.to j x rest l.2 in (first e l.0 l.1 r.0, ap (λ q. e ∷ q) r.1)

path_listed : (g : GraphValue) (i j : ℕ) (q : List Edge) → IsPath g i j q → (p : HasPath g i j) × (path_edges p ≡ q)
path_listed g i j [] h = let some : 0 < length {A = Edge} [] = h.some in absurd (omega arith)
path_listed g i j (e ∷ rest) h = leads_path (edges g) i j e rest h.leads

pub is_path : (g : GraphValue) (i j : ℕ) (p : HasPath g i j) → IsPath g i j (path_edges p)
is_path g i j p = record { some = (path_leads p).0; leads = (path_leads p).1 }

pub paths_listed : PathsAreLists
paths_listed = record { listed = is_path; each = path_listed }

-- what the counts of a search back from line j say of lists of edges that lead to it
module _ (all : List Edge) (start : ℕ → Type 0) (counts : ℕ → ℕ) (a : AreCounts all (near_end Back) (far_end Back) start counts) where
  pub counts_to : (i j : ℕ) (q : List Edge) → start j → Leads all i j q → (0 < counts i) × (counts i ≤ length q + 1)
  counts_to i j [] s l = let one : counts i ≡ 1 = ap counts l ∙ a.starts j s in let r : 0 < counts i = omega arith in let t : counts i ≤ length {A = Edge} [] + 1 = omega arith in (r, t)
  counts_to i j (e ∷ rest) s l =
      let r = counts_to e.to j rest s l.2 in
      let k = a.closed e l.0 r.0 in
      let p : 0 < counts e.from = k.0 in
      let m : counts e.from ≤ counts e.to + 1 = k.1 in
      let n : counts e.to ≤ length rest + 1 = r.1 in
      let t : counts e.from ≤ length (e ∷ rest) + 1 = omega arith in
      subst (λ z. (0 < counts z) × (counts z ≤ length (e ∷ rest) + 1)) l.1 (p, t)

  -- the first edge of such a list
  pub first_of : (i j : ℕ) (q : List Edge) → start j → 0 < length q → Leads all i j q → (e : Edge) × Contains all e × (e.from ≡ i) × (0 < counts e.to) × (counts e.to ≤ length q)
  first_of i j [] s some l = absurd (omega arith)
  first_of i j (e ∷ rest) s some l =
      let r = counts_to e.to j rest s l.2 in
      let n : counts e.to ≤ length rest + 1 = r.1 in
      let t : counts e.to ≤ length (e ∷ rest) = omega arith in
      (e, l.0, l.1, r.0, t)

  leads_on : (i s : ℕ) (p : List Edge) → LeadsBack all (near_end Back) (far_end Back) i s p → Leads all i s p
  leads_on i s [] l = l
  leads_on i s (e ∷ rest) l = (l.0, l.1, leads_on e.to s rest l.2)

  -- a line that counts 1 is a start
  pub first_is_start : (s : ℕ) → counts s ≡ 1 → start s
  first_is_start s one = elim (a.found s (omega arith)) [
    | inl b ↦ b.0
    | inr f ↦ (let p : 0 < counts f.0.to = f.3 in let q : counts s ≡ counts f.0.to + 1 = f.4 in absurd (omega arith))
  ]

  pub trail_leads : (i : ℕ) (p : List Edge) → (t : IsTrail all (near_end Back) (far_end Back) counts i p) → Leads all i t.start p
  trail_leads i p t = leads_on i t.start p t.leads

-- a trail of a search back from line j is a shortest path to it, and where there is none no path leads there
module _ (g : GraphValue) (j : ℕ) (counts : ℕ → ℕ) (a : AreCounts (edges g) (near_end Back) (far_end Back) (Contains (j ∷ [])) counts) where
  pub trail_is_shortest : (i : ℕ) (p : List Edge) → IsTrail (edges g) (near_end Back) (far_end Back) counts i p → IsShortest g i j p
  trail_is_shortest i p t = record {
    path = record { some = t.some; leads = subst (λ z. Leads (edges g) i z p) ends (trail_leads (edges g) (Contains (j ∷ [])) counts a i p t) };
    shortest = λ q h. (
        let f = first_of (edges g) (Contains (j ∷ [])) counts a i j q (contains_here j []) h.some h.leads in
        let least : length p ≤ counts f.0.to = t.least f.0 f.1 f.2 f.3 in
        let most : counts f.0.to ≤ length q = f.4 in omega arith);
  }
    where
      ends : t.start ≡ j
      ends = elim (contains_cases j [] t.start (first_is_start (edges g) (Contains (j ∷ [])) counts a t.start t.first)) [ inl e ↦ sym e | inr n ↦ absurd (contains_none t.start n) ]

  pub no_trail : (i : ℕ) → ((e : Edge) → Contains (edges g) e → e.from ≡ i → counts e.to ≡ 0) → HasPath g i j → ⊥
  no_trail i none p =
      let h = is_path g i j p in
      let f = first_of (edges g) (Contains (j ∷ [])) counts a i j (path_edges p) (contains_here j []) h.some h.leads in
      let z : counts f.0.to ≡ 0 = none f.0 f.1 f.2 in
      let s : 0 < counts f.0.to = f.3 in absurd (omega arith)

  -- the answers of the call
  pub answer_shortest : (i : ℕ) (r : Result (Option (Vec Edge Global)) NoMemory) →
      IfOk r (λ o. MatchOption o ((e : Edge) → Contains (edges g) e → e.from ≡ i → counts e.to ≡ 0) (λ p. IsTrail (edges g) (near_end Back) (far_end Back) counts i p.items)) →
      IfOk r (λ o. IfSome o (λ p. IsShortest g i j p.items))
  answer_shortest i (Ok (Some p)) t = trail_is_shortest i p.items t
  answer_shortest i (Ok None) t = tt
  answer_shortest i (Err e) t = tt

  pub answer_none : (i : ℕ) (r : Result (Option (Vec Edge Global)) NoMemory) →
      IfOk r (λ o. MatchOption o ((e : Edge) → Contains (edges g) e → e.from ≡ i → counts e.to ≡ 0) (λ p. IsTrail (edges g) (near_end Back) (far_end Back) counts i p.items)) →
      IfOk r (λ o. o ≡ None → HasPath g i j → ⊥)
  answer_none i (Ok (Some p)) t = λ e. cc
  answer_none i (Ok None) t = λ e. no_trail i t
  answer_none i (Err e) t = tt
