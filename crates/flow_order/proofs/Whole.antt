-- From the sources of the lines and the sections: paths are chains, and the graph means the flow.
use Rattle.std.proofs.Common.{◌≡◌, ℕ, zero, suc, ◌<◌, Bool, true, false, ◌⊎◌, inl, inr, length, refl, sym, ◌∙◌, ap, subst, arith}
use Rattle.std.specs.Prelude.{Option, Some, slice_get, option_map}
use Rattle.std.specs.Option.{option_map_or}
use Rattle.std.specs.List.{list_all}
use Rattle.std.proofs.lemmas.Bool.{true≢false, cases_order, true_from_ne_false}
use Rattle.std.proofs.lemmas.Option.{get_or_from_slice_get}
use Rattle.index_spaces.specs.Laws.{PointsAreListed}
use Rattle.graph_terms.specs.declared.verb.Line.{Line}
use Rattle.graph_terms.specs.declared.verb.Verb.{Verb}
use Rattle.graph_terms.specs.declared.verb.Verb.TheVariants.{User, Trigger, Cancel, Phase, Arrive}
use Rattle.graph_terms.specs.Graph.{GraphValue}
use Rattle.graph_meaning.specs.Path.{Path, HasPath, last, first}
use Rattle.graph_terms.specs.Fits.{IsGraph}
use Rattle.graph_meaning.proofs.GraphLaws as graph_laws
use Rattle.basics.proofs.ListFacts.{fails_some}
use Rattle.graph_meaning.proofs.Public.{path_append}
use Rattle.flow_order.specs.Flow.{IsFlow, uses_columns}
use Rattle.flow_order.specs.Meaning.{depends, Chain, last as last_link, first as first_link}
use Rattle.flow_order.specs.Forward.{leads_forward, AllForward}
use Rattle.flow_order.specs.Orders.{passing_edges, Orders}
use Rattle.flow_order.specs.Written.{orders_alone, Keeps, MeansFlow}
use Rattle.flow_order.specs.Sources.{Feeds, straight, through, SourcesStand}
use Rattle.flow_order.specs.Sections.{SectionsStand}
use Rattle.flow_order.proofs.Forward.{paths_lead_forward}
use Rattle.flow_order.proofs.FlowSide.{depends_below, chain_rises}
use Rattle.flow_order.proofs.Simulation.{got, path_all, means_by_order}
use Rattle.flow_order.proofs.Acceptance.{accepted_by_order}

-- the verbs of such a graph lead forward
forward_uses : (v : Verb) → uses_columns v ≡ true → leads_forward v ≡ true
forward_uses User h = h
forward_uses (Trigger k) h = h
forward_uses (Cancel k) h = h
forward_uses (Phase k) h = h
forward_uses (Arrive k w weight) h = h
forward_uses v h = refl

forward_alone : (v : Verb) → orders_alone v ≡ true → leads_forward v ≡ true
forward_alone User h = h
forward_alone (Trigger k) h = h
forward_alone (Cancel k) h = h
forward_alone (Phase k) h = h
forward_alone (Arrive k w weight) h = h
forward_alone v h = refl

module _ (f : GraphValue) (commute : Bool) (g : GraphValue) (place : ℕ → ℕ) (flow : IsFlow f) (fits : IsGraph g) (k : Keeps f g place) (s : SourcesStand f commute g place) where
  line_forward : (n : ℕ) (l : Line) → slice_get g.lines n ≡ Some l → leads_forward l.verb ≡ true
  line_forward n l at = elim (k.others n l at) [
    | inl r ↦ (
        let own = got f.lines r.0 r.1 in
        let m = k.line r.0 own.0 own.1 in
        let both : Some m.0 ≡ Some l = sym m.1 ∙ (ap (slice_get g.lines) r.2 ∙ at) in
        let verbs : option_map (λ (x : Line). x.verb) (Some m.0) ≡ option_map (λ (x : Line). x.verb) (Some l) = ap (option_map (λ (x : Line). x.verb)) both in
        ap (λ v. option_map_or leads_forward v false) (sym verbs) ∙ (ap leads_forward m.3 ∙ forward_uses own.0.verb (flow.uses r.0 own.0 own.1)))
    | inr alone ↦ forward_alone l.verb alone
  ]

  all_forward : AllForward g
  all_forward = true_from_ne_false (list_all (λ (l : Line). leads_forward l.verb) g.lines) (λ no.
      let x = fails_some (λ (l : Line). leads_forward l.verb) g.lines no in
      let at = got g.lines x.1.0 x.1.1 in
      let same : x.0 ≡ at.0 = sym x.1.2 ∙ get_or_from_slice_get g.lines x.1.0 at.0 x.0 at.1 in
      true≢false (sym (line_forward x.1.0 at.0 at.1) ∙ (ap (λ (l : Line). leads_forward l.verb) (sym same) ∙ x.2)))

  -- a path to a line of the flow: what it begins with feeds a line that is it, or has a chain to it
  abbrev FeedsTowards : ℕ → ℕ → Type 0
  FeedsTowards x j = (m : ℕ) × (m < length f.lines) × Feeds g x (place m) × ((m ≡ j) ⊎ Chain f commute m j)

  onward : (m n j : ℕ) → depends f commute m n ≡ true → ((n ≡ j) ⊎ Chain f commute n j) → Chain f commute m j
  onward m n j d (inl same) = subst (λ x. Chain f commute m x) same (last_link d)
  onward m n j d (inr c) = first_link d c

  towards : {x y : ℕ} (j : ℕ) → j < length f.lines → HasPath g x y → y ≡ place j → FeedsTowards x j
  towards j h (last e c p q) at = (j, h, straight e c p (q ∙ at), inl refl)
  towards j h (first e c p r) at =
      let next = towards j h r at in
      let l = got g.lines e.to (graph_laws.edges_between_lines g e fits c).1 in
      elim (k.others e.to l.0 l.1) [
        | inl m ↦ (m.0, m.1, straight e c p (sym m.2), inr (onward m.0 next.0 j (s.sound m.0 next.0 m.1 next.1 (subst (λ z. Feeds g z (place next.0)) (sym m.2) next.2)) next.3))
        | inr alone ↦ (next.0, next.1, through e c p (ap (λ (z : Option Line). option_map_or orders_alone (option_map (λ (x : Line). x.verb) z) false) l.1 ∙ alone) next.2, next.3)
      ]

  no_more : (i j : ℕ) → i < length f.lines → j < length f.lines → HasPath g (place i) (place j) → Chain f commute i j
  no_more i j a b p = let t = towards j b p refl in onward i t.0 j (s.sound i t.0 a t.1 t.2) t.3

  rises : (i j : ℕ) → i < length f.lines → Path (passing_edges g) (place i) (place j) → place i < place j
  rises i j h p = paths_lead_forward g (place i) (place j) fits all_forward (path_all g p)

  below_of : (i j : ℕ) → i < length f.lines → place i < place j → i < j
  below_of i j h b = elim (cases_order i j) [
    | inl same ↦ (let e : place i ≡ place j = ap place same in absurd (omega arith))
    | inr (inl below) ↦ below
    | inr (inr above) ↦ (let c : place j < place i = k.ascends j i above h in absurd (omega arith))
  ]

  -- along one dependence, where shorter ones have paths
  abbrev PathsBelow : ℕ → Type 0
  PathsBelow n = (i j : ℕ) → j < n → j < length f.lines → Chain f commute i j → Path (passing_edges g) (place i) (place j)

  dependence : (n i j : ℕ) → PathsBelow n → j < suc n → j < length f.lines → depends f commute i j ≡ true → Path (passing_edges g) (place i) (place j)
  dependence n i j again a b d =
      let i_below : i < j = depends_below f commute i j d in
      elim (s.complete i j (omega arith) b d) [
        | inl p ↦ p
        | inr r ↦ (let less : r.0 < j = below_of r.0 j r.1 (rises r.0 j r.1 r.3) in path_append (again i r.0 (omega arith) r.1 r.2) r.3)
      ]

  along : (n : ℕ) → PathsBelow n → {i j : ℕ} → j < suc n → j < length f.lines → Chain f commute i j → Path (passing_edges g) (place i) (place j)
  along n again a b (last_link d) = dependence n _ _ again a b d
  along n again a b (first_link {i} {k = m} {j} d c) =
      let less : m < j = chain_rises f commute c in
      path_append (again i m (omega arith) (omega arith) (last_link d)) (along n again a b c)

  paths_below : (n : ℕ) → PathsBelow n
  paths_below zero i j a b c = absurd (omega arith)
  paths_below (suc n) i j a b c = along n (paths_below n) a b c

  orders : Orders f commute g place
  orders = record {
    no_more = no_more;
    enough = λ i j a b c. paths_below (suc j) i j (omega arith) b c;
  }

pub means_by_sources : PointsAreListed → (f : GraphValue) (commute : Bool) (g : GraphValue) (place : ℕ → ℕ) → IsFlow f → IsGraph g → Keeps f g place → SourcesStand f commute g place → SectionsStand f commute g place → MeansFlow f commute g
means_by_sources listed f commute g place flow fits k s stand =
    let fwd = all_forward f commute g place flow fits k s in
    let o = orders f commute g place flow fits k s in
    let m = means_by_order f commute g place flow fits fwd k o in
    record {
      place = place;
      keeps = k;
      fits = fits;
      accepted = accepted_by_order listed f commute g place flow fits fwd k o stand;
      ends = m.0;
      cells = m.1;
      orders = λ i j a b. (o.no_more i j a b, λ c. path_all g (o.enough i j a b c));
    }
