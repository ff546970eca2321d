-- A graph whose paths between the lines of a flow are the flow's chains does what the flow means, line by line.
use Rattle.std.proofs.Common.{◌≡◌, ℕ, zero, suc, ◌<◌, ◌≤◌, Bool, true, false, inl, inr, List, [], ◌∷◌, ◌++◌, length, refl, sym, ◌∙◌, ap, subst, append-nil, arith}
use Rattle.std.specs.Prelude.{Contains, Option, Some, ◌≢◌, slice_get, option_map, flat_map, filter_map}
use Rattle.std.specs.Option.{option_map_or}
use Rattle.std.specs.List.{AllByRecursion}
use Rattle.std.proofs.lemmas.Bool.{true≢false, cases_order}
use Rattle.std.proofs.lemmas.Option.{slice_get_within, same_Some}
use Rattle.std.proofs.lemmas.List.Concat.{flat_map-append}
use Rattle.std.proofs.lemmas.List.Elements.{filter_map-append}
use Rattle.graph_terms.specs.declared.decl.Decl.{Decl}
use Rattle.graph_terms.specs.declared.outcome.Verdict.{Verdict}
use Rattle.graph_terms.specs.declared.outcome.Verdict.TheVariants.{Fine, Fault}
use Rattle.graph_terms.specs.declared.outcome.End.{End}
use Rattle.graph_terms.specs.declared.outcome.End.TheVariants.{Faulted, Cancelled}
use Rattle.graph_terms.specs.declared.verb.Edge.{Edge}
use Rattle.graph_terms.specs.declared.verb.Line.{Line}
use Rattle.graph_terms.specs.declared.verb.Verb.{Verb}
use Rattle.graph_terms.specs.declared.verb.Verb.TheVariants.{Merge, MergeIgnore, Acquire, Release, Fill, Copy, Reduce, Task}
use Rattle.graph_terms.specs.Graph.{GraphValue, space_of, named_spaces, space_at, verb_at}
use Rattle.graph_terms.specs.Edges.{edges}
use Rattle.graph_meaning.specs.Path.{Path, HasPath, last, first}
use Rattle.graph_terms.specs.Fits.{IsGraph}
use Rattle.graph_meaning.specs.Effect.{Cells, zero_cells, CellChange, cells_after, Effect, effect, verb_verdict, verb_changes}
use Rattle.graph_meaning.specs.Evaluation.{Step, cells_of, is_cancelled, end_by, made_by, step_by, step_of, steps_after, evaluation, eval_end}
use Rattle.basics.proofs.ListFacts.{filter_contains}
use Rattle.graph_meaning.proofs.GraphLaws as graph_laws
use Rattle.graph_meaning.proofs.Cancelled.{cancelled_if_unbroken, unbroken_if_cancelled, not_cancelled_of}
use Rattle.flow_order.specs.Flow.{IsFlow, uses_columns}
use Rattle.flow_order.specs.Meaning.{is_lost, flow_step, flow_steps, flow_end, flow_cells}
use Rattle.flow_order.specs.Forward.{AllForward}
use Rattle.flow_order.specs.Orders.{is_passing, passing_edges, Orders}
use Rattle.flow_order.specs.Written.{IsLock, orders_alone, Keeps}
use Rattle.flow_order.proofs.Forward.{paths_lead_forward}
use Rattle.flow_order.proofs.FlowSide.{flow_ends, spoiled, chain_spoils, chain_rises, from_fault, flow_end_is}
use Rattle.flow_order.proofs.GraphSide.{turn_end, next_steps, eval_is, unbroken_from, unbroken_after}

-- an element stands at each place
pub got : {X : Type 0} (xs : List X) (i : ℕ) → i < length xs → (x : X) × (slice_get xs i ≡ Some x)
got [] i h = absurd (omega arith)
got (x ∷ xs) zero h = (x, refl)
got (x ∷ xs) (suc i) h = got xs i (omega arith)

bools_agree : (a b : Bool) → (a ≡ true → b ≡ true) → (b ≡ true → a ≡ true) → a ≡ b
bools_agree true b h i = sym (h refl)
bools_agree false true h i = i refl
bools_agree false false h i = refl

-- lines that only order do nothing
pub alone_uses : (v : Verb) → orders_alone v ≡ true → uses_columns v ≡ true → ⊥
alone_uses (Merge ks) h u = true≢false (sym u)
alone_uses (MergeIgnore ks) h u = true≢false (sym u)
alone_uses (Acquire k shared) h u = true≢false (sym u)
alone_uses (Release k) h u = true≢false (sym u)
alone_uses v h u = true≢false (sym h)

abbrev DoesNothing : (ℕ → List (ℕ × ℕ)) → Cells → Verb → Type 0
DoesNothing space cells v = (verb_verdict space cells v ≡ Fine) × (verb_changes space cells v ≡ [])

alone_does : (space : ℕ → List (ℕ × ℕ)) (cells : Cells) (v : Verb) → orders_alone v ≡ true → DoesNothing space cells v
alone_does space cells (Fill t s w) h = absurd (true≢false (sym h))
alone_does space cells (Copy x y s) h = absurd (true≢false (sym h))
alone_does space cells (Reduce o x y s) h = absurd (true≢false (sym h))
alone_does space cells (Task k) h = absurd (true≢false (sym h))
alone_does space cells v h = (refl, refl)

made_none : (v : Verdict) (cs : List CellChange) → cs ≡ [] → made_by v cs ≡ []
made_none Fine cs h = h
made_none Fault cs h = refl

step_none : (n : ℕ) (b : Bool) (e : Effect) → e.changes ≡ [] → (step_by n b e).changes ≡ []
step_none n true e h = refl
step_none n false e h = made_none e.verdict e.changes h

fine_end : (v : Verdict) → v ≡ Fine → end_by v ≢ Faulted
fine_end Fine h = λ e. cc
fine_end Fault h = cc

step_unfaulted : (n : ℕ) (b : Bool) (e : Effect) → e.verdict ≡ Fine → (step_by n b e).ends ≢ Faulted
step_unfaulted n true e h = λ x. cc
step_unfaulted n false e h = fine_end e.verdict h

step_cancelled : (n : ℕ) (b : Bool) (e : Effect) → (step_by n b e).ends ≡ Cancelled → b ≡ true
step_cancelled n true e h = refl
step_cancelled n false e h = absurd (not_cancelled_of e.verdict h)

same_ends : (n m : ℕ) (b : Bool) (e : Effect) → (step_by n b e).ends ≡ (step_by m b e).ends
same_ends n m true e = refl
same_ends n m false e = refl

same_changes : (n m : ℕ) (b : Bool) (e : Effect) → (step_by n b e).changes ≡ (step_by m b e).changes
same_changes n m true e = refl
same_changes n m false e = refl

-- the effect of a verb over these spaces
abbrev effect_by : (ℕ → List (ℕ × ℕ)) → Option Verb → Cells → Effect
effect_by space v cells = record {
  verdict = option_map_or (verb_verdict space cells) v Fine;
  changes = option_map_or (verb_changes space cells) v [];
}

abbrev pub space_in : List (List ℕ × List (ℕ × ℕ)) → ℕ → List (ℕ × ℕ)
space_in spaces s = option_map_or (λ x. x.1) (slice_get spaces s) []

no_spaces : (ds : List Decl) → AllByRecursion IsLock ds → filter_map space_of ds ≡ []
no_spaces [] h = refl
no_spaces (d ∷ ds) h = subst (λ x. filter_map space_of (x ∷ ds) ≡ []) (sym h.0.1) (no_spaces ds h.1)

pub path_all : (g : GraphValue) {i j : ℕ} → Path (passing_edges g) i j → HasPath g i j
path_all g (last e c p q) = last e (filter_contains (λ (x : Edge). is_passing x.kind) (edges g) e c).0 p q
path_all g (first e c p r) = first e (filter_contains (λ (x : Edge). is_passing x.kind) (edges g) e c).0 p (path_all g r)

path_from : (g : GraphValue) {i j : ℕ} → ((e : Edge) → Contains (edges g) e → e.from < length g.lines) → HasPath g i j → i < length g.lines
path_from g h (last e c p q) = subst (λ x. x < length g.lines) p (h e c)
path_from g h (first e c p r) = subst (λ x. x < length g.lines) p (h e c)

abbrev all_changes : List Step → List CellChange
all_changes ss = flat_map (λ (s : Step). s.changes) ss

module _ (f : GraphValue) (commute : Bool) (g : GraphValue) (place : ℕ → ℕ) (flow : IsFlow f) (fits : IsGraph g) (fwd : AllForward g) (k : Keeps f g place) (o : Orders f commute g place) where
  abbrev ge : ℕ → End
  ge n = turn_end g fits fwd n

  abbrev fe : ℕ → End
  fe m = flow_ends f commute m

  pub place_within : (i : ℕ) → i < length f.lines → place i < length g.lines
  place_within i h = let l = got f.lines i h in let m = k.line i l.0 l.1 in slice_get_within g.lines (place i) m.0 m.1

  pub place_uses : (i : ℕ) → i < length f.lines → (m : Line) × (slice_get g.lines (place i) ≡ Some m) × (uses_columns m.verb ≡ true) × (verb_at g (place i) ≡ verb_at f i)
  place_uses i h =
      let l = got f.lines i h in
      let m = k.line i l.0 l.1 in (
        m.0,
        m.1,
        ap uses_columns m.3 ∙ flow.uses i l.0 l.1,
        ap (option_map (λ (x : Line). x.verb)) m.1 ∙ (ap Some m.3 ∙ sym (ap (option_map (λ (x : Line). x.verb)) l.1)),
      )

  pub place_order : (i m : ℕ) → i < length f.lines → place i < place m → i < m
  place_order i m h b = elim (cases_order i m) [
    | inl same ↦ (let e : place i ≡ place m = ap place same in absurd (omega arith))
    | inr (inl below) ↦ below
    | inr (inr above) ↦ (let c : place m < place i = k.ascends m i above h in absurd (omega arith))
  ]

  pub spaces_same : space_in (named_spaces g) ≡ space_in (named_spaces f)
  spaces_same = ap (λ ds. space_in (filter_map space_of ds)) k.decls
      ∙ ap space_in (filter_map-append space_of f.decls k.locks ∙ (ap (λ x. named_spaces f ++ x) (no_spaces k.locks k.only_locks) ∙ append-nil (named_spaces f)))

  effects_same : (m : ℕ) (cells : Cells) → m < length f.lines → effect g (place m) cells ≡ effect f m cells
  effects_same m cells h = ap (λ s. effect_by s (verb_at g (place m)) cells) spaces_same ∙ ap (λ v. effect_by (space_in (named_spaces f)) v cells) (place_uses m h).3

  -- a line that faulted is one of the flow
  faulted_place : (n : ℕ) → n < length g.lines → ge n ≡ Faulted → (i : ℕ) × (i < length f.lines) × (place i ≡ n)
  faulted_place n h e =
      let l = got g.lines n h in
      elim (k.others n l.0 l.1) [
        | inl r ↦ r
        | inr alone ↦ absurd (step_unfaulted n (is_cancelled g (steps_after g n) n) (effect g n (cells_of (steps_after g n)))
            (ap (λ v. option_map_or (verb_verdict (space_at g) (cells_of (steps_after g n))) v Fine) (ap (option_map (λ (x : Line). x.verb)) l.1)
            ∙ (alone_does (space_at g) (cells_of (steps_after g n)) l.0.verb alone).0) e)
      ]

  record Sim (n m : ℕ) : Type 0 where
    few : m ≤ length f.lines
    below : (i : ℕ) → i < m → place i < n
    above : (i : ℕ) → m ≤ i → i < length f.lines → n ≤ place i
    changes : all_changes (steps_after g n) ≡ all_changes (flow_steps f commute m)
    ends : (i : ℕ) → i < m → ge (place i) ≡ fe i

  between : (e : Edge) → Contains (edges g) e → (e.from < length g.lines) × (e.to < length g.lines)
  between e c = graph_laws.edges_between_lines g e fits c

  -- at its turn a line of the flow is cancelled exactly where it is in the flow
  module _ (m : ℕ) (h : m < length f.lines) (s : Sim (place m) m) where
    forth : is_cancelled g (steps_after g (place m)) (place m) ≡ true → spoiled f commute m ≡ true
    forth is =
        let n_below = place_within m h in
        let ended : ge (place m) ≡ Cancelled = ap (λ b. (step_by (place m) b (effect g (place m) (cells_of (steps_after g (place m))))).ends) is in
        let r = unbroken_from g fits fwd (unbroken_if_cancelled g (place m) (eval_is g fits fwd (place m) n_below ∙ ended)) in
        let from : r.0 < length g.lines = path_from g (λ e c. (between e c).0) (path_all g r.2) in
        let i = faulted_place r.0 from (sym (eval_is g fits fwd r.0 from) ∙ r.1) in
        let path : HasPath g (place i.0) (place m) = subst (λ x. HasPath g x (place m)) (sym i.2) (path_all g r.2) in
        let i_below : i.0 < m = place_order i.0 m i.1 (paths_lead_forward g (place i.0) (place m) fits fwd path) in
        let faulted_there : fe i.0 ≡ Faulted = sym (s.ends i.0 i_below) ∙ (ap (λ x. ge x) i.2 ∙ (sym (eval_is g fits fwd r.0 from) ∙ r.1)) in
        chain_spoils f commute (o.no_more i.0 m i.1 h path) (ap is_lost faulted_there)

    back : spoiled f commute m ≡ true → is_cancelled g (steps_after g (place m)) (place m) ≡ true
    back is =
        let r = from_fault f commute m is in
        let below : r.0 < m = chain_rises f commute r.2 in
        let within : r.0 < length f.lines = omega arith in
        let there : eval_end g (place r.0) ≡ Faulted = eval_is g fits fwd (place r.0) (place_within r.0 within) ∙ (s.ends r.0 below ∙ r.1) in
        let u = unbroken_after g fits fwd (λ e c. (between e c).1) there (o.enough r.0 m within h r.2) in
        step_cancelled (place m) (is_cancelled g (steps_after g (place m)) (place m)) (effect g (place m) (cells_of (steps_after g (place m))))
        (sym (eval_is g fits fwd (place m) (place_within m h)) ∙ cancelled_if_unbroken u)

    cells_same : cells_of (steps_after g (place m)) ≡ cells_of (flow_steps f commute m)
    cells_same = ap (cells_after zero_cells) s.changes

    step_same : step_of g (steps_after g (place m)) (place m) ≡ step_by (place m) (spoiled f commute m) (effect f m (cells_of (flow_steps f commute m)))
    step_same = ap (λ b. step_by (place m) b (effect g (place m) (cells_of (steps_after g (place m))))) (bools_agree (is_cancelled g (steps_after g (place m)) (place m)) (spoiled f commute m) forth back)
        ∙ ap (step_by (place m) (spoiled f commute m)) (ap (effect g (place m)) cells_same ∙ effects_same m (cells_of (flow_steps f commute m)) h)

    ends_same : ge (place m) ≡ fe m
    ends_same = ap (λ (x : Step). x.ends) step_same ∙ same_ends (place m) m (spoiled f commute m) (effect f m (cells_of (flow_steps f commute m)))

    changes_same : (step_of g (steps_after g (place m)) (place m)).changes ≡ (flow_step f commute (flow_steps f commute m) m).changes
    changes_same = ap (λ (x : Step). x.changes) step_same ∙ same_changes (place m) m (spoiled f commute m) (effect f m (cells_of (flow_steps f commute m)))

  changes_push : (n : ℕ) → n < length g.lines → (cs : List CellChange) → (step_of g (steps_after g n) n).changes ≡ cs → all_changes (steps_after g (suc n)) ≡ all_changes (steps_after g n) ++ (cs ++ [])
  changes_push n h cs e = ap all_changes (next_steps g fits fwd n h)
      ∙ (flat_map-append (λ (s : Step). s.changes) (steps_after g n) (step_of g (steps_after g n) n ∷ []) ∙ ap (λ x. all_changes (steps_after g n) ++ (x ++ [])) e)

  sim_flow : (m : ℕ) → m < length f.lines → Sim (place m) m → Sim (suc (place m)) (suc m)
  sim_flow m h s = record {
    few = omega arith;
    below = λ i b. elim (cases_order i m) [
      | inl same ↦ (let e : place i ≡ place m = ap place same in omega arith)
      | inr (inl less) ↦ (let e : place i < place m = s.below i less in omega arith)
      | inr (inr more) ↦ absurd (omega arith)
    ];
    above = λ i a b. (let c : place m < place i = k.ascends m i (omega arith) b in omega arith);
    changes = changes_push (place m) (place_within m h) _ (changes_same m h s)
        ∙ (ap (λ x. x ++ ((flow_step f commute (flow_steps f commute m) m).changes ++ [])) s.changes
        ∙ sym (flat_map-append (λ (s : Step). s.changes) (flow_steps f commute m) (flow_step f commute (flow_steps f commute m) m ∷ [])));
    ends = λ i b. elim (cases_order i m) [
      | inl same ↦ ap (λ x. ge (place x)) same ∙ (ends_same m h s ∙ ap (λ x. fe x) (sym same))
      | inr (inl less) ↦ s.ends i less
      | inr (inr more) ↦ absurd (omega arith)
    ];
  }

  sim_alone : (n m : ℕ) → n < length g.lines → (l : Line) → slice_get g.lines n ≡ Some l → orders_alone l.verb ≡ true → Sim n m → Sim (suc n) m
  sim_alone n m h l at alone s = record {
    few = s.few;
    below = λ i b. (let e : place i < n = s.below i b in omega arith);
    above = λ i a b. elim (cases_order (place i) n) [
      | inl same ↦ (
          let u = place_uses i b in
          let there : u.0 ≡ l = same_Some u.0 l (sym u.1 ∙ (ap (slice_get g.lines) same ∙ at)) in
          absurd (alone_uses l.verb alone (ap (λ (x : Line). uses_columns x.verb) (sym there) ∙ u.2)))
      | inr (inl less) ↦ (let c : n ≤ place i = s.above i a b in absurd (omega arith))
      | inr (inr more) ↦ omega arith
    ];
    changes = changes_push n h [] (step_none n (is_cancelled g (steps_after g n) n) (effect g n (cells_of (steps_after g n)))
        (ap (λ v. option_map_or (verb_changes (space_at g) (cells_of (steps_after g n))) v []) (ap (option_map (λ (x : Line). x.verb)) at)
        ∙ (alone_does (space_at g) (cells_of (steps_after g n)) l.verb alone).1))
        ∙ (append-nil (all_changes (steps_after g n)) ∙ s.changes);
    ends = s.ends;
  }

  sim_next : (n m : ℕ) → n < length g.lines → Sim n m → (m' : ℕ) × Sim (suc n) m'
  sim_next n m h s =
      let l = got g.lines n h in
      elim (k.others n l.0 l.1) [
        | inl r ↦ (
            let is_m : r.0 ≡ m = elim (cases_order r.0 m) [
              | inl same ↦ same
              | inr (inl less) ↦ (let c : place r.0 < n = s.below r.0 less in let e : place r.0 ≡ n = r.2 in absurd (omega arith))
              | inr (inr more) ↦ (let within : r.0 < length f.lines = r.1 in let c : place m < place r.0 = k.ascends m r.0 more within in let d : n ≤ place m = s.above m (omega arith) (omega arith) in let e : place r.0 ≡ n = r.2 in absurd (omega arith))
            ] in
            let at : place m ≡ n = ap place (sym is_m) ∙ r.2 in
            let within : m < length f.lines = subst (λ x. x < length f.lines) is_m r.1 in
            (suc m, subst (λ x. Sim (suc x) (suc m)) at (sim_flow m within (subst (λ x. Sim x m) (sym at) s))))
        | inr alone ↦ (m, sim_alone n m h l.0 l.1 alone s)
      ]

  sim : (n : ℕ) → n ≤ length g.lines → (m : ℕ) × Sim n m
  sim zero h = (0, record { few = omega arith; below = λ i b. absurd (omega arith); above = λ i a b. omega arith; changes = refl; ends = λ i b. absurd (omega arith) })
  sim (suc n) h = let r = sim n (omega arith) in sim_next n r.0 (omega arith) r.1

  all_done : (m : ℕ) → Sim (length g.lines) m → m ≡ length f.lines
  all_done m s = elim (cases_order m (length f.lines)) [
    | inl same ↦ same
    | inr (inl less) ↦ (let a : length g.lines ≤ place m = s.above m (omega arith) less in let b : place m < length g.lines = place_within m less in absurd (omega arith))
    | inr (inr more) ↦ (let b : m ≤ length f.lines = s.few in absurd (omega arith))
  ]

  whole : Sim (length g.lines) (length f.lines)
  whole = let r = sim (length g.lines) (omega arith) in subst (λ x. Sim (length g.lines) x) (all_done r.0 r.1) r.1

pub means_by_order : (f : GraphValue) (commute : Bool) (g : GraphValue) (place : ℕ → ℕ) → IsFlow f → IsGraph g → AllForward g → Keeps f g place → Orders f commute g place →
    ((i : ℕ) → i < length f.lines → eval_end g (place i) ≡ flow_end f commute i) × ((c p : ℕ) → cells_of (evaluation g) c p ≡ flow_cells f commute c p)
means_by_order f commute g place flow fits fwd k o =
    let w = whole f commute g place flow fits fwd k o in (
      (λ i h. eval_is g fits fwd (place i) (place_within f commute g place flow fits fwd k o i h) ∙ (w.ends i h ∙ sym (flow_end_is f commute (length f.lines) i h))),
      (λ c p. ap (λ cs. cells_after zero_cells cs c p) w.changes),
    )
