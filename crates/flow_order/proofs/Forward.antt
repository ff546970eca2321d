-- Where each line waits for lines above it alone, paths lead forward, and the evaluation ends the lines in the order of the file.
use Rattle.std.proofs.Common.{◌≡◌, ℕ, zero, suc, ◌+◌, ◌<◌, ◌≤◌, Bool, true, false, not, cond, ◌&&◌, inl, inr, List, [], ◌∷◌, ◌++◌, length, map, refl, sym, ◌∙◌, ap, subst, arith}
use Rattle.std.specs.Prelude.{Contains, Some, None, find}
use Rattle.std.specs.List.{list_all, range_with_len}
use Rattle.std.proofs.lemmas.Bool.{true≢false, cases_order, and_left, false_from_ne_true, not_from_true}
use Rattle.std.proofs.lemmas.List.{map-append}
use Rattle.std.proofs.lemmas.List.Elements.{Contains-append_cases, Contains-append_left, Contains-append_right}
use Rattle.basics.specs.Lists.{numbers_below}
use Rattle.graph_terms.specs.declared.decl.Decl.{Decl}
use Rattle.graph_terms.specs.declared.verb.Edge.{Edge}
use Rattle.graph_terms.specs.declared.verb.EdgeKind.{EdgeKind}
use Rattle.graph_terms.specs.declared.verb.EdgeKind.TheVariants.{Passes, Ignores}
use Rattle.graph_terms.specs.declared.format.Format.{Format}
use Rattle.graph_terms.specs.declared.verb.Line.{Line}
use Rattle.graph_terms.specs.declared.verb.Verb.{Verb}
use Rattle.graph_terms.specs.declared.verb.Verb.TheVariants.{User, Trigger, Cancel, Merge, MergeIgnore, Phase, Arrive}
use Rattle.graph_terms.specs.Graph.{GraphValue, never_comes}
use Rattle.graph_terms.specs.Edges.{edge, on_edges, verb_edges, line_edges, edges_after, edges, sources}
use Rattle.graph_meaning.specs.Path.{Path, HasPath, last, first}
use Rattle.graph_meaning.specs.Rules.{NoCycleAt, Everywhere}
use Rattle.graph_terms.specs.Fits.{line_fault, named_lines, LinesFit, IsGraph}
use Rattle.graph_meaning.specs.Evaluation.{Step, has_ended, is_ready, step_of, lowest_ready, advance_by, steps_after, order}
use Rattle.basics.proofs.ListFacts.{contains_none, contains_here, contains_there, map_contains, passes_each, got_contains}
use Rattle.graph_terms.proofs.Public.{passes_verb, verb_line, phase_is, never_as, named_below}
use Rattle.graph_meaning.proofs.Public.{step_of-line, stays_ended, has_ended_last, ended_cases, ready_passes}
use Rattle.flow_order.specs.Forward.{leads_forward, AllForward}

-- an edge from a number below
edge_rises : (k n : ℕ) (kind : EdgeKind) (e : Edge) → edge k n kind ≡ e → k < n → e.from < e.to
edge_rises k n kind e s h = subst (λ (x : Edge). x.from < x.to) s h

on_rises : (on : List ℕ) (n : ℕ) → ((k : ℕ) → Contains on k → k < n) → (e : Edge) → Contains (on_edges on n) e → e.from < e.to
on_rises on n h e c = let m = map_contains (λ x. edge x n Passes) on e c in edge_rises m.0 n Passes e m.2 (h m.0 m.1)

verb_rises : (b : List Line) (v : Verb) → leads_forward v ≡ true → ((k : ℕ) → Contains (named_lines v) k → k < length b) → (e : Edge) → Contains (verb_edges b (length b) v) e → e.from < e.to
verb_rises b User f h e c = absurd (true≢false (sym f))
verb_rises b (Trigger u) f h e c = absurd (true≢false (sym f))
verb_rises b (Cancel u) f h e c = absurd (true≢false (sym f))
verb_rises b (Merge ks) f h e c = let m = map_contains (λ e. edge e (length b) Passes) ks e c in edge_rises m.0 (length b) Passes e m.2 (h m.0 m.1)
verb_rises b (MergeIgnore ks) f h e c = let m = map_contains (λ e. edge e (length b) Ignores) ks e c in edge_rises m.0 (length b) Ignores e m.2 (h m.0 m.1)
verb_rises b (Phase p) f h e c = absurd (true≢false (sym f))
verb_rises b (Arrive p w weight) f h e c = absurd (true≢false (sym f))
verb_rises b v f h e c = absurd (contains_none e c)

line_rises : (format : Format) (decls : List Decl) (b : List Line) (l : Line) → line_fault (record { «format» = format; decls = decls; lines = b }) l ≡ None → leads_forward l.verb ≡ true → (e : Edge) → Contains (line_edges b l) e → e.from < e.to
line_rises format decls b l fits f e c =
    let g : GraphValue = record { «format» = format; decls = decls; lines = b } in
    elim (Contains-append_cases (on_edges l.on (length b)) (verb_edges b (length b) l.verb) e c) [
      | inl on ↦ on_rises l.on (length b) (λ k h. named_below g l fits k (Contains-append_right (named_lines l.verb) l.on k h)) e on
      | inr own ↦ verb_rises b l.verb f (λ k h. named_below g l fits k (Contains-append_left (named_lines l.verb) l.on k h)) e own
    ]

lines_rise : (format : Format) (decls : List Decl) (b ls : List Line) → LinesFit format decls b ls → ((l : Line) → Contains ls l → leads_forward l.verb ≡ true) → (e : Edge) → Contains (edges_after b ls) e → e.from < e.to
lines_rise format decls b [] fits f e c = absurd (contains_none e c)
lines_rise format decls b (l ∷ ls) fits f e c = elim (Contains-append_cases (line_edges b l) (edges_after (b ++ l ∷ []) ls) e c) [
  | inl own ↦ line_rises format decls b l fits.1 (f l (contains_here l ls)) e own
  | inr rest ↦ lines_rise format decls (b ++ l ∷ []) ls fits.2 (λ m d. f m (contains_there l ls m d)) e rest
]

pub forward_each : (g : GraphValue) → AllForward g → (l : Line) → Contains g.lines l → leads_forward l.verb ≡ true
forward_each g f l c = passes_each (λ (l : Line). leads_forward l.verb) g.lines f l c

pub edges_lead_forward : (g : GraphValue) → IsGraph g → AllForward g → (e : Edge) → Contains (edges g) e → e.from < e.to
edges_lead_forward g fits f e c = lines_rise g.format g.decls [] g.lines fits.lines (forward_each g f) e c

path_rises : {es : List Edge} {i j : ℕ} → ((e : Edge) → Contains es e → e.from < e.to) → Path es i j → i < j
path_rises {es} {i} {j} h (last e c p q) = subst (λ x. x < j) p (subst (λ x. e.from < x) q (h e c))
path_rises {es} {i} {j} h (first e c p r) =
    let one : e.from < e.to = h e c in
    let rest : e.to < j = path_rises h r in
    subst (λ x. x < j) p (omega arith)

pub paths_lead_forward : (g : GraphValue) (i j : ℕ) → IsGraph g → AllForward g → HasPath g i j → i < j
paths_lead_forward g i j fits f p = path_rises (edges_lead_forward g fits f) p

pub forward_has_no_cycle : (g : GraphValue) → IsGraph g → AllForward g → Everywhere (NoCycleAt g)
forward_has_no_cycle g fits f i p = let h : i < i = paths_lead_forward g i i fits f p in omega arith

-- each line comes
forward_comes : (g : GraphValue) → AllForward g → (k : ℕ) → never_comes g k ≡ false
forward_comes g f k = false_from_ne_true (never_comes g k) (λ never.
    let v = passes_verb _ g k never in
    let l = verb_line g k v.0 v.1 in
    let forward : leads_forward v.0 ≡ true = ap leads_forward (sym l.2) ∙ forward_each g f l.0 (got_contains g.lines k l.0 l.1) in
    elim (never_as g k v.0 v.2) [
      | inl phase ↦ true≢false (sym forward ∙ ap leads_forward (phase_is v.0 phase).1)
      | inr user ↦ true≢false (sym forward ∙ ap leads_forward user.0)
    ])

-- the first number that passes
find_at : (t : ℕ → Bool) (lo n i : ℕ) → i < n → ((k : ℕ) → lo ≤ k → k < lo + i → t k ≡ false) → t (lo + i) ≡ true → find t (range_with_len lo n) ≡ Some (lo + i)
find_at t lo zero i h before here = absurd (omega arith)
find_at t lo (suc n) zero h before here =
    let e : lo + 0 ≡ lo = omega arith in
    let now : t lo ≡ true = ap t (sym e) ∙ here in
    ap (λ b. cond b (Some lo) (find t (range_with_len (lo + 1) n))) now ∙ ap Some (sym e)
find_at t lo (suc n) (suc i) h before here =
    let e : (lo + 1) + i ≡ lo + suc i = omega arith in
    let now : t lo ≡ false = before lo (omega arith) (omega arith) in
    ap (λ b. cond b (Some lo) (find t (range_with_len (lo + 1) n))) now
    ∙ (find_at t (lo + 1) n i (omega arith) (λ k a b. before k (omega arith) (omega arith)) (ap t e ∙ here) ∙ ap Some e)

range_push : (lo n : ℕ) → range_with_len lo (suc n) ≡ range_with_len lo n ++ (lo + n) ∷ []
range_push lo zero = ap (λ x. x ∷ []) (let e : lo ≡ lo + 0 = omega arith in e)
range_push lo (suc n) = ap (λ xs. lo ∷ xs) (range_push (lo + 1) n ∙ ap (λ x. range_with_len (lo + 1) n ++ x ∷ []) (let e : (lo + 1) + n ≡ lo + suc n = omega arith in e))

below_push : (n : ℕ) → numbers_below (suc n) ≡ numbers_below n ++ n ∷ []
below_push n = range_push 0 n ∙ ap (λ x. numbers_below n ++ x ∷ []) (let z : 0 + n ≡ n = omega arith in z)

-- the first n lines have ended, in their order
pub record InOrder (n : ℕ) (ss : List Step) : Type 0 where
  pub listed : map (λ (s : Step). s.line) ss ≡ numbers_below n
  pub yes : (k : ℕ) → k < n → has_ended ss k ≡ true
  pub no : (k : ℕ) → n ≤ k → has_ended ss k ≡ false

module _ (g : GraphValue) (fits : IsGraph g) (f : AllForward g) where
  pub next_is : (n : ℕ) (ss : List Step) → n < length g.lines → InOrder n ss → lowest_ready g ss ≡ Some n
  next_is n ss h o =
      let z : 0 + n ≡ n = omega arith in
      let ready : is_ready g ss n ≡ true = ready_passes g ss n (record {
        below = h;
        left = o.no n (omega arith);
        comes = forward_comes g f n;
        sources = λ e c to. o.yes e.from (let r : e.from < e.to = edges_lead_forward g fits f e c in let t : e.to ≡ n = to in omega arith);
      }) in
      find_at (is_ready g ss) 0 (length g.lines) n h
      (λ k a b. and_left (not (has_ended ss k)) (not (never_comes g k) && list_all (has_ended ss) (sources g k)) (not_from_true (has_ended ss k) (o.yes k (let c : k < 0 + n = b in omega arith))))
      (ap (is_ready g ss) z ∙ ready)
      ∙ ap Some z

  one_more : (n : ℕ) (ss : List Step) → InOrder n ss → InOrder (suc n) (ss ++ step_of g ss n ∷ [])
  one_more n ss o = record {
    listed = map-append (λ (s : Step). s.line) ss (step_of g ss n ∷ [])
        ∙ (ap (λ xs. xs ++ (step_of g ss n).line ∷ []) o.listed ∙ (ap (λ x. numbers_below n ++ x ∷ []) (step_of-line g ss n) ∙ sym (below_push n)));
    yes = λ k h. elim (cases_order k n) [
      | inl same ↦ subst (λ x. has_ended (ss ++ step_of g ss n ∷ []) x ≡ true) (step_of-line g ss n ∙ sym same) (has_ended_last ss (step_of g ss n))
      | inr (inl below) ↦ stays_ended ss (step_of g ss n) k (o.yes k (omega arith))
      | inr (inr above) ↦ absurd (omega arith)
    ];
    no = λ k h. false_from_ne_true (has_ended (ss ++ step_of g ss n ∷ []) k) (λ ended. elim (ended_cases ss (step_of g ss n) k ended) [
      | inl before ↦ true≢false (sym before ∙ o.no k (omega arith))
      | inr now ↦ (let same : n ≡ k = sym (step_of-line g ss n) ∙ now in absurd (omega arith))
    ]);
  }

  pub in_order : (n : ℕ) → n ≤ length g.lines → InOrder n (steps_after g n)
  in_order zero h = record { listed = refl; yes = λ k b. absurd (omega arith); no = λ k b. refl }
  in_order (suc n) h =
      let o = in_order n (omega arith) in
      subst (λ x. InOrder (suc n) (advance_by g (steps_after g n) x)) (sym (next_is n (steps_after g n) (omega arith) o)) (one_more n (steps_after g n) o)

pub ends_in_file_order : (g : GraphValue) → IsGraph g → AllForward g → order g ≡ numbers_below (length g.lines)
ends_in_file_order g fits f = (in_order g fits f (length g.lines) (omega arith)).listed
