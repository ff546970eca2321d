-- Which lines are reached: those that wait, and those that are cancelled.
use Rattle.std.proofs.Common.{◌≡◌, ◌≢◌, ℕ, zero, suc, ◌+◌, ◌<◌, ◌⊎◌, inl, inr, Bool, true, false, List, [], ◌∷◌, ◌++◌, length, map, refl, sym, ◌∙◌, ap, subst, arith}
use Rattle.std.specs.Prelude.{Contains, ◌↔◌, ◌&&◌, Option, Some, None, IsTrue, IsSome, slice_get, ◌==◌}
use Rattle.std.proofs.lemmas.Bool.{true≢false, and_parts, eq-eqb}
use Rattle.std.proofs.lemmas.Option.{slice_get_read}
use Rattle.std.proofs.lemmas.List.FromFn.{get_or-map-range_with_len}
use Rattle.basics.proofs.ListFacts.{got_contains, filter_contains, contains_filter, passes_some}
use Rattle.basics.specs.Lists.{numbers_below}
use Rattle.graph_terms.specs.declared.verb.Edge.{Edge}
use Rattle.graph_terms.specs.declared.verb.EdgeKind.{EdgeKind}
use Rattle.graph_terms.specs.declared.verb.EdgeKind.TheVariants.{Passes, Ignores, Faults}
use Rattle.graph_terms.specs.declared.outcome.End.{End}
use Rattle.graph_terms.specs.declared.outcome.End.TheVariants.{Done, Faulted, Cancelled, Waiting}
use Rattle.graph_terms.specs.Graph.{GraphValue, never_comes}
use Rattle.graph_terms.specs.Edges.{edges, edges_out_of}
use Rattle.graph_terms.specs.Fits.{IsGraph}
use Rattle.graph_meaning.specs.Path.{HasPath, Reached}
use Rattle.graph_meaning.specs.Evaluation.{cancels, is_ended, eval_end, order, Unbroken, faults, faulted, on}
use Rattle.graph_meaning.specs.Laws.{EdgesBetweenLines, CancelledWhereUnbroken, OrderListsEnded}
use Rattle.explanations.specs.declared.reaches.Reach.{Reach}
use Rattle.explanations.specs.Paths.{Leads, path_edges}
use Rattle.explanations.specs.Reaches.{reach_at, end_at, carries, fault_edges, is_faulting, begins_fault, IsNever, IsFault, IsReached, AreLinked}
use Rattle.explanations.proofs.PathFacts.{is_path, paths_listed}
use Rattle.explanations.proofs.ReachFacts.{leads_from_line, leads_push, some_is}

module _ (g : GraphValue) (graph : IsGraph g) (between : EdgesBetweenLines) where
  -- edges that lead from one line to another are a path, unless there are none
  path_or_same : (k i : ℕ) (p : List Edge) → Leads (edges g) k i p → (k ≡ i) ⊎ HasPath g k i
  path_or_same k i [] l = inl l
  path_or_same k i (e ∷ p) l = inr (paths_listed.each g k i (e ∷ p) (record { some = omega arith; leads = l })).0

  pub waits_exactly : (reaches : List (Option Reach)) → ((i : ℕ) (m : Reach) → reach_at reaches i ≡ Some m → IsReached (edges g) (IsNever g) i m) →
      ((k i : ℕ) (p : List Edge) → k < length g.lines → IsTrue (never_comes g k) → Leads (edges g) k i p → IsSome (reach_at reaches i)) → (i : ℕ) → i < length g.lines → IsSome (reach_at reaches i) ↔ Reached g i
  waits_exactly reaches reached complete i below = (
    λ h. (let m = some_is (reach_at reaches i) h in
        let r = reached i m.0 m.1 in
        elim (path_or_same m.0.start i r.path.0 r.path.1) [ inl same ↦ inl (subst (IsNever g) same r.is_start) | inr p ↦ inr (m.0.start, r.is_start, p) ]),
    λ h. elim h [
      | inl never ↦ complete i i [] below never refl
      | inr p ↦ (let l = (is_path g p.0 i p.2).leads in complete p.0 i (path_edges p.2) (leads_from_line (edges g) (length g.lines) (λ e c. (between g e graph c).0) p.0 i (path_edges p.2) below l) p.1 l)
    ],
  )

  -- by the ends of the evaluation
  module _ (ends : List End) (are : ends ≡ map (eval_end g) (numbers_below (length g.lines))) (law : CancelledWhereUnbroken) (listed : OrderListsEnded) where
    end_is : (i : ℕ) → i < length g.lines → end_at ends i ≡ eval_end g i
    end_is i h = ap (λ es. end_at es i) are ∙ get_or-map-range_with_len (eval_end g) 0 (length g.lines) i i Waiting h (omega arith)

    from_is : (e : Edge) → Contains (edges g) e → end_at ends e.from ≡ eval_end g e.from
    from_is e c = end_is e.from (between g e graph c).0

    to_is : (e : Edge) → Contains (edges g) e → end_at ends e.to ≡ eval_end g e.to
    to_is e c = end_is e.to (between g e graph c).1

    -- the source of a line that ended has ended
    source_ended : (e : Edge) → Contains (edges g) e → IsTrue (is_ended (eval_end g e.to)) → IsTrue (is_ended (eval_end g e.from))
    source_ended e c t =
        let before = (listed g).sources e c (((listed g).ended e.to).1 t) in
        ((listed g).ended e.from).0 (got_contains (order g) before.0 e.from before.2)

    not_passing : (k : EdgeKind) → k ≡ Passes → k ≢ Ignores
    not_passing k is e = cc

    -- an edge that carries a fault cancels its target
    unbroken_by : (e : Edge) → Contains (edges g) e → (kind : EdgeKind) (end : End) → e.kind ≡ kind → eval_end g e.from ≡ end → cancels kind end ≡ true → IsTrue (is_ended (eval_end g e.to)) → Unbroken g e.to
    unbroken_by e c Faults end k f b t = faults e c k refl (source_ended e c t) t
    unbroken_by e c Ignores end k f b t = absurd (true≢false (sym b))
    unbroken_by e c Passes Faulted k f b t = faulted e c (not_passing e.kind k) refl f t
    unbroken_by e c Passes Cancelled k f b t = on e c (not_passing e.kind k) refl ((law g e.from).0 f) t
    unbroken_by e c Passes Done k f b t = absurd (true≢false (sym b))
    unbroken_by e c Passes Waiting k f b t = absurd (true≢false (sym b))

    carried : (e : Edge) → Contains (fault_edges g ends) e → eval_end g e.to ≡ Cancelled
    carried e m =
        let f = filter_contains (carries ends) (edges g) e m in
        let b = and_parts (cancels e.kind (end_at ends e.from)) (is_ended (end_at ends e.to)) f.1 in
        (law g e.to).1 (unbroken_by e f.0 e.kind (end_at ends e.from) refl (sym (from_is e f.0)) b.0 (subst (λ x. IsTrue (is_ended x)) (to_is e f.0) b.1))

    -- and each line that is cancelled has such an edge from one that begins a fault or is cancelled
    carries_by : (e : Edge) → Contains (edges g) e → cancels e.kind (eval_end g e.from) ≡ true → IsTrue (is_ended (eval_end g e.to)) → Contains (fault_edges g ends) e
    carries_by e c b t = contains_filter (carries ends) (edges g) e c (both (cancels e.kind (end_at ends e.from)) (is_ended (end_at ends e.to)) (ap (cancels e.kind) (from_is e c) ∙ b) (ap is_ended (to_is e c) ∙ t))
      where
        both : (a b : Bool) → a ≡ true → b ≡ true → (a && b) ≡ true
        both true b h k = k
        both false b h k = h

    begins_by : (e : Edge) → Contains (edges g) e → e.kind ≡ Faults → (end : End) → eval_end g e.from ≡ end → IsTrue (is_ended end) → IsTrue (begins_fault g end e.from) ⊎ (end ≡ Cancelled)
    begins_by e c k Done f t = inl (passes_some (λ (x : Edge). is_faulting x.kind) (edges_out_of g e.from) e (contains_filter (λ (x : Edge). x.from == e.from) (edges g) e c (eq-eqb e.from e.from refl)) (ap is_faulting k))
    begins_by e c k Faulted f t = inl refl
    begins_by e c k Cancelled f t = inr refl
    begins_by e c k Waiting f t = absurd (true≢false (sym t))

    cancels_passing : (kind : EdgeKind) (end : End) → kind ≢ Ignores → (end ≡ Faulted) ⊎ (end ≡ Cancelled) → cancels kind end ≡ true
    cancels_passing Faults end not is = refl
    cancels_passing Ignores end not is = absurd (not refl)
    cancels_passing Passes Faulted not is = refl
    cancels_passing Passes Cancelled not is = refl
    cancels_passing Passes Done not is = absurd (elim is [ inl e ↦ (let z : ⊥ = cc in z) | inr e ↦ (let z : ⊥ = cc in z) ])
    cancels_passing Passes Waiting not is = absurd (elim is [ inl e ↦ (let z : ⊥ = cc in z) | inr e ↦ (let z : ⊥ = cc in z) ])

    last_carried : (i : ℕ) → Unbroken g i → (e : Edge) × Contains (fault_edges g ends) e × (e.to ≡ i) × (IsTrue (begins_fault g (eval_end g e.from) e.from) ⊎ (eval_end g e.from ≡ Cancelled))
    last_carried i (faults e c k same f t) = (e, carries_by e c (ap (λ z. cancels z (eval_end g e.from)) k) (subst (λ z. IsTrue (is_ended (eval_end g z))) (sym same) t), same, begins_by e c k (eval_end g e.from) refl f)
    last_carried i (faulted e c k same f t) = (e, carries_by e c (cancels_passing e.kind (eval_end g e.from) k (inl f)) (subst (λ z. IsTrue (is_ended (eval_end g z))) (sym same) t), same, inl (ap (λ z. begins_fault g z e.from) f))
    last_carried i (on e c k same u t) = (let f = (law g e.from).1 u in (e, carries_by e c (cancels_passing e.kind (eval_end g e.from) k (inr f)) (subst (λ z. IsTrue (is_ended (eval_end g z))) (sym same) t), same, inr f))

    module _ (reaches : List (Option Reach)) (reached : (i : ℕ) (m : Reach) → reach_at reaches i ≡ Some m → IsReached (fault_edges g ends) (IsFault g ends) i m) (linked : AreLinked (fault_edges g ends) reaches)
        (complete : (k i : ℕ) (p : List Edge) → k < length g.lines → IsTrue (begins_fault g (end_at ends k) k) → Leads (fault_edges g ends) k i p → IsSome (reach_at reaches i)) where
      in_lines : (e : Edge) → Contains (fault_edges g ends) e → e.from < length g.lines
      in_lines e c = (between g e graph (filter_contains (carries ends) (edges g) e c).0).0

      -- in the order of the evaluation
      cancelled_reached : (b k i : ℕ) → k < b → slice_get (order g) k ≡ Some i → eval_end g i ≡ Cancelled → IsSome (reach_at reaches i)
      cancelled_reached zero k i h at c = absurd (omega arith)
      cancelled_reached (suc b) k i h at c =
          let u = last_carried i ((law g i).0 c) in
          let e = u.0 in
          let inside = (filter_contains (carries ends) (edges g) e u.1).0 in
          subst (λ z. IsSome (reach_at reaches z)) u.2 (elim u.3 [
            | inl begins ↦ complete e.from e.to (e ∷ []) (in_lines e u.1) (subst (λ z. IsTrue (begins_fault g z e.from)) (sym (from_is e inside)) begins) (u.1, refl, refl)
            | inr from ↦ (
                let before = (listed g).sources e inside (subst (λ z. Contains (order g) z) (sym u.2) (got_contains (order g) k i at)) in
                let same : before.1 ≡ k = (listed g).once before.1 k i (before.3 ∙ ap (λ z. Some z) u.2) at in
                let earlier : before.0 < before.1 = before.4 in
                let m = some_is (reach_at reaches e.from) (cancelled_reached b before.0 e.from (omega arith) before.2 from) in
                let r = reached e.from m.0 m.1 in
                complete m.0.start e.to (r.path.0 ++ e ∷ []) (leads_from_line (fault_edges g ends) (length g.lines) in_lines m.0.start e.from r.path.0 (in_lines e u.1) r.path.1) r.is_start
                (leads_push (fault_edges g ends) m.0.start e.from r.path.0 e r.path.1 u.1 refl))
          ])

      ended_cancelled : (i : ℕ) → eval_end g i ≡ Cancelled → IsTrue (is_ended (eval_end g i))
      ended_cancelled i c = ap is_ended c

      by_edge : (i : ℕ) → i < length g.lines → eval_end g i ≡ Cancelled → (m : Reach) → reach_at reaches i ≡ Some m → m.by ≢ None
      by_edge i below c m is none =
          let o = linked.own i m is none in
          let begins = (reached i m is).is_start in
          let here : begins_fault g (end_at ends i) i ≡ true = subst (λ z. IsTrue (begins_fault g (end_at ends z) z)) o.0 begins in
          true≢false (sym here ∙ ap (λ z. begins_fault g z i) (end_is i below ∙ c))

      some_by : (o : Option Edge) → o ≢ None → (e : Edge) × (o ≡ Some e)
      some_by None not = absurd (not refl)
      some_by (Some e) not = (e, refl)

      pub cancelled_exactly : (i : ℕ) → i < length g.lines → (eval_end g i ≡ Cancelled) ↔ ((m : Reach) × (reach_at reaches i ≡ Some m) × (m.by ≢ None))
      cancelled_exactly i below = (
        λ c. (let at = ((listed g).ended i).1 (ended_cancelled i c) in place at c),
        λ h. (let e = some_by h.0.by h.2 in let k = linked.linked i h.0 e.0 h.1 e.1 in subst (λ z. eval_end g z ≡ Cancelled) k.1 (carried e.0 k.0)),
      )
        where
          place : Contains (order g) i → eval_end g i ≡ Cancelled → (m : Reach) × (reach_at reaches i ≡ Some m) × (m.by ≢ None)
          place at c =
              let m = some_is (reach_at reaches i) (cancelled_reached (at.0 + 1) at.0 i (omega arith) (slice_get_read (order g) (length (order g)) at.0 i refl at.1 (sym at.2)) c) in (m.0, m.1, by_edge i below c m.0 m.1)
