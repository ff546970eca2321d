-- How lines end, and which lines end with them.
use Rattle.std.proofs.Common.{◌≡◌, ℕ, ◌<◌, true, false, List, length, refl, sym, ◌∙◌, ap, subst, arith}
use Rattle.std.specs.Prelude.{◌≢◌, ◌↔◌, Bool, Contains, IsTrue, ◌==◌, Some, slice_get}
use Rattle.std.proofs.lemmas.Bool.{true≢false, eq-eqb, eqb-true, true_from_ne_false}
use Rattle.std.proofs.lemmas.Option.{same_Some, slice_get_within, slice_get-get_or}
use Rattle.std.proofs.lemmas.List.FromFn.{get_or-map-range_with_len, length-map-range_with_len}
use Rattle.basics.proofs.ListFacts.{got_contains, contains_map, map_contains, contains_filter, filter_contains}
use Rattle.graph_terms.specs.declared.verb.Edge.{Edge}
use Rattle.graph_terms.specs.declared.outcome.End.{End}
use Rattle.graph_terms.specs.declared.outcome.End.TheVariants.{Done, Faulted, Cancelled, Waiting}
use Rattle.graph_terms.specs.Graph.{GraphValue}
use Rattle.graph_terms.specs.Edges.{edges, edges_into, sources}
use Rattle.graph_meaning.specs.Evaluation.{eval_end, is_ended, has_ended, evaluation, order}
use Rattle.graph_meaning.specs.Laws.{OrderListsEnded}
use Rattle.graph_meaning.proofs.Public.{end_in_left, ends_in_order}
use Rattle.realm_audit.specs.Lawful.{ends_of, IsWaitAt}

-- a line that ended, by the test and by its end
pub ended_from : (x : End) → x ≢ Waiting → IsTrue (is_ended x)
ended_from Done h = refl
ended_from Faulted h = refl
ended_from Cancelled h = refl
ended_from Waiting h = absurd (h refl)

pub ended_not_waiting : (x : End) → IsTrue (is_ended x) → x ≢ Waiting
ended_not_waiting x h w = true≢false (sym h ∙ ap is_ended w)

-- the end in a list of the ends
pub ends_size : (g : GraphValue) (ends : List End) → ends ≡ ends_of g → length ends ≡ length g.lines
ends_size g ends is = ap length is ∙ length-map-range_with_len (eval_end g) 0 (length g.lines)

pub end_got : (g : GraphValue) (ends : List End) → ends ≡ ends_of g → (i : ℕ) → i < length g.lines → slice_get ends i ≡ Some (eval_end g i)
end_got g ends is i below =
    let n : ℕ = length g.lines in
    ap (λ es. slice_get es i) is ∙ (slice_get-get_or (ends_of g) i Waiting (subst (λ k. i < k) (sym (length-map-range_with_len (eval_end g) 0 n)) below)
    ∙ ap (λ x. Some x) (get_or-map-range_with_len (eval_end g) 0 n i i Waiting below (omega arith)))

pub end_at : (g : GraphValue) (ends : List End) → ends ≡ ends_of g → (i : ℕ) (x : End) → slice_get ends i ≡ Some x → eval_end g i ≡ x
end_at g ends is i x at =
    let below : i < length g.lines = subst (λ n. i < n) (ends_size g ends is) (slice_get_within ends i x at) in
    same_Some (eval_end g i) x (sym (end_got g ends is i below) ∙ at)

-- what ends is a line of the graph
pub ended_below : (g : GraphValue) (i : ℕ) → eval_end g i ≢ Waiting → i < length g.lines
ended_below g i h = ((ends_in_order g).each i (ended_in g i h)).0
  where
    ended_in : (g : GraphValue) (i : ℕ) → eval_end g i ≢ Waiting → has_ended (evaluation g) i ≡ true
    ended_in g i h = true_from_ne_false (has_ended (evaluation g) i) (λ f. h (end_in_left (evaluation g) i f))

-- the sources of a line, by the edges
pub into_line : (g : GraphValue) (e : Edge) (i : ℕ) → Contains (edges g) e → e.to ≡ i → Contains (edges_into g i) e
into_line g e i c to = contains_filter (λ (x : Edge). x.to == i) (edges g) e c (eq-eqb e.to i to)

pub source_listed : (g : GraphValue) (e : Edge) → Contains (edges g) e → Contains (sources g e.to) e.from
source_listed g e c = contains_map (λ (x : Edge). x.from) (edges_into g e.to) e (into_line g e e.to c refl)

pub source_edge : (g : GraphValue) (i j : ℕ) → Contains (sources g i) j → (e : Edge) × Contains (edges g) e × (e.from ≡ j) × (e.to ≡ i)
source_edge g i j c =
    let m = map_contains (λ (x : Edge). x.from) (edges_into g i) j c in
    let f = filter_contains (λ (x : Edge). x.to == i) (edges g) m.0 m.1 in
    (m.0, f.0, m.2, eqb-true m.0.to i f.1)

-- the sources of a line that ended have ended
pub source_ended : OrderListsEnded → (g : GraphValue) (e : Edge) → Contains (edges g) e → eval_end g e.to ≢ Waiting → eval_end g e.from ≢ Waiting
source_ended law g e c h =
    let before = (law g).sources e c (((law g).ended e.to).1 (ended_from (eval_end g e.to) h)) in
    ended_not_waiting (eval_end g e.from) (((law g).ended e.from).0 (got_contains (order g) before.0 e.from before.2))

-- whether a line ends, by the list of the ends
pub end_iff : (g : GraphValue) (ends : List End) → ends ≡ ends_of g → (i : ℕ) → i < length g.lines → (slice_get ends i ≢ Some Waiting) ↔ (eval_end g i ≢ Waiting)
end_iff g ends is i below =
    let at : slice_get ends i ≡ Some (eval_end g i) = end_got g ends is i below in
    ((λ h w. h (at ∙ ap Some w)), (λ h w. h (same_Some (eval_end g i) Waiting (sym at ∙ w))))

-- a line at a place whose end was read, and is not Waiting
pub not_wait_at : (g : GraphValue) (ends : List End) → ends ≡ ends_of g → (trace : List ℕ) (k i : ℕ) → slice_get trace k ≡ Some i → i < length g.lines → (b : Bool) → IsTrue b ↔ (slice_get ends i ≡ Some Waiting) → b ≡ false → IsWaitAt g trace k → ⊥
not_wait_at g ends is trace k i at below b test fails w =
    let waits : eval_end g i ≡ Waiting = subst (λ z. eval_end g z ≡ Waiting) (same_Some w.0 i (sym w.1 ∙ at)) w.2 in
    true≢false (sym (test.1 (end_got g ends is i below ∙ ap Some waits)) ∙ fails)
