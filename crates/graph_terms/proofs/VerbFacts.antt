-- What a line is that passes a test of verbs, and where the edges lead that it gives.
use Rattle.std.proofs.Common.{◌≡◌, ℕ, Bool, true, false, ◌&&◌, List, [], ◌∷◌, length, refl, sym, ◌∙◌, ap, ◌⊎◌, inl, inr, ◌<◌, arith, ◌^◌}
use Rattle.std.specs.Prelude.{Option, Some, None, nat_lt, option_map, slice_get, Contains}
use Rattle.std.specs.Option.{option_map_or}
use Rattle.std.proofs.lemmas.Bool.{true≢false, eq-eqb, eqb-true, not-true, lt-ltb}
use Rattle.graph_terms.specs.declared.verb.Line.{Line}
use Rattle.graph_terms.specs.declared.verb.Verb.{Verb}
use Rattle.graph_terms.specs.declared.verb.Verb.TheVariants.{User, Trigger, Cancel, Merge, MergeIgnore, Phase, Arrive, Acquire, Release}
use Rattle.graph_terms.specs.Graph.{verb_at, line_passes, is_acquire_of, is_shared, is_release_of, is_user, is_phase_of, ends_user}
use Rattle.std.proofs.lemmas.Option.{none-some, same_Some, slice_get_within}
use Rattle.graph_terms.specs.declared.verb.Edge.{Edge}
use Rattle.graph_terms.specs.declared.verb.EdgeKind.{EdgeKind}
use Rattle.graph_terms.specs.declared.verb.EdgeKind.TheVariants.{Passes, Ignores, Faults}
use Rattle.graph_terms.specs.Edges.{edge, last_place, edges_from_some, on_edges, verb_edges}
use Rattle.graph_terms.specs.Fits.{AreValues}
use Rattle.basics.proofs.ListFacts.{contains_none, contains_cases, map_contains}
use Rattle.graph_terms.specs.Laws.{AcquireByTest, ReleaseByTest, VerbOfAcquire, VerbOfRelease, AcquiresByVerb, ReleasesByVerb, PassingLineHasVerb, LinePassesAsVerb, VerbHasLine, VerbsAreBelowEnd, PassingLinesAreBelowEnd, ReleasesOneAcquire, AcquiresOneReservation, BothSharedEitherWay, PhaseByTest, AcquiresOrNot, NeverComesAs}

pub acquire_of_is : AcquireByTest
acquire_of_is l (Acquire k s) h = ap (λ n. Acquire n s) (eqb-true k l h)
acquire_of_is l v h = absurd (true≢false (sym h))

pub release_of_is : ReleaseByTest
release_of_is q (Release k) h = ap Release (eqb-true k q h)
release_of_is q v h = absurd (true≢false (sym h))

verb_is : (t : Verb → Bool) (w : Verb) → ((v : Verb) → t v ≡ true → v ≡ w) → (o : Option Verb) → option_map_or t o false ≡ true → o ≡ Some w
verb_is t w f None h = absurd (true≢false (sym h))
verb_is t w f (Some v) h = ap Some (f v h)

-- the verb of an acquire, and of a release
acquire_some_is : (l : ℕ) (o : Option Verb) → option_map_or (is_acquire_of l) o false ≡ true → o ≡ Some (Acquire l (option_map_or is_shared o false))
acquire_some_is l None h = absurd (true≢false (sym h))
acquire_some_is l (Some v) h = ap Some (acquire_of_is l v h)

pub acquire_is : VerbOfAcquire
acquire_is g q l h = acquire_some_is l (verb_at g q) h

pub release_is : VerbOfRelease
release_is g r q h = verb_is (is_release_of q) (Release q) (release_of_is q) (verb_at g r) h

pub is_acquire_from : AcquiresByVerb
is_acquire_from g q l s e = ap (λ o. option_map_or (is_acquire_of l) o false) e ∙ eq-eqb l l refl

pub is_release_from : ReleasesByVerb
is_release_from g r q e = ap (λ o. option_map_or (is_release_of q) o false) e ∙ eq-eqb q q refl

-- what a line does that passes a test
passes_some_of : (t : Verb → Bool) (o : Option Verb) → option_map_or t o false ≡ true → (v : Verb) × (o ≡ Some v) × (t v ≡ true)
passes_some_of t None h = absurd (true≢false (sym h))
passes_some_of t (Some v) h = (v, refl, h)

pub passes_verb : PassingLineHasVerb
passes_verb t g i h = passes_some_of t (verb_at g i) h

pub verb_passes : LinePassesAsVerb
verb_passes t g i v e = ap (λ (o : Option Verb). option_map_or t o false) e

verb_line_of : (o : Option Line) (v : Verb) → option_map (λ (l : Line). l.verb) o ≡ Some v → (l : Line) × (o ≡ Some l) × (l.verb ≡ v)
verb_line_of None v h = absurd (none-some v h)
verb_line_of (Some l) v h = (l, refl, same_Some l.verb v h)

pub verb_line : VerbHasLine
verb_line g i v h = verb_line_of (slice_get g.lines i) v h

pub verb_below : VerbsAreBelowEnd
verb_below g i v h = let l = verb_line g i v h in slice_get_within g.lines i l.0 l.1

-- a line that passes is a line of the graph
pub passes_below : PassingLinesAreBelowEnd
passes_below t g i h = let v = passes_verb t g i h in verb_below g i v.0 v.1

-- a line releases one acquire, and acquires one reservation
release_same : (a b : ℕ) → Release a ≡ Release b → a ≡ b
release_same a b e = cc

pub release_one : ReleasesOneAcquire
release_one g r a b h l = release_same a b (same_Some (Release a) (Release b) (sym (release_is g r a h) ∙ release_is g r b l))

acquire_same : (a b : ℕ) (s t : Bool) → Acquire a s ≡ Acquire b t → a ≡ b
acquire_same a b s t e = cc

pub acquire_one : AcquiresOneReservation
acquire_one g q a b h l = let s = line_passes is_shared g q in acquire_same a b s s (same_Some (Acquire a s) (Acquire b s) (sym (acquire_is g q a h) ∙ acquire_is g q b l))

-- whether two acquires are both shared is asked of the two alike
pub both_shared_swap : BothSharedEitherWay
both_shared_swap g q k = and_swap (line_passes is_shared g q) (line_passes is_shared g k)
  where
    and_swap : (a b : Bool) → (a && b) ≡ (b && a)
    and_swap true true = refl
    and_swap true false = refl
    and_swap false true = refl
    and_swap false false = refl

-- a user event, a phase, an arrival
pub user_is : (v : Verb) → is_user v ≡ true → v ≡ User
user_is User h = refl
user_is v h = absurd (true≢false (sym h))

pub phase_is : PhaseByTest
phase_is (Phase k) h = (k, refl)
phase_is v h = absurd (true≢false (sym h))

-- whether a line acquires a reservation
pub acquire_some : AcquiresOrNot
acquire_some (Acquire k s) = inl (k, s, refl)
acquire_some v = inr (λ l h. true≢false (sym h))

-- a line that never comes is a phase, or a user event that no line ends
pub never_as : NeverComesAs
never_as g i User h = inr (refl, not-true _ h)
never_as g i (Phase k) h = inl refl
never_as g i v h = absurd (true≢false (sym h))

one_is : (x e : Edge) → Contains (x ∷ []) e → x ≡ e
one_is x e c = elim (contains_cases x [] e c) [ inl s ↦ s | inr r ↦ absurd (contains_none e r) ]

pub from_some_to : (kind : EdgeKind) (o : Option ℕ) (n : ℕ) (e : Edge) → Contains (edges_from_some kind o n) e → e.to ≡ n
from_some_to kind None n e c = absurd (contains_none e c)
from_some_to kind (Some k) n e c = sym (ap (λ (x : Edge). x.to) (one_is (edge k n kind) e c))

-- an edge from an event behind `on` enters the line, and there is such an event
pub on_edge_to : (on : List ℕ) (n : ℕ) (e : Edge) → Contains (on_edges on n) e → e.to ≡ n
on_edge_to on n e c = let m = map_contains (λ k. edge k n Passes) on e c in sym (ap (λ (x : Edge). x.to) m.2)

pub on_edge_has : (on : List ℕ) (n : ℕ) (e : Edge) → Contains (on_edges on n) e → nat_lt 0 (length on) ≡ true
on_edge_has [] n e c = absurd (contains_none e c)
on_edge_has (k ∷ on) n e c = lt-ltb 0 (length (k ∷ on)) (let h : 0 < length (k ∷ on) = omega arith in h)

-- where the edges lead that a line gives: to itself, which is no user event, to the user event that it ends, or to the phase at which it arrives
pub verb_edge_to : (before : List Line) (v : Verb) (e : Edge) → Contains (verb_edges before (length before) v) e → ((e.to ≡ length before) × (is_user v ≡ false)) ⊎ ((ends_user e.to v ≡ true) ⊎ ((p n w : ℕ) × (v ≡ Arrive p n w) × (e.to ≡ p)))
verb_edge_to before (Trigger k) e c = inr (inl (let s = one_is (edge (length before) k Passes) e c in eq-eqb k e.to (ap (λ (x : Edge). x.to) s)))
verb_edge_to before (Cancel k) e c = inr (inl (let s = one_is (edge (length before) k Faults) e c in eq-eqb k e.to (ap (λ (x : Edge). x.to) s)))
verb_edge_to before (Merge ks) e c = inl (let m = map_contains (λ e. edge e (length before) Passes) ks e c in (sym (ap (λ (x : Edge). x.to) m.2), refl))
verb_edge_to before (MergeIgnore ks) e c = inl (let m = map_contains (λ e. edge e (length before) Ignores) ks e c in (sym (ap (λ (x : Edge). x.to) m.2), refl))
verb_edge_to before (Phase k) e c = inl (from_some_to Ignores (last_place (is_phase_of k) 0 before None) (length before) e c, refl)
verb_edge_to before (Arrive k n w) e c = inr (inr (k, n, w, refl, (let s = one_is (edge (length before) k Passes) e c in sym (ap (λ (x : Edge). x.to) s))))
verb_edge_to before v e c = absurd (contains_none e c)

-- one more value before others
pub one_more_value : (n : ℕ) (ns : List ℕ) → n < 2 ^ 64 → AreValues ns → AreValues (n ∷ ns)
one_more_value n [] h are = h
one_more_value n (m ∷ ms) h are = (h, are)
