use Rattle.std.proofs.Common.{◌≡◌, ◌<◌, ◌∷◌, [], length, ap, sym, subst, ◌∙◌}
use Rattle.std.specs.Prelude.{Contains, Vec, IfSome, slice_index}
use Rattle.std.specs.Global.{Global}
use Rattle.graph_terms.specs.declared.verb.Edge.{Edge}
use Rattle.graph_terms.specs.Edges.{edges}
use Rattle.explanations.specs.declared.search.Way.TheVariants.{Back}
use Rattle.explanations.specs.Paths.{IsShortest}
use Rattle.explanations.specs.Search.{near_end, far_end, AreCounts}
use Rattle.explanations.specs.Meetings.{IsLeastBelow}
use Rattle.explanations.proofs.Marking.{counted_below}
use Rattle.explanations.proofs.MeetingFacts.{none_common, first_there, second_there, nearest}
use Rattle.explanations.proofs.meetings.nearest_common.Goals as goal

pub returns-in_default-clause-none : goal.returns-in_default-clause-none
returns-in_default-clause-none c = λ is.
    (let g = c.args.graph.now in
    let a : AreCounts (edges g) (near_end Back) (far_end Back) (Contains (c.args.first ∷ [])) (slice_index c.as_slice.result.now) =
    subst (λ xs. AreCounts (edges g) (near_end Back) (far_end Back) (Contains (c.args.first ∷ [])) (slice_index xs)) (sym c.as_slice.ensures.value) c.in_ok-ones.ensures.counts in
    let b : AreCounts (edges g) (near_end Back) (far_end Back) (Contains (c.args.second ∷ [])) (slice_index c.as_slice-2.result.now) =
    subst (λ xs. AreCounts (edges g) (near_end Back) (far_end Back) (Contains (c.args.second ∷ [])) (slice_index xs)) (sym c.as_slice-2.ensures.value) c.in_ok-others.ensures.counts in
    let l = subst (λ o. IsLeastBelow (slice_index c.as_slice.result.now) (slice_index c.as_slice-2.result.now) c.lines.result o) c.in_default.is c.least_below.ensures in
    let len : length c.as_slice.result.now ≡ c.lines.result = ap length c.as_slice.ensures.value ∙ (c.in_ok-ones.ensures.size ∙ sym c.lines.ensures.number) in
    none_common g c.args.first c.args.second (slice_index c.as_slice.result.now) (slice_index c.as_slice-2.result.now) a b c.requires.different c.requires.forward c.requires.backward c.lines.result (λ k h. subst (λ n. k < n) len (counted_below c.as_slice.result.now k h)) l)

pub unreachable-requires : goal.unreachable-requires
unreachable-requires c =
    let g = c.args.graph.now in
    let a : AreCounts (edges g) (near_end Back) (far_end Back) (Contains (c.args.first ∷ [])) (slice_index c.as_slice.result.now) =
    subst (λ xs. AreCounts (edges g) (near_end Back) (far_end Back) (Contains (c.args.first ∷ [])) (slice_index xs)) (sym c.as_slice.ensures.value) c.in_ok-ones.ensures.counts in
    let b : AreCounts (edges g) (near_end Back) (far_end Back) (Contains (c.args.second ∷ [])) (slice_index c.as_slice-2.result.now) =
    subst (λ xs. AreCounts (edges g) (near_end Back) (far_end Back) (Contains (c.args.second ∷ [])) (slice_index xs)) (sym c.as_slice-2.ensures.value) c.in_ok-others.ensures.counts in
    let l = subst (λ o. IsLeastBelow (slice_index c.as_slice.result.now) (slice_index c.as_slice-2.result.now) c.lines.result o) c.in-Some.is c.least_below.ensures in
    c.in_ok-to_second-in-Some-2.ensures.none c.in-None-2.is (second_there g c.args.first c.args.second (slice_index c.as_slice.result.now) (slice_index c.as_slice-2.result.now) a b c.requires.different c.requires.forward c.requires.backward c.in-Some.line l.1 l.2)

pub unreachable-requires-in-None : goal.unreachable-requires-in-None
unreachable-requires-in-None c =
    let g = c.args.graph.now in
    let a : AreCounts (edges g) (near_end Back) (far_end Back) (Contains (c.args.first ∷ [])) (slice_index c.as_slice.result.now) =
    subst (λ xs. AreCounts (edges g) (near_end Back) (far_end Back) (Contains (c.args.first ∷ [])) (slice_index xs)) (sym c.as_slice.ensures.value) c.in_ok-ones.ensures.counts in
    let b : AreCounts (edges g) (near_end Back) (far_end Back) (Contains (c.args.second ∷ [])) (slice_index c.as_slice-2.result.now) =
    subst (λ xs. AreCounts (edges g) (near_end Back) (far_end Back) (Contains (c.args.second ∷ [])) (slice_index xs)) (sym c.as_slice-2.ensures.value) c.in_ok-others.ensures.counts in
    let l = subst (λ o. IsLeastBelow (slice_index c.as_slice.result.now) (slice_index c.as_slice-2.result.now) c.lines.result o) c.in-Some.is c.least_below.ensures in
    c.in_ok-to_first.ensures.none c.in-None.is (first_there g c.args.first c.args.second (slice_index c.as_slice.result.now) (slice_index c.as_slice-2.result.now) a b c.requires.different c.requires.forward c.requires.backward c.in-Some.line l.1 l.2)

pub returns-clause-nearest : goal.returns-clause-nearest
returns-clause-nearest c =
    let g = c.args.graph.now in
    let a : AreCounts (edges g) (near_end Back) (far_end Back) (Contains (c.args.first ∷ [])) (slice_index c.as_slice.result.now) =
    subst (λ xs. AreCounts (edges g) (near_end Back) (far_end Back) (Contains (c.args.first ∷ [])) (slice_index xs)) (sym c.as_slice.ensures.value) c.in_ok-ones.ensures.counts in
    let b : AreCounts (edges g) (near_end Back) (far_end Back) (Contains (c.args.second ∷ [])) (slice_index c.as_slice-2.result.now) =
    subst (λ xs. AreCounts (edges g) (near_end Back) (far_end Back) (Contains (c.args.second ∷ [])) (slice_index xs)) (sym c.as_slice-2.ensures.value) c.in_ok-others.ensures.counts in
    let l = subst (λ o. IsLeastBelow (slice_index c.as_slice.result.now) (slice_index c.as_slice-2.result.now) c.lines.result o) c.in-Some.is c.least_below.ensures in
    let len : length c.as_slice.result.now ≡ c.lines.result = ap length c.as_slice.ensures.value ∙ (c.in_ok-ones.ensures.size ∙ sym c.lines.ensures.number) in
    let one = subst (λ o. IfSome o (λ (p : Vec Edge Global). IsShortest g c.in-Some.line c.args.first p.items)) c.in-Some-2.is c.in_ok-to_first.ensures.shortest in
    let other = subst (λ o. IfSome o (λ (p : Vec Edge Global). IsShortest g c.in-Some.line c.args.second p.items)) c.in-Some-3.is c.in_ok-to_second-in-Some-2.ensures.shortest in
    record {
      to_first = one;
      to_second = other;
      nearest = nearest g c.args.first c.args.second (slice_index c.as_slice.result.now) (slice_index c.as_slice-2.result.now) a b c.requires.different c.requires.forward c.requires.backward c.lines.result (λ k h. subst (λ n. k < n) len (counted_below c.as_slice.result.now k h)) c.in-Some.line l c.in-Some-2.to_first.items c.in-Some-3.to_second.items one other;
    }
