use Rattle.std.proofs.Common.{◌≡◌, ◌<◌, ◌≤◌, ℕ, List, length, refl, ◌∙◌, sym, ap, subst, arith}
use Rattle.std.specs.Prelude.{Contains}
use Rattle.std.specs.Borrow.{Bor}
use Rattle.std.specs.List.Sorted.{IsNonDecreasingBy}
use Rattle.std.proofs.lemmas.Result.{IfOk-weaker}
use Rattle.index_spaces.specs.Space.{has_point, IsSpace}
use Rattle.space_classes.specs.Classes.{values, space_of, label, IsUnion}
use Rattle.space_classes.specs.Points.{class_intervals}
use Rattle.space_classes.proofs.Spanning.{values_count, value_at}
use Rattle.space_classes.proofs.Unions.{some_point, some_spans, spans_run_up, spans_sorted, union_of_spans}
use Rattle.space_classes.proofs.points.union_of.Goals as goal

pub intervals_of-requires-clause-place : goal.intervals_of-requires-clause-place
intervals_of-requires-clause-place c = omega (arith, c.requires.place, c.requires.classes.classes.count, c.deref-2.ensures.len, values_count c.args.spaces.now)

pub intervals_of-requires-clause-owners : goal.intervals_of-requires-clause-owners
intervals_of-requires-clause-owners c = λ x k.
    let known = (c.requires.classes.spans.each x (subst (λ xs. Contains xs x) c.deref.ensures.value k)).owner in
    omega (arith, known, c.requires.classes.classes.count, c.deref-2.ensures.len)

are_intervals : (c : goal.After-deref-3) → c.deref-3.result.now ≡ class_intervals c.args.classes.now.labels.items (label c.args.classes.now.labels.items c.args.k) c.args.classes.now.spans.items
are_intervals c =
    let labels = c.args.classes.now.labels.items in
    c.deref-3.ensures.value ∙ (c.in_ok-intervals.ensures
    ∙ (ap (λ xs. class_intervals xs (label xs c.args.k) c.deref.result.now) c.deref-2.ensures.value
    ∙ ap (class_intervals labels (label labels c.args.k)) c.deref.ensures.value))

pub space_of_sorted-requires-clause-some : goal.space_of_sorted-requires-clause-some
space_of_sorted-requires-clause-some c =
    let spaces = c.args.spaces.now in
    let labels = c.args.classes.now.labels.items in
    let s = c.index-spaces-k.result in
    let is : space_of (values spaces) c.args.k ≡ s.now = value_at spaces c.args.k s c.requires.place ∙ ap (λ (t : Bor (List (ℕ × ℕ))). t.now) (sym c.index-spaces-k.is) in
    let p = some_point (space_of (values spaces) c.args.k) (subst IsSpace (sym is) c.intervals.ensures.is_space) in
    subst (λ (xs : List (ℕ × ℕ)). 0 < length xs) (sym (are_intervals c))
    (some_spans (values spaces) labels c.args.classes.now.spans.items c.requires.classes.spans c.args.k (label labels c.args.k) refl (omega (arith, c.requires.place, values_count spaces)) p.0 p.1)

pub space_of_sorted-requires-clause-run_up : goal.space_of_sorted-requires-clause-run_up
space_of_sorted-requires-clause-run_up c = λ i k.
    let labels = c.args.classes.now.labels.items in
    spans_run_up (values c.args.spaces.now) labels c.args.classes.now.spans.items c.requires.classes.spans c.args.k (label labels c.args.k) refl i (subst (λ xs. Contains xs i) (are_intervals c) k)

pub space_of_sorted-requires-clause-sorted : goal.space_of_sorted-requires-clause-sorted
space_of_sorted-requires-clause-sorted c =
    let labels = c.args.classes.now.labels.items in
    subst (IsNonDecreasingBy (λ (i : ℕ × ℕ). i.0)) (sym (are_intervals c)) (spans_sorted labels (label labels c.args.k) c.args.classes.now.spans.items c.requires.classes.sorted)

pub returns : goal.returns
returns c =
    let labels = c.args.classes.now.labels.items in
    IfOk-weaker c.space_of_sorted.result (λ u. (p : ℕ) → has_point u p ≡ has_point c.deref-3.result.now p) (IsUnion (values c.args.spaces.now) labels c.args.k)
    (λ u sums. union_of_spans (values c.args.spaces.now) labels c.args.classes.now.spans.items c.requires.classes.spans c.args.k (label labels c.args.k) refl u
    (λ p. sums p ∙ ap (λ xs. has_point xs p) (c.deref-3.ensures.value ∙ (c.in_ok-intervals.ensures
    ∙ (ap (λ xs. class_intervals xs (label xs c.args.k) c.deref.result.now) c.deref-2.ensures.value
    ∙ ap (class_intervals labels (label labels c.args.k)) c.deref.ensures.value))))) c.space_of_sorted.ensures
