-- The points of classes.
use Rattle.std.proofs.Common.{◌≡◌, ℕ, ◌<◌, ◌≤◌, true, ◌||◌, List, [], ◌∷◌, length, get_or, map, refl, sym, ◌∙◌, ap, subst, arith}
use Rattle.std.specs.Prelude.{◌==◌, Contains, filter}
use Rattle.std.specs.List.{list_any}
use Rattle.std.specs.List.Sorted.{IsNonDecreasingBy}
use Rattle.std.proofs.lemmas.Bool.{eqb-true, eq-eqb}
use Rattle.std.proofs.lemmas.List.{get_or-map, length-map}
use Rattle.std.proofs.lemmas.List.Kept.{IsNonDecreasingBy-filter}
use Rattle.basics.proofs.ListFacts.{contains_map, map_contains, contains_filter, filter_contains, some_passes, passes_some}
use Rattle.index_spaces.specs.Space.{interval_has, has_point, IsSpace}
use Rattle.space_classes.specs.declared.classes.Span.{Span}
use Rattle.space_classes.specs.declared.classes.SpaceClasses.{SpaceClasses}
use Rattle.space_classes.specs.Classes.{Spaces, space_of, label, IsAlone, IsUnion, CoversClass}
use Rattle.space_classes.specs.Spans.{first_of, IsIn, AreSpans, HasClasses}
use Rattle.space_classes.specs.Points.{interval_of, is_of, class_intervals}
use Rattle.space_classes.proofs.Spanning.{in_interval, interval_in}

module _ (spaces : Spaces) (labels : List ℕ) (spans : List Span) (are : AreSpans spaces spans) (k own : ℕ) (is : own ≡ label labels k) where
  -- a point of a space of the class lies in one of its intervals
  pub in_some : (j p : ℕ) → j < length spaces → label labels j ≡ label labels k → has_point (space_of spaces j) p ≡ true → (i : ℕ × ℕ) × Contains (class_intervals labels own spans) i × (interval_has i p ≡ true)
  in_some j p known class h =
      let x = are.all j p known h in (
        interval_of x.0,
        contains_map interval_of (filter (is_of labels own) spans) x.0 (contains_filter (is_of labels own) spans x.0 x.1 (eq-eqb (label labels x.0.owner) own (ap (label labels) x.2 ∙ (class ∙ sym is)))),
        interval_in (interval_of x.0) p x.3.0 x.3.1,
      )

  -- an interval of the class
  pub from_some : (i : ℕ × ℕ) → Contains (class_intervals labels own spans) i → (x : Span) × Contains spans x × (label labels x.owner ≡ label labels k) × (interval_of x ≡ i)
  from_some i c =
      let x = map_contains interval_of (filter (is_of labels own) spans) i c in
      let f = filter_contains (is_of labels own) spans x.0 x.1 in
      (x.0, f.0, eqb-true (label labels x.0.owner) own f.1 ∙ is, x.2)

  pub some_spans : k < length spaces → (p : ℕ) → has_point (space_of spaces k) p ≡ true → 0 < length (class_intervals labels own spans)
  some_spans known p h = let i = in_some k p known refl h in let low = i.1.1 in omega (arith, low)

  pub spans_run_up : (i : ℕ × ℕ) → Contains (class_intervals labels own spans) i → i.0 ≤ i.1
  spans_run_up i c = let x = from_some i c in subst (λ (j : ℕ × ℕ). j.0 ≤ j.1) x.3 (are.each x.0 x.1).runs_up

  pub union_of_spans : (u : List (ℕ × ℕ)) → ((p : ℕ) → has_point u p ≡ has_point (class_intervals labels own spans) p) → IsUnion spaces labels k u
  union_of_spans u sums = record {
    has = λ j known class p h. (let i = in_some j p known class h in sums p ∙ passes_some (λ i. interval_has i p) (class_intervals labels own spans) i.0 i.1 i.2);
    only = λ p h.
        let i = some_passes (λ i. interval_has i p) (class_intervals labels own spans) (sym (sums p) ∙ h) in
        let x = from_some i.0 i.1 in
        let span = are.each x.0 x.1 in
        (x.0.owner, span.owner, x.2, span.points p (in_interval (interval_of x.0) p (subst (λ j. interval_has j p ≡ true) (sym x.3) i.2)));
  }

pub spans_sorted : (labels : List ℕ) (own : ℕ) (spans : List Span) → IsNonDecreasingBy first_of spans → IsNonDecreasingBy (λ (i : ℕ × ℕ). i.0) (class_intervals labels own spans)
spans_sorted labels own spans sorted i j d up below =
    let kept = filter (is_of labels own) spans in
    let no_span : Span = record { first = 0; last = 0; owner = 0 } in
    let long : length (map interval_of kept) ≡ length kept = length-map kept interval_of in
    let j_low : j < length kept = omega (arith, long, below) in
    let i_low : i < length kept = omega (arith, up, j_low) in
    let step = IsNonDecreasingBy-filter first_of (is_of labels own) spans sorted i j no_span up j_low in
    subst (λ (x : ℕ × ℕ). x.0 ≤ (get_or (map interval_of kept) j d).0) (sym (get_or-map interval_of kept i no_span d i_low))
    (subst (λ (x : ℕ × ℕ). (interval_of (get_or kept i no_span)).0 ≤ x.0) (sym (get_or-map interval_of kept j no_span d j_low)) step)

-- a space that is alone has the points of its class
pub alone_is : (spaces : Spaces) (labels : List ℕ) (k : ℕ) → length labels ≡ length spaces → k < length spaces → IsAlone labels k → IsUnion spaces labels k (space_of spaces k)
alone_is spaces labels k count known alone = record {
  has = λ j hj class p h. subst (λ n. has_point (space_of spaces n) p ≡ true) (alone j (omega (arith, hj, count)) class) h;
  only = λ p h. (k, known, refl, h);
}

pub alone_covers : (spaces : Spaces) (labels : List ℕ) (k : ℕ) → k < length spaces → CoversClass spaces labels k (space_of spaces k) k
alone_covers spaces labels k known = record { known = known; class = refl; has = λ p h. h }

-- so has one that covers it
pub covering_is : (spaces : Spaces) (labels : List ℕ) (k j : ℕ) (u : List (ℕ × ℕ)) → IsUnion spaces labels k u → CoversClass spaces labels k u j → IsUnion spaces labels k (space_of spaces j)
covering_is spaces labels k j u union covers = record {
  has = λ i known class p h. covers.has p (union.has i known class p h);
  only = λ p h. (j, covers.known, covers.class, h);
}

pub covers_itself : (spaces : Spaces) (labels : List ℕ) (k j : ℕ) (u : List (ℕ × ℕ)) → CoversClass spaces labels k u j → CoversClass spaces labels k (space_of spaces j) j
covers_itself spaces labels k j u covers = record { known = covers.known; class = covers.class; has = λ p h. h }

-- a space has a point
pub some_point : (s : List (ℕ × ℕ)) → IsSpace s → (p : ℕ) × (has_point s p ≡ true)
some_point [] is = (let h : 0 < 0 = is.0 in absurd (omega arith))
some_point (i ∷ rest) is = (i.0, ap (λ b. b || list_any (λ j. interval_has j i.0) rest) (interval_in i i.0 (omega arith) is.1.1))
