-- The parts of a column are its connected components.
use Rattle.std.proofs.Common.{◌≡◌, ℕ, zero, suc, ◌+◌, ◌<◌, ◌≤◌, Bool, true, false, ◌⊎◌, inl, inr, List, [], ◌∷◌, ◌++◌, length, map, get_or, refl, sym, ◌∙◌, ap, subst, arith}
use Rattle.std.specs.Prelude.{Option, Some, None, Contains, slice_get, option_map, Vec}
use Rattle.std.specs.Global.{Global}
use Rattle.std.proofs.lemmas.Bool.{both_ways}
use Rattle.std.proofs.lemmas.Option.{none-some, same_Some, slice_get-get_or, get_or_from_slice_get, slice_get-map}
use Rattle.std.proofs.lemmas.List.{length-map, get_or-map, length-append}
use Rattle.std.proofs.lemmas.List.Elements.{Contains-get_or}
use Rattle.basics.proofs.ListFacts.{contains_here, contains_one, contains_none, got_contains, contains_map, map_contains}
use Rattle.basics.proofs.ListParts.{got_cases}
use Rattle.basics.proofs.TestedLists.{within}
use Rattle.index_spaces.specs.Space.{has_point, IsSpace, IsWithin, Meet}
use Rattle.space_classes.specs.Classes.{Spaces, space_of, label, AreLinked, same, meet, more, AreClasses, AreFirsts, IsUnion, CoversClass}
use Rattle.graph_terms.specs.Fits.{IsGraph}
use Rattle.graph_terms.specs.Graph.{GraphValue, named_spaces, columns, column_space, space_at}
use Rattle.graph_meaning.specs.LineLaws.{AccessFits}
use Rattle.graph_meaning.proofs.Public.{accesses_fit}
use Rattle.column_pieces.specs.Pieces as pieces
use Rattle.column_pieces.specs.Pieces.{Unions, IsAccessed, HasManyApart, HasWide, Linked, IsConnected, IsWhole}
use Rattle.column_pieces.specs.declared.pieces.TheConstants.{MAX_COLUMN_PIECES}
use Rattle.column_pieces.proofs.Public.{accesses_are_connected, connected_lie_within}
use Rattle.column_parts.specs.declared.parts.Part.{Part}
use Rattle.column_parts.specs.declared.parts.Part.TheVariants.{Declared, Union}
use Rattle.column_parts.specs.Parts.{part_space, spaces, spaces_of, AreApart, IsFound, LiesInSome, IsCovered, AreFound, AreNeeded}
use Rattle.column_parts.specs.Accessed.{AreAccessed}
use Rattle.column_parts.specs.Column.{spaces_at, IsClassPart, AreClassParts, HasWideClass, AreParts}
use Rattle.column_parts.proofs.Spaces.{some_point}

abbrev Points : Type 0
Points = List (ℕ × ℕ)

-- APART
meet_back : (t u : Points) → Meet t u → Meet u t
meet_back t u m = (m.0, m.2, m.1)

pub one_place : (ts : Unions) (j k : ℕ) (t u : Points) → AreApart ts → slice_get ts j ≡ Some t → slice_get ts k ≡ Some u → Meet t u → j ≡ k
one_place [] j k t u o p q m = absurd (none-some t p)
one_place (x ∷ xs) zero zero t u o p q m = refl
one_place (x ∷ xs) zero (suc k) t u o p q m = absurd (o.0 u (got_contains xs k u q) (subst (λ z. Meet z u) (sym (same_Some x t p)) m))
one_place (x ∷ xs) (suc j) zero t u o p q m = absurd (o.0 t (got_contains xs j t p) (subst (λ z. Meet z t) (sym (same_Some x u q)) (meet_back t u m)))
one_place (x ∷ xs) (suc j) (suc k) t u o p q m = ap suc (one_place xs j k t u o.1 p q m)

apart_by_places : (ts : Unions) → ((i j : ℕ) (t u : Points) → slice_get ts i ≡ Some t → slice_get ts j ≡ Some u → Meet t u → i ≡ j) → AreApart ts
apart_by_places [] f = tt
apart_by_places (t ∷ ts) f = (
  (λ u k m. (let e : 0 ≡ suc k.0 = f 0 (suc k.0) t u refl (slice_get-get_or ts k.0 u k.1 ∙ ap (λ x. Some x) k.2) m in absurd (omega (arith, e)))),
  apart_by_places ts (λ i j x u p q m. (let e : suc i ≡ suc j = f (suc i) (suc j) x u p q m in omega (arith, e))),
)

-- AN ACCESS
module _ (g : GraphValue) (fits : IsGraph g) (c s : ℕ) (a : IsAccessed g c s) where
  abbrev own : Points
  own = space_at g s

  access_fits : AccessFits g a.1
  access_fits = accesses_fit g a.0 a.1 fits a.2

  pub own_declared : s < length (named_spaces g)
  own_declared = subst (λ k. k < length (named_spaces g)) a.4 access_fits.space

  pub own_is_space : IsSpace own
  own_is_space = subst (λ k. IsSpace (space_at g k)) a.4 access_fits.is_space

  pub own_point : (p : ℕ) × (has_point own p ≡ true)
  own_point = some_point own own_is_space

  pub own_within : IsWithin own (column_space g c)
  own_within = subst (λ k. IsWithin (space_at g k) (column_space g c)) a.4 (subst (λ d. IsWithin (space_at g a.1.space) (column_space g d)) a.3 access_fits.within)

-- THE WHOLE COLUMN
-- a column that stays whole is accessed
whole_accessed : (g : GraphValue) (c : ℕ) → HasManyApart g c ⊎ HasWide g c → (s : ℕ) × IsAccessed g c s
whole_accessed g c (inl apart) =
    let many : 64 < length apart.spaces = apart.many in
    (get_or apart.spaces 0 0, apart.accessed (get_or apart.spaces 0 0) (Contains-get_or apart.spaces 0 0 (omega (arith, many))))
whole_accessed g c (inr wide) = (wide.connected.space, wide.connected.accessed)

pub part_point : (g : GraphValue) (c : ℕ) (ts : Unions) (t : Points) → IsGraph g → IsFound g c ts → Contains ts t → (p : ℕ) × (has_point t p ≡ true)
part_point g c ts t fits is k = elim (is.each t k) [
  | inl connected ↦ (let p = own_point g fits c connected.space connected.accessed in (p.0, connected.has p.0 p.1))
  | inr whole ↦ (
      let s = whole_accessed g c whole.cause in
      let p = own_point g fits c s.0 s.1 in
      (p.0, whole.all_points p.0 (own_within g fits c s.0 s.1 p.0 p.1)))
]

not_union : (s : ℕ) (t : Points) → Declared s ≡ Union t → ⊥
not_union s t e = both_ways true (sym (ap is_declared e)) refl
  where
    is_declared : Part → Bool
    is_declared (Declared k) = false
    is_declared (Union u) = true

pub whole_parts : (g : GraphValue) (c s : ℕ) (parts : List Part) → IsGraph g → space_at g s ≡ column_space g c → HasManyApart g c ⊎ HasWide g c → parts ≡ Declared s ∷ [] → AreParts g c parts
whole_parts g c s parts fits is cause made = subst (AreParts g c) (sym made) (record {
  found = record {
    apart = ((λ u k m. contains_none u k), tt);
    each = λ t k. inr (subst (IsWhole g c) (contains_one (space_at g s) t k) (record {
      all_points = λ p h. subst (λ u. has_point u p ≡ true) (sym is) h;
      no_others = λ p h. subst (λ u. has_point u p ≡ true) is h;
      cause = cause;
    }));
    few = (let one : 1 ≤ 64 = omega arith in one);
  };
  covers = λ r a. (space_at g s, contains_here (space_at g s) [], λ p h. subst (λ u. has_point u p ≡ true) (sym is) (own_within g fits c r a p h));
  needed = λ t k r a w. not_union s t (contains_one (Declared s) (Union t) k);
})

-- CLASSES
module _ (g : GraphValue) (fits : IsGraph g) (c : ℕ) (numbers : List ℕ) (acc : AreAccessed g c numbers) where
  abbrev sp : Spaces
  sp = spaces_at g numbers

  abbrev number : ℕ → ℕ
  number j = get_or numbers j 0

  count_is : length sp ≡ length numbers
  count_is = length-map numbers (space_at g)

  in_numbers : (j : ℕ) → j < length sp → j < length numbers
  in_numbers j below = omega (arith, below, count_is)

  -- the space at a place is that of its number
  at_place : (j : ℕ) → j < length sp → space_of sp j ≡ space_at g (number j)
  at_place j below = get_or-map (space_at g) numbers j 0 [] (in_numbers j below)

  accessed_at : (j : ℕ) → j < length sp → IsAccessed g c (number j)
  accessed_at j below = acc.each (number j) (Contains-get_or numbers j 0 (in_numbers j below))

  place_of : (s : ℕ) → IsAccessed g c s → (j : ℕ) × (j < length sp) × (number j ≡ s)
  place_of s a =
      let k = acc.all s a in
      let low : k.0 < length numbers = k.1 in
      (k.0, omega (arith, low, count_is), get_or_from_slice_get numbers k.0 s 0 (slice_get-get_or numbers k.0 s k.1 ∙ ap (λ x. Some x) k.2))

  to_number : (j p : ℕ) → j < length sp → has_point (space_of sp j) p ≡ true → has_point (space_at g (number j)) p ≡ true
  to_number j p below h = subst (λ t. has_point t p ≡ true) (at_place j below) h

  from_number : (j s p : ℕ) → j < length sp → number j ≡ s → has_point (space_at g s) p ≡ true → has_point (space_of sp j) p ≡ true
  from_number j s p below e h = subst (λ t. has_point t p ≡ true) (sym (at_place j below ∙ ap (space_at g) e)) h

  point_of : (j : ℕ) → j < length sp → (p : ℕ) × (has_point (space_of sp j) p ≡ true)
  point_of j below = let p = own_point g fits c (number j) (accessed_at j below) in (p.0, from_number j (number j) p.0 below refl p.1)

  -- LINKS
  one_space : (j p q : ℕ) → j < length sp → has_point (space_of sp j) p ≡ true → has_point (space_of sp j) q ≡ true → Linked g c p q
  one_space j p q below hp hq = (accesses_are_connected g c (number j) (accessed_at j below)).linked p q (to_number j p below hp) (to_number j q below hq)

  stays_below : {j k : ℕ} → AreLinked sp j k → j < length sp → k < length sp
  stays_below same below = below
  stays_below (meet hj hk m) below = hk
  stays_below (more l n) below = stays_below n (stays_below l below)

  points_linked : {j k : ℕ} → AreLinked sp j k → j < length sp → (p q : ℕ) → has_point (space_of sp j) p ≡ true → has_point (space_of sp k) q ≡ true → Linked g c p q
  points_linked {j} {k} same below p q hp hq = one_space j p q below hp hq
  points_linked {j} {k} (meet hj hk m) below p q hp hq = pieces.more (one_space j p m.0 hj hp m.1) (one_space k m.0 q hk m.2 hq)
  points_linked {j} {k} (more l n) below p q hp hq =
      let r = point_of _ (stays_below l below) in
      pieces.more (points_linked l below p r.0 hp r.1) (points_linked n (stays_below l below) r.0 q r.1 hq)

  link_end : {p q : ℕ} → Linked g c p q → (j : ℕ) × (j < length sp) × (has_point (space_of sp j) q ≡ true)
  link_end {p} {q} (pieces.one i a k e hp hq) = let m = place_of a.space (i, a, k, e, refl) in (m.0, m.1, from_number m.0 a.space q m.1 m.2 hq)
  link_end (pieces.more l n) = link_end n

  module _ (labels : List ℕ) (classes : AreClasses sp labels) where
    -- no link leads out of a class
    in_class : {p q : ℕ} → Linked g c p q → (j k : ℕ) → j < length sp → k < length sp → has_point (space_of sp j) p ≡ true → has_point (space_of sp k) q ≡ true → label labels j ≡ label labels k
    in_class {p} {q} (pieces.one i a n e hp hq) j k hj hk jp kq =
        let m = place_of a.space (i, a, n, e, refl) in
        classes.meeting j m.0 hj m.1 (p, jp, from_number m.0 a.space p m.1 m.2 hp) ∙ classes.meeting m.0 k m.1 hk (q, from_number m.0 a.space q m.1 m.2 hq, kq)
    in_class (pieces.more l n) j k hj hk jp kq =
        let m = link_end l in
        in_class l j m.0 hj m.1 jp m.2 ∙ in_class n m.0 k m.1 hk m.2 kq

    connected : (k : ℕ) (t : Points) → k < length sp → IsUnion sp labels k t → IsConnected g c t
    connected k t known union = record {
      space = number k;
      accessed = accessed_at k known;
      has = λ p h. union.has k known refl p (from_number k (number k) p known refl h);
      linked = λ p q hp hq.
          let i = union.only p hp in
          let j = union.only q hq in
          points_linked (classes.linked i.0 j.0 i.1 j.1 (i.2 ∙ sym j.2)) i.1 p q i.3 j.3;
    }

    -- unions of classes that meet are of one class
    one_class : (j k : ℕ) (t u : Points) → IsUnion sp labels j t → IsUnion sp labels k u → Meet t u → label labels j ≡ label labels k
    one_class j k t u one two m =
        let a = one.only m.0 m.1 in
        let b = two.only m.0 m.2 in
        sym a.2 ∙ (classes.meeting a.0 b.0 a.1 b.1 (m.0, a.3, b.3) ∙ b.2)

    pub wide_class : HasWideClass sp labels → HasWide g c
    wide_class w = record { points = w.1; connected = connected w.0 w.1 w.2 w.3; is_space = w.4.0; wide = w.4.1 }

    module _ (firsts : List ℕ) (are : AreFirsts labels MAX_COLUMN_PIECES firsts) where
      pub first_known : (a : ℕ) → Contains firsts a → a < length sp
      first_known a k = let low = are.known a k in omega (arith, low, classes.count)

      -- the number of a first space
      got_number : (i s : ℕ) → slice_get (map number firsts) i ≡ Some s → (a : ℕ) × (slice_get firsts i ≡ Some a) × (number a ≡ s)
      got_number i s at = by_first (slice_get firsts i) refl (sym (slice_get-map number firsts i) ∙ at)
        where
          by_first : (o : Option ℕ) → slice_get firsts i ≡ o → option_map number o ≡ Some s → (a : ℕ) × (slice_get firsts i ≡ Some a) × (number a ≡ s)
          by_first None e f = absurd (none-some s f)
          by_first (Some a) e f = (a, e, same_Some (number a) s f)

      pub many_apart : MAX_COLUMN_PIECES < length firsts → HasManyApart g c
      many_apart many = record {
        spaces = map number firsts;
        accessed = λ s k. (let a = map_contains number firsts s k in subst (IsAccessed g c) a.2 (accessed_at a.0 (first_known a.0 a.1)));
        apart = λ i j s t p q at_s at_t hp hq l.
            let a = got_number i s at_s in
            let b = got_number j t at_t in
            let ha = first_known a.0 (got_contains firsts i a.0 a.1) in
            let hb = first_known b.0 (got_contains firsts j b.0 b.1) in
            are.differ i j a.0 b.0 a.1 b.1 (in_class l a.0 b.0 ha hb (from_number a.0 s p ha a.2 hp) (from_number b.0 t q hb b.2 hq));
        many = subst (λ n. MAX_COLUMN_PIECES < n) (sym (length-map firsts number)) many;
      }

      module _ (parts : List Part) (made : AreClassParts numbers sp labels firsts parts) (few : length firsts ≤ MAX_COLUMN_PIECES) where
        -- the class of a part
        class_of : (i : ℕ) (x : Part) → slice_get parts i ≡ Some x → (k : ℕ) × (slice_get firsts i ≡ Some k) × IsClassPart numbers sp labels k x
        class_of i x at =
            let low = within parts i x at in
            let first : slice_get firsts i ≡ Some (get_or firsts i 0) = slice_get-get_or firsts i 0 (omega (arith, low, made.count)) in
            (get_or firsts i 0, first, made.each i (get_or firsts i 0) x first at)

        union_of : (k : ℕ) (x : Part) → IsClassPart numbers sp labels k x → IsUnion sp labels k (part_space g x)
        union_of k (Declared s) is = subst (IsUnion sp labels k) (at_place is.0 is.1 ∙ ap (space_at g) (get_or_from_slice_get numbers is.0 s 0 is.2)) is.3
        union_of k (Union t) is = is.0

        -- the part that a space is of
        pub record PartAt (i : ℕ) (t : Points) : Type 0 where
          pub part : Part
          pub at : slice_get parts i ≡ Some part
          pub is : part_space g part ≡ t
          pub first : ℕ
          pub at_first : slice_get firsts i ≡ Some first
          pub union : IsUnion sp labels first t

        part_at : (i : ℕ) (t : Points) → slice_get (spaces g parts) i ≡ Some t → PartAt i t
        part_at i t at = by_part (slice_get parts i) refl (sym (slice_get-map (part_space g) parts i) ∙ at)
          where
            by_part : (o : Option Part) → slice_get parts i ≡ o → option_map (part_space g) o ≡ Some t → PartAt i t
            by_part None e f = absurd (none-some t f)
            by_part (Some x) e f =
                let k = class_of i x e in
                let is = same_Some (part_space g x) t f in
                record { part = x; at = e; is = is; first = k.0; at_first = k.1; union = subst (IsUnion sp labels k.0) is (union_of k.0 x k.2) }

        place_in : (t : Points) → Contains (spaces g parts) t → (i : ℕ) × PartAt i t
        place_in t k = (k.0, part_at k.0 t (slice_get-get_or (spaces g parts) k.0 t k.1 ∙ ap (λ x. Some x) k.2))

        known_first : (i k : ℕ) → slice_get firsts i ≡ Some k → k < length sp
        known_first i k at = first_known k (got_contains firsts i k at)

        parts_apart : (i j : ℕ) (t u : Points) → slice_get (spaces g parts) i ≡ Some t → slice_get (spaces g parts) j ≡ Some u → Meet t u → i ≡ j
        parts_apart i j t u at_t at_u m =
            let x = part_at i t at_t in
            let y = part_at j u at_u in
            are.differ i j x.first y.first x.at_first y.at_first (one_class x.first y.first t u x.union y.union m)

        -- each space of the column lies in a part
        lies_in : (j : ℕ) → j < length sp → ((k : ℕ) → k < length labels → (a : ℕ) × Contains firsts a × (label labels a ≡ label labels k)) ⊎ (MAX_COLUMN_PIECES < length firsts) → LiesInSome (spaces g parts) (space_of sp j)
        lies_in j below (inr many) = absurd (let one : 64 < length firsts = many in let two : length firsts ≤ 64 = few in omega (arith, one, two))
        lies_in j below (inl all) =
            let a = all j (omega (arith, below, classes.count)) in
            let first : slice_get firsts a.1.0 ≡ Some a.0 = slice_get-get_or firsts a.1.0 a.0 a.1.1 ∙ ap (λ x. Some x) a.1.2 in
            let low : a.1.0 < length firsts = a.1.1 in
            let x = get_or parts a.1.0 (Declared 0) in
            let part : slice_get parts a.1.0 ≡ Some x = slice_get-get_or parts a.1.0 (Declared 0) (omega (arith, low, made.count)) in
            let union = union_of a.0 x (made.each a.1.0 a.0 x first part) in
            (part_space g x, contains_map (part_space g) parts x (got_contains parts a.1.0 x part), union.has j below (sym a.2))

        covered : (s : ℕ) → IsAccessed g c s → LiesInSome (spaces g parts) (space_at g s)
        covered s a =
            let j = place_of s a in
            let l = lies_in j.0 j.1 are.all in
            (l.0, l.1, λ p h. l.2 p (from_number j.0 s p j.1 j.2 h))

        is_needed : (t : Points) → Contains parts (Union t) → (s : ℕ) → IsAccessed g c s → IsWithin t (space_at g s) → ⊥
        is_needed t k s a w =
            let at : slice_get parts k.0 ≡ Some (Union t) = slice_get-get_or parts k.0 (Union t) k.1 ∙ ap (λ x. Some x) k.2 in
            let class = class_of k.0 (Union t) at in
            let known = known_first k.0 class.0 class.1 in
            let j = place_of s a in
            let inside : IsWithin t (space_of sp j.0) = λ (p : ℕ) (h : has_point t p ≡ true). from_number j.0 s p j.1 j.2 (w p h) in
            let p = point_of class.0 known in
            let common = inside p.0 (class.2.0.has class.0 known refl p.0 p.1) in
            class.2.1 j.0 (record { known = j.1; class = sym (classes.meeting class.0 j.0 known j.1 (p.0, p.1, common)); has = inside })

        pub class_parts : AreParts g c parts
        class_parts = record {
          found = record {
            apart = apart_by_places (spaces g parts) parts_apart;
            each = λ t k. (let x = place_in t k in inl (connected x.1.first t (known_first x.0 x.1.first x.1.at_first) x.1.union));
            few = subst (λ n. n ≤ MAX_COLUMN_PIECES) (sym (length-map parts (part_space g) ∙ made.count)) few;
          };
          covers = covered;
          needed = is_needed;
        }

-- CLASS BY CLASS
pub no_class_parts : (numbers : List ℕ) (sps : Spaces) (labels : List ℕ) → AreClassParts numbers sps labels [] []
no_class_parts numbers sps labels = record { count = refl; each = λ i k x at. absurd (none-some k at) }

pub one_class_part : (numbers : List ℕ) (sps : Spaces) (labels firsts : List ℕ) (parts : List Part) (k : ℕ) (x : Part) → AreClassParts numbers sps labels firsts parts → IsClassPart numbers sps labels k x → AreClassParts numbers sps labels (firsts ++ k ∷ []) (parts ++ x ∷ [])
one_class_part numbers sps labels firsts parts k x are is = record {
  count = length-append parts (x ∷ []) ∙ (ap (λ n. n + 1) are.count ∙ sym (length-append firsts (k ∷ [])));
  each = λ i m y at_m at_y. by_places i m y (got_cases firsts k i m at_m) (got_cases parts x i y at_y);
}
  where
    by_places : (i m : ℕ) (y : Part) → ((i < length firsts) × (slice_get firsts i ≡ Some m)) ⊎ ((i ≡ length firsts) × (k ≡ m)) → ((i < length parts) × (slice_get parts i ≡ Some y)) ⊎ ((i ≡ length parts) × (x ≡ y)) → IsClassPart numbers sps labels m y
    by_places i m y (inl p) (inl q) = are.each i m y p.1 q.1
    by_places i m y (inl p) (inr q) = let low = p.0 in let e = q.0 in absurd (omega (arith, low, e, are.count))
    by_places i m y (inr p) (inl q) = let e = p.0 in let low = q.0 in absurd (omega (arith, low, e, are.count))
    by_places i m y (inr p) (inr q) = subst (λ n. IsClassPart numbers sps labels n y) p.1 (subst (IsClassPart numbers sps labels k) q.1 is)

-- COLUMN BY COLUMN
pub record ArePartsTo (g : GraphValue) (lists : List (Vec Part Global)) (n : ℕ) : Type 0 where
  pub count : length lists ≡ n
  pub each : (c : ℕ) (v : Vec Part Global) → slice_get lists c ≡ Some v → AreParts g c v.items

pub no_parts : (g : GraphValue) → ArePartsTo g [] 0
no_parts g = record { count = refl; each = λ c v at. absurd (none-some v at) }

pub one_more_parts : (g : GraphValue) (lists : List (Vec Part Global)) (n : ℕ) (v : Vec Part Global) → ArePartsTo g lists n → AreParts g n v.items → ArePartsTo g (lists ++ v ∷ []) (n + 1)
one_more_parts g lists n v are is = record {
  count = length-append lists (v ∷ []) ∙ ap (λ k. k + 1) are.count;
  each = λ c x at. elim (got_cases lists v c x at) [
    | inl early ↦ are.each c x early.1
    | inr last ↦ subst (λ k. AreParts g k x.items) (sym (last.0 ∙ are.count)) (subst (λ (y : Vec Part Global). AreParts g n y.items) last.1 is)
  ];
}

pub all_found : (g : GraphValue) (lists : List (Vec Part Global)) → IsGraph g → ArePartsTo g lists (length (columns g)) → AreFound g (spaces_of g lists) (length g.lines)
all_found g lists fits are = record {
  lists = record {
    count = length-map lists (λ (v : Vec Part Global). spaces g v.items) ∙ are.count;
    each = λ c ts at. by_list c ts (slice_get lists c) refl (sym (slice_get-map (λ (v : Vec Part Global). spaces g v.items) lists c) ∙ at);
  };
  covers = λ i below a k.
      let known : a.column < length (columns g) = (accesses_fit g i a fits k).column in
      let low : a.column < length lists = omega (arith, known, are.count) in
      by_column a.column a.space (i, a, k, refl, refl) (slice_get lists a.column) refl low;
}
  where
    got_below : (xs : List (Vec Part Global)) (c : ℕ) → c < length xs → slice_get xs c ≡ None → ⊥
    got_below [] c low e = omega (arith, low)
    got_below (x ∷ xs) zero low e = none-some x (sym e)
    got_below (x ∷ xs) (suc c) low e = got_below xs c (omega (arith, low)) e

    by_list : (c : ℕ) (ts : Unions) (o : Option (Vec Part Global)) → slice_get lists c ≡ o → option_map (λ (v : Vec Part Global). spaces g v.items) o ≡ Some ts → IsFound g c ts
    by_list c ts None e f = absurd (none-some ts f)
    by_list c ts (Some v) e f = subst (IsFound g c) (same_Some (spaces g v.items) ts f) (are.each c v e).found

    by_column : (c s : ℕ) → IsAccessed g c s → (o : Option (Vec Part Global)) → slice_get lists c ≡ o → c < length lists → IsCovered (spaces_of g lists) c (space_at g s)
    by_column c s a None e low = absurd (got_below lists c low e)
    by_column c s a (Some v) e low = (spaces g v.items, slice_get-map (λ (v : Vec Part Global). spaces g v.items) lists c ∙ ap (option_map (λ (v : Vec Part Global). spaces g v.items)) e, (are.each c v e).covers s a)

pub all_needed : (g : GraphValue) (lists : List (Vec Part Global)) (n : ℕ) → ArePartsTo g lists n → AreNeeded g lists
all_needed g lists n are = λ c s v t at k a w. (are.each c v at).needed t k s a w
