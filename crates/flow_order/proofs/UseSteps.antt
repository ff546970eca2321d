-- The classes of the uses of columns, with one use more.
use Rattle.std.proofs.Common.{◌≡◌, ℕ, zero, suc, ◌<◌, Bool, true, false, cond, ◌⊎◌, inl, inr, List, [], ◌∷◌, ◌++◌, length, refl, sym, ◌∙◌, ap, subst, arith}
use Rattle.std.specs.Prelude.{Contains, filter, not, Some, slice_get, slice_set, slice_index_or}
use Rattle.std.proofs.lemmas.Bool.{true≢false, cases_Bool, cases_eq, cases_order}
use Rattle.std.proofs.lemmas.Option.{none-some, same_Some, slice_get_within, slice_get_read}
use Rattle.std.proofs.lemmas.List.Elements.{Contains-append_cases, Contains-append_left, Contains-append_right}
use Rattle.basics.proofs.ListFacts.{contains_cases, contains_none, contains_here, contains_map, map_contains, filter_contains, contains_filter}
use Rattle.graph_terms.specs.declared.verb.Access.{Access}
use Rattle.graph_terms.specs.declared.verb.Mode.{Mode}
use Rattle.graph_terms.specs.declared.verb.Mode.TheVariants.{Read, Write, Sum, Least, Most}
use Rattle.graph_terms.specs.Graph.{GraphValue, named_spaces, space_at}
use Rattle.graph_terms.specs.Access.{accesses}
use Rattle.flow_order.specs.Bits.{word_bit}
use Rattle.flow_order.specs.Meaning.{order_counts, Chain}
use Rattle.flow_order.specs.Uses.{uses_at, uses_before, IsClass, AreClasses, AreUses, IsRest, HasUse, with_use, first_use, PutsUse, joins, begins}
use Rattle.flow_order.specs.Ends.{AreEnds}
use Rattle.flow_order.specs.declared.ends.Ends.{Ends}
use Rattle.flow_order.specs.declared.uses.Class.{Class}
use Rattle.flow_order.specs.declared.uses.ColumnUses.{ColumnUses}
use Rattle.basics.proofs.ListParts.{got_left, got_end, got_cases}
use Rattle.flow_order.proofs.LeastSteps.{Follows, follow}

set_here : {X : Type 0} (xs : List X) (k : ℕ) (x y : X) → slice_get xs k ≡ Some x → slice_get (slice_set xs k y) k ≡ Some y
set_here [] k x y h = absurd (none-some x h)
set_here (z ∷ zs) zero x y h = refl
set_here (z ∷ zs) (suc k) x y h = set_here zs k x y h

set_there : {X : Type 0} (xs : List X) (k l : ℕ) (y : X) → (l ≡ k → ⊥) → slice_get (slice_set xs k y) l ≡ slice_get xs l
set_there [] k l y h = refl
set_there (z ∷ zs) zero zero y h = absurd (h refl)
set_there (z ∷ zs) zero (suc l) y h = refl
set_there (z ∷ zs) (suc k) zero y h = refl
set_there (z ∷ zs) (suc k) (suc l) y h = set_there zs k l y (λ e. h (ap suc e))

-- what stands in a list after one item was set
pub set_cases : {X : Type 0} (xs : List X) (k : ℕ) (x y : X) (l : ℕ) (z : X) → slice_get xs k ≡ Some x → slice_get (slice_set xs k y) l ≡ Some z → ((l ≡ k) × (y ≡ z)) ⊎ ((l ≡ k → ⊥) × (slice_get xs l ≡ Some z))
set_cases xs k x y l z at got = elim (cases_eq l k) [
  | inl same ↦ inl (same, same_Some y z (sym (set_here xs k x y at) ∙ (ap (slice_get (slice_set xs k y)) (sym same) ∙ got)))
  | inr apart ↦ inr (apart, sym (set_there xs k l y apart) ∙ got)
]

-- two modes without an order are one
pub alike : (commute : Bool) (m n : Mode) → order_counts commute m n ≡ false → m ≡ n
alike commute Read Read h = refl
alike commute Read Write h = absurd (true≢false h)
alike commute Read Sum h = absurd (true≢false h)
alike commute Read Least h = absurd (true≢false h)
alike commute Read Most h = absurd (true≢false h)
alike commute Sum Sum h = refl
alike commute Sum Read h = absurd (true≢false h)
alike commute Sum Write h = absurd (true≢false h)
alike commute Sum Least h = absurd (true≢false h)
alike commute Sum Most h = absurd (true≢false h)
alike commute Write n h = absurd (true≢false h)
alike commute Least n h = absurd (true≢false h)
alike commute Most n h = absurd (true≢false h)

-- a mode that has no order against another has none against itself
pub alone : (commute : Bool) (m n : Mode) → order_counts commute m n ≡ false → order_counts commute m m ≡ false
alone commute m n h = ap (order_counts commute m) (alike commute m n h) ∙ h

end_cases : (us : List (ℕ × Access)) (n : ℕ) (a : Access) (i : ℕ) (b : Access) → Contains (us ++ (n, a) ∷ []) (i, b) → Contains us (i, b) ⊎ ((n ≡ i) × (a ≡ b))
end_cases us n a i b c = elim (Contains-append_cases us ((n, a) ∷ []) (i, b) c) [
  | inl old ↦ inl old
  | inr new ↦ elim (contains_cases (n, a) [] (i, b) new) [
    | inl same ↦ inr (ap (λ (x : ℕ × Access). x.0) same, ap (λ (x : ℕ × Access). x.1) same)
    | inr none ↦ absurd (contains_none (i, b) none)
  ]
]

old_use : (us : List (ℕ × Access)) (n : ℕ) (a : Access) (x : ℕ × Access) → Contains us x → Contains (us ++ (n, a) ∷ []) x
old_use us n a x c = Contains-append_left us ((n, a) ∷ []) x c

new_use : (us : List (ℕ × Access)) (n : ℕ) (a : Access) → Contains (us ++ (n, a) ∷ []) (n, a)
new_use us n a = Contains-append_right us ((n, a) ∷ []) (n, a) (contains_here (n, a) [])

module _ (f : GraphValue) (commute : Bool) where
  -- a use elsewhere
  class_stays : (us : List (ℕ × Access)) (c : ℕ) (x : Class) (n : ℕ) (a : Access) → (a.column ≡ c → a.space ≡ x.space → ⊥) → IsClass f commute us c x → IsClass f commute (us ++ (n, a) ∷ []) c x
  class_stays us c x n a other is = record {
    fits = is.fits;
    ends_are = is.ends_are;
    latest_use = λ i h. (let u = is.latest_use i h in (u.0, old_use us n a (i, u.0) u.1, u.2, u.3, u.4));
    before_use = λ i h. (let u = is.before_use i h in (u.0, old_use us n a (i, u.0) u.1, u.2, u.3, u.4));
    latest_hold = λ i b u col sp. elim (end_cases us n a i b u) [
      | inl old ↦ is.latest_hold i b old col sp
      | inr new ↦ absurd (other (ap (λ (z : Access). z.column) new.1 ∙ col) (ap (λ (z : Access). z.space) new.1 ∙ sp))
    ];
    before_hold = λ own i b u col sp o. elim (end_cases us n a i b u) [
      | inl old ↦ is.before_hold own i b old col sp o
      | inr new ↦ absurd (other (ap (λ (z : Access). z.column) new.1 ∙ col) (ap (λ (z : Access). z.space) new.1 ∙ sp))
    ];
  }

  -- each use so far that ties this one is of its line, or of one with a chain to it
  abbrev pub TiesSo : List (ℕ × Access) → ℕ → Access → Type 0
  TiesSo us n a = (i : ℕ) (b : Access) → Contains us (i, b) → b.column ≡ a.column → b.space ≡ a.space → order_counts commute b.mode a.mode ≡ true → Follows f commute i n

  class_turns : (us : List (ℕ × Access)) (c : ℕ) (x : Class) (n : ℕ) (a : Access) → a.column ≡ c → x.space ≡ a.space → TiesSo us n a → order_counts commute x.mode a.mode ≡ true → IsClass f commute us c x →
      IsClass f commute (us ++ (n, a) ∷ []) c (record { space = x.space; ends = x.ends; mode = a.mode; latest = n ∷ []; before = x.latest })
  class_turns us c x n a col sp ties counts is = record {
    fits = is.fits;
    ends_are = is.ends_are;
    latest_use = λ i h. elim (contains_cases n [] i h) [
      | inl same ↦ (a, subst (λ z. Contains (us ++ (n, a) ∷ []) (z, a)) same (new_use us n a), col, sym sp, refl)
      | inr none ↦ absurd (contains_none i none)
    ];
    before_use = λ i h. (let u = is.latest_use i h in (u.0, old_use us n a (i, u.0) u.1, u.2, u.3, ap (λ m. order_counts commute m a.mode) u.4 ∙ counts));
    latest_hold = λ i b u bcol bsp. elim (end_cases us n a i b u) [
      | inl old ↦ (
          let k = is.latest_hold i b old bcol bsp in
          let v = is.latest_use k.0 k.1 in
          (n, contains_here n [], follow f commute i k.0 n k.2 (ties k.0 v.0 v.1 (v.2 ∙ sym col) (v.3 ∙ sp) (ap (λ m. order_counts commute m a.mode) v.4 ∙ counts))))
      | inr new ↦ (n, contains_here n [], inl new.0)
    ];
    before_hold = λ own i b u bcol bsp o. elim (end_cases us n a i b u) [
      | inl old ↦ is.latest_hold i b old bcol bsp
      | inr new ↦ absurd (true≢false (sym o ∙ (ap (λ (z : Access). order_counts commute z.mode a.mode) (sym new.1) ∙ own)))
    ];
  }

  -- lines with these bits have a chain to this one
  abbrev pub ReachSo : List ℕ → ℕ → Type 0
  ReachSo row n = (i : ℕ) → word_bit row i ≡ true → Chain f commute i n

  class_adds : (us : List (ℕ × Access)) (c : ℕ) (x : Class) (n : ℕ) (a : Access) (row rest : List ℕ) → a.column ≡ c → x.space ≡ a.space → ReachSo row n → IsRest row x.latest rest → order_counts commute x.mode a.mode ≡ false → IsClass f commute us c x →
      IsClass f commute (us ++ (n, a) ∷ []) c (record { space = x.space; ends = x.ends; mode = x.mode; latest = rest ++ n ∷ []; before = x.before })
  class_adds us c x n a row rest col sp reach left none is = record {
    fits = is.fits;
    ends_are = is.ends_are;
    latest_use = λ i h. elim (Contains-append_cases rest (n ∷ []) i h) [
      | inl old ↦ (let u = is.latest_use i (left.kept i old) in (u.0, old_use us n a (i, u.0) u.1, u.2, u.3, u.4))
      | inr new ↦ elim (contains_cases n [] i new) [
        | inl same ↦ (a, subst (λ z. Contains (us ++ (n, a) ∷ []) (z, a)) same (new_use us n a), col, sym sp, sym (alike commute x.mode a.mode none))
        | inr no' ↦ absurd (contains_none i no')
      ]
    ];
    before_use = λ i h. (let u = is.before_use i h in (u.0, old_use us n a (i, u.0) u.1, u.2, u.3, u.4));
    latest_hold = λ i b u bcol bsp. elim (end_cases us n a i b u) [
      | inl old ↦ (
          let k = is.latest_hold i b old bcol bsp in
          elim (left.gone k.0 k.1) [
            | inl stays ↦ (k.0, Contains-append_left rest (n ∷ []) k.0 stays, k.2)
            | inr gone ↦ (n, Contains-append_right rest (n ∷ []) n (contains_here n []), follow f commute i k.0 n k.2 (inr (reach k.0 gone)))
          ])
      | inr new ↦ (n, Contains-append_right rest (n ∷ []) n (contains_here n []), inl new.0)
    ];
    before_hold = λ own i b u bcol bsp o. elim (end_cases us n a i b u) [
      | inl old ↦ is.before_hold own i b old bcol bsp o
      | inr new ↦ absurd (true≢false (sym o ∙ (ap (λ (z : Access). order_counts commute z.mode x.mode) (sym new.1) ∙ (ap (λ m. order_counts commute m x.mode) (sym (alike commute x.mode a.mode none)) ∙ own))))
    ];
  }

  class_begins : (us : List (ℕ × Access)) (n : ℕ) (a : Access) (e : Ends) → AreEnds (space_at f a.space) e → a.space < length (named_spaces f) → ((i : ℕ) (b : Access) → Contains us (i, b) → b.column ≡ a.column → b.space ≡ a.space → ⊥) → IsClass f commute (us ++ (n, a) ∷ []) a.column (first_use a e n)
  class_begins us n a e ends fits none = record {
    fits = fits;
    ends_are = ends;
    latest_use = λ i h. elim (contains_cases n [] i h) [
      | inl same ↦ (a, subst (λ z. Contains (us ++ (n, a) ∷ []) (z, a)) same (new_use us n a), refl, refl, refl)
      | inr no' ↦ absurd (contains_none i no')
    ];
    before_use = λ i h. absurd (contains_none i h);
    latest_hold = λ i b u col sp. elim (end_cases us n a i b u) [
      | inl old ↦ absurd (none i b old col sp)
      | inr new ↦ (n, contains_here n [], inl new.0)
    ];
    before_hold = λ own i b u col sp o. elim (end_cases us n a i b u) [
      | inl old ↦ absurd (none i b old col sp)
      | inr new ↦ absurd (true≢false (sym o ∙ (ap (λ (z : Access). order_counts commute z.mode a.mode) (sym new.1) ∙ own)))
    ];
  }

  class_joins : (us : List (ℕ × Access)) (c : ℕ) (x : Class) (n : ℕ) (a : Access) (row rest : List ℕ) → a.column ≡ c → x.space ≡ a.space → TiesSo us n a → ReachSo row n → IsRest row x.latest rest → IsClass f commute us c x →
      IsClass f commute (us ++ (n, a) ∷ []) c (with_use commute x rest a.mode n)
  class_joins us c x n a row rest col sp ties reach left is =
      let turned : Class = record { space = x.space; ends = x.ends; mode = a.mode; latest = n ∷ []; before = x.latest } in
      let added : Class = record { space = x.space; ends = x.ends; mode = x.mode; latest = rest ++ n ∷ []; before = x.before } in
      elim (cases_Bool (order_counts commute x.mode a.mode)) [
        | inl yes' ↦ subst (IsClass f commute (us ++ (n, a) ∷ []) c) (sym (ap (λ z. cond z turned added) yes')) (class_turns us c x n a col sp ties yes' is)
        | inr no' ↦ subst (IsClass f commute (us ++ (n, a) ∷ []) c) (sym (ap (λ z. cond z turned added) no')) (class_adds us c x n a row rest col sp reach left no' is)
      ]

  space_stays : (x : Class) (rest : List ℕ) (m : Mode) (n : ℕ) → (with_use commute x rest m n).space ≡ x.space
  space_stays x rest m n = by (order_counts commute x.mode m)
    where
      by : (b : Bool) → (cond {A = Class} b (record { space = x.space; ends = x.ends; mode = m; latest = n ∷ []; before = x.latest }) (record { space = x.space; ends = x.ends; mode = x.mode; latest = rest ++ n ∷ []; before = x.before })).space ≡ x.space
      by true = refl
      by false = refl

  -- the classes of another column
  classes_stay : (us : List (ℕ × Access)) (c : ℕ) (xs : List Class) (n : ℕ) (a : Access) → (a.column ≡ c → ⊥) → AreClasses f commute us c xs → AreClasses f commute (us ++ (n, a) ∷ []) c xs
  classes_stay us c xs n a other are = record {
    each = λ k x at. class_stays us c x n a (λ col sp. other col) (are.each k x at);
    apart = are.apart;
    all = λ i b u col. elim (end_cases us n a i b u) [
      | inl old ↦ are.all i b old col
      | inr new ↦ absurd (other (ap (λ (z : Access). z.column) new.1 ∙ col))
    ];
  }

  classes_join : (us : List (ℕ × Access)) (xs : List Class) (n : ℕ) (a : Access) (k : ℕ) (x : Class) (row rest : List ℕ) → TiesSo us n a → ReachSo row n → IsRest row x.latest rest → slice_get xs k ≡ Some x → x.space ≡ a.space → AreClasses f commute us a.column xs →
      AreClasses f commute (us ++ (n, a) ∷ []) a.column (slice_set xs k (with_use commute x rest a.mode n))
  classes_join us xs n a k x row rest ties reach left at sp are =
      let y = with_use commute x rest a.mode n in
      let keeps : y.space ≡ x.space = space_stays x rest a.mode n in record {
        each = λ l z got. elim (set_cases xs k x y l z at got) [
          | inl here ↦ subst (IsClass f commute (us ++ (n, a) ∷ []) a.column) here.1 (class_joins us a.column x n a row rest refl sp ties reach left (are.each k x at))
          | inr there ↦ class_stays us a.column z n a (λ col same. there.0 (are.apart l k z x there.1 at (sym same ∙ sym sp))) (are.each l z there.1)
        ];
        apart = λ l m z w got got' same. elim (set_cases xs k x y l z at got) [
          | inl here ↦ elim (set_cases xs k x y m w at got') [
            | inl also ↦ here.0 ∙ sym also.0
            | inr there ↦ here.0 ∙ are.apart k m x w at there.1 (sym keeps ∙ (ap (λ (v : Class). v.space) here.1 ∙ same))
          ]
          | inr there ↦ elim (set_cases xs k x y m w at got') [
            | inl also ↦ are.apart l k z x there.1 at (same ∙ (ap (λ (v : Class). v.space) (sym also.1) ∙ keeps)) ∙ sym also.0
            | inr other ↦ are.apart l m z w there.1 other.1 same
          ]
        ];
        all = λ i b u col. elim (end_cases us n a i b u) [
          | inl old ↦ (
              let v = are.all i b old col in
              elim (cases_eq v.0 k) [
                | inl same ↦ (
                  k,
                  y,
                  set_here xs k x y at,
                  keeps ∙ (ap (λ (w : Class). w.space) (same_Some x v.1 (sym at ∙ (ap (slice_get xs) (sym same) ∙ v.2))) ∙ v.3),
                )
                | inr apart ↦ (v.0, v.1, set_there xs k v.0 y apart ∙ v.2, v.3)
              ])
          | inr new ↦ (k, y, set_here xs k x y at, keeps ∙ (sp ∙ ap (λ (z : Access). z.space) new.1))
        ];
      }

  classes_begin : (us : List (ℕ × Access)) (xs : List Class) (n : ℕ) (a : Access) (e : Ends) → AreEnds (space_at f a.space) e → a.space < length (named_spaces f) → ((k : ℕ) (x : Class) → slice_get xs k ≡ Some x → x.space ≡ a.space → ⊥) → AreClasses f commute us a.column xs →
      AreClasses f commute (us ++ (n, a) ∷ []) a.column (xs ++ first_use a e n ∷ [])
  classes_begin us xs n a e ends fits none are =
      let y = first_use a e n in record {
        each = λ l z got. elim (got_cases xs y l z got) [
          | inl old ↦ class_stays us a.column z n a (λ col same. none l z old.1 (sym same)) (are.each l z old.1)
          | inr new ↦ subst (IsClass f commute (us ++ (n, a) ∷ []) a.column) new.1 (class_begins us n a e ends fits (λ i b u col sp. (let v = are.all i b u col in none v.0 v.1 v.2 (v.3 ∙ sp))))
        ];
        apart = λ l m z w got got' same. elim (got_cases xs y l z got) [
          | inl old ↦ elim (got_cases xs y m w got') [
            | inl also ↦ are.apart l m z w old.1 also.1 same
            | inr new ↦ absurd (none l z old.1 (same ∙ ap (λ (v : Class). v.space) (sym new.1)))
          ]
          | inr new ↦ elim (got_cases xs y m w got') [
            | inl old ↦ absurd (none m w old.1 (sym same ∙ ap (λ (v : Class). v.space) (sym new.1)))
            | inr also ↦ new.0 ∙ sym also.0
          ]
        ];
        all = λ i b u col. elim (end_cases us n a i b u) [
          | inl old ↦ (let v = are.all i b old col in (v.0, v.1, got_left xs y v.0 (slice_get_within xs v.0 v.1 v.2) ∙ v.2, v.3))
          | inr new ↦ (length xs, y, got_end xs y, ap (λ (z : Access). z.space) new.1)
        ];
      }

  classes_put : (us : List (ℕ × Access)) (xs ys : List Class) (n : ℕ) (a : Access) (row : List ℕ) → a.space < length (named_spaces f) → TiesSo us n a → ReachSo row n → PutsUse commute xs a (space_at f a.space) n row ys → AreClasses f commute us a.column xs →
      AreClasses f commute (us ++ (n, a) ∷ []) a.column ys
  classes_put us xs ys n a row fits ties reach (joins k x y at sp has is) are =
      subst (AreClasses f commute (us ++ (n, a) ∷ []) a.column) (sym (is ∙ ap (slice_set xs k) has.has_use)) (classes_join us xs n a k x row has.rest ties reach has.is_rest at sp are)
  classes_put us xs ys n a row fits ties reach (begins e ends none is) are = subst (AreClasses f commute (us ++ (n, a) ∷ []) a.column) (sym is) (classes_begin us xs n a e ends fits none are)

  -- the classes of all columns with one use more
  pub uses_put : (us : List (ℕ × Access)) (cs : List ColumnUses) (n : ℕ) (a : Access) (row : List ℕ) (x y : ColumnUses) → a.space < length (named_spaces f) → TiesSo us n a → ReachSo row n → slice_get cs a.column ≡ Some x → PutsUse commute x.classes.items a (space_at f a.space) n row y.classes.items → AreUses f commute us cs →
      AreUses f commute (us ++ (n, a) ∷ []) (slice_set cs a.column y)
  uses_put us cs n a row x y fits ties reach at puts are = record {
    count = length_set cs a.column y ∙ are.count;
    each = λ c z got. elim (set_cases cs a.column x y c z at got) [
      | inl here ↦ subst (λ i. AreClasses f commute (us ++ (n, a) ∷ []) i z.classes.items) (sym here.0)
          (subst (λ (v : ColumnUses). AreClasses f commute (us ++ (n, a) ∷ []) a.column v.classes.items) here.1 (classes_put us x.classes.items y.classes.items n a row fits ties reach puts (are.each a.column x at)))
      | inr there ↦ classes_stay us c z.classes.items n a (λ col. there.0 (sym col)) (are.each c z there.1)
    ];
  }
    where
      length_set : {X : Type 0} (xs : List X) (k : ℕ) (v : X) → length (slice_set xs k v) ≡ length xs
      length_set [] k v = refl
      length_set (z ∷ zs) zero v = refl
      length_set (z ∷ zs) (suc k) v = ap suc (length_set zs k v)

  pub use_stands : (n i : ℕ) (b : Access) → Contains (uses_before f n) (i, b) → (i < n) × Contains (accesses f i) b
  use_stands zero i b c = absurd (contains_none (i, b) c)
  use_stands (suc n) i b c = elim (Contains-append_cases (uses_before f n) (uses_at n (accesses f n)) (i, b) c) [
    | inl old ↦ (let u = use_stands n i b old in let low : i < n = u.0 in (omega arith, u.1))
    | inr new ↦ (
        let u = map_contains (λ (x : Access). (n, x)) (accesses f n) (i, b) new in
        let line : n ≡ i = ap (λ (x : ℕ × Access). x.0) u.2 in
        let access : u.0 ≡ b = ap (λ (x : ℕ × Access). x.1) u.2 in
        (omega arith, subst (λ z. Contains (accesses f z) b) line (subst (λ z. Contains (accesses f n) z) access u.1)))
  ]

  pub stands_use : (n i : ℕ) (b : Access) → i < n → Contains (accesses f i) b → Contains (uses_before f n) (i, b)
  stands_use zero i b h c = absurd (omega arith)
  stands_use (suc n) i b h c = elim (cases_order i n) [
    | inl same ↦ Contains-append_right (uses_before f n) (uses_at n (accesses f n)) (i, b) (subst (λ z. Contains (uses_at n (accesses f n)) (z, b)) (sym same) (contains_map (λ (x : Access). (n, x)) (accesses f n) b (subst (λ z. Contains (accesses f z) b) same c)))
    | inr (inl below) ↦ Contains-append_left (uses_before f n) (uses_at n (accesses f n)) (i, b) (stands_use n i b below c)
    | inr (inr above) ↦ absurd (omega arith)
  ]

-- one more use of a column by the loop's values
pub joined : (commute : Bool) (xs ys : List Class) (a : Access) (s : List (ℕ × ℕ)) (n k : ℕ) (row : List ℕ) (x y z : Class) → slice_get xs k ≡ Some x → x.space ≡ a.space → k < length xs → y ≡ slice_index_or xs k y → HasUse commute y a.mode n row z → ys ≡ slice_set xs k z → PutsUse commute xs a s n row ys
joined commute xs ys a s n k row x y z at sp within is made set =
    let got : slice_get xs k ≡ Some y = slice_get_read xs (length xs) k y refl within is in
    joins k y z got (ap (λ (v : Class). v.space) (same_Some y x (sym got ∙ at)) ∙ sp) made set

-- a list without those that have a bit
pub rest_filtered : (row old rest : List ℕ) → rest ≡ filter (λ i. not (word_bit row i)) old → IsRest row old rest
rest_filtered row old rest is = record {
  kept = λ i c. (filter_contains (λ i. not (word_bit row i)) old i (subst (λ xs. Contains xs i) is c)).0;
  gone = λ i c. elim (cases_Bool (word_bit row i)) [
    | inl set' ↦ inr set'
    | inr none ↦ inl (subst (λ xs. Contains xs i) (sym is) (contains_filter (λ i. not (word_bit row i)) old i c (ap not none)))
  ];
}
