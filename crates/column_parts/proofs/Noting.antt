-- The spaces over which columns are accessed, line by line.
use Rattle.std.proofs.Common.{◌≡◌, ℕ, ◌+◌, ◌<◌, ◌≤◌, Bool, true, false, ◌⊎◌, inl, inr, List, [], ◌∷◌, ◌++◌, length, map, take, get_or, refl, sym, ◌∙◌, ap, subst, arith}
use Rattle.std.specs.Prelude.{Option, Some, None, Contains, slice_get, slice_set, option_map, ◌↔◌, Vec}
use Rattle.std.specs.Global.{Global}
use Rattle.std.specs.Option.{option_map_or}
use Rattle.std.proofs.lemmas.Bool.{cases_lt, cases_eq, both_ways}
use Rattle.std.proofs.lemmas.Option.{none-some, same_Some, slice_get-get_or, slice_get_past}
use Rattle.std.proofs.lemmas.List.{length-set, take_more, take_all, get_or-set_same, get_or-set_other, get_or-replicate, get_or_past}
use Rattle.std.proofs.lemmas.List.Elements.{Contains-append_left, Contains-push, Contains-push_cases}
use Rattle.basics.proofs.ListFacts.{got_contains, contains_none, set_get, set_get_other}
use Rattle.basics.proofs.ListParts.{got_cases}
use Rattle.basics.proofs.TestedLists.{within}
use Rattle.graph_terms.specs.declared.verb.Access.{Access}
use Rattle.graph_terms.specs.declared.verb.Line.{Line}
use Rattle.graph_terms.specs.Graph.{GraphValue, columns}
use Rattle.graph_terms.specs.Access.{accesses, in_format, verb_accesses}
use Rattle.column_pieces.specs.Pieces.{IsAccessed}
use Rattle.column_parts.specs.Accessed.{AreAccessed, IsNoted, AreNoted, NotesLine, NotesPlace, Keeps, again, once}

abbrev Lists : Type 0
Lists = List (Vec ℕ Global)

-- one more list without numbers
pub none_more : (lists : Lists) (v : Vec ℕ Global) → v.items ≡ [] → ((c : ℕ) (x : Vec ℕ Global) → slice_get lists c ≡ Some x → x.items ≡ []) → (c : ℕ) (x : Vec ℕ Global) → slice_get (lists ++ v ∷ []) c ≡ Some x → x.items ≡ []
none_more lists v none before c x at = elim (got_cases lists v c x at) [
  | inl early ↦ before c x early.1
  | inr last ↦ subst (λ (y : Vec ℕ Global). y.items ≡ []) last.1 none
]

pub none_noted : (g : GraphValue) (lists : Lists) → length lists ≡ length (columns g) → ((c : ℕ) (v : Vec ℕ Global) → slice_get lists c ≡ Some v → v.items ≡ []) → AreNoted g lists 0
none_noted g lists count none = record {
  count = count;
  each = λ c s k. absurd (contains_none s (subst (λ xs. Contains xs s) (none c k.0 k.1) k.2));
  all = λ i below. absurd (omega (arith, below));
}

-- A PLACE
module _ (g : GraphValue) (lists : Lists) (i k : ℕ) (a : Access) (got : slice_get (accesses g i) k ≡ Some a) (old new : Vec ℕ Global) (at : slice_get lists a.column ≡ Some old)
    (puts : (t : ℕ) → Contains new.items t ↔ (Contains old.items t ⊎ (a.space ≡ t))) where
  abbrev after : Lists
  after = slice_set lists a.column new

  here : slice_get after a.column ≡ Some new
  here = set_get lists a.column new (within lists a.column old at)

  each_after : (c s : ℕ) → IsNoted after c s → IsNoted lists c s ⊎ IsAccessed g c s
  each_after c s n = elim (cases_eq c a.column) [
    | inl e ↦ (
        let is_new : new ≡ n.0 = same_Some new n.0 (sym here ∙ (ap (slice_get after) (sym e) ∙ n.1)) in
        elim ((puts s).0 (subst (λ (v : Vec ℕ Global). Contains v.items s) (sym is_new) n.2)) [
          | inl before ↦ inl (old, ap (slice_get lists) e ∙ at, before)
          | inr own ↦ inr (i, a, got_contains (accesses g i) k a got, sym e, own)
        ])
    | inr other ↦ inl (n.0, sym (set_get_other lists a.column c new other) ∙ n.1, n.2)
  ]

  kept_after : (c s : ℕ) → IsNoted lists c s → IsNoted after c s
  kept_after c s n = elim (cases_eq c a.column) [
    | inl e ↦ (
        let is_old : old ≡ n.0 = same_Some old n.0 (sym at ∙ (ap (slice_get lists) (sym e) ∙ n.1)) in
        (new, ap (slice_get after) e ∙ here, (puts s).1 (inl (subst (λ (v : Vec ℕ Global). Contains v.items s) (sym is_old) n.2))))
    | inr other ↦ (n.0, set_get_other lists a.column c new other ∙ n.1, n.2)
  ]

  pub place_noted : NotesPlace g lists after i k
  place_noted = record {
    count = length-set lists a.column new;
    each = each_after;
    kept = kept_after;
    noted = λ b got_b. subst (λ (x : Access). IsNoted after x.column x.space) (same_Some a b (sym got ∙ got_b)) (new, here, (puts a.space).1 (inr refl));
  }

pub no_place : (g : GraphValue) (lists : Lists) (i k : ℕ) → slice_get (accesses g i) k ≡ None → NotesPlace g lists lists i k
no_place g lists i k none = record {
  count = refl;
  each = λ c s n. inl n;
  kept = λ c s n. n;
  noted = λ a got. absurd (none-some a (sym none ∙ got));
}

-- A LINE
-- the first places of a line are noted
pub record AreNotedTo (g : GraphValue) (old new : Lists) (i k : ℕ) : Type 0 where
  pub count : length new ≡ length old
  pub each : (c s : ℕ) → IsNoted new c s → IsNoted old c s ⊎ IsAccessed g c s
  pub kept : (c s : ℕ) → IsNoted old c s → IsNoted new c s
  pub noted : (j : ℕ) (a : Access) → j < k → slice_get (accesses g i) j ≡ Some a → IsNoted new a.column a.space

pub no_places : (g : GraphValue) (lists : Lists) (i : ℕ) → AreNotedTo g lists lists i 0
no_places g lists i = record {
  count = refl;
  each = λ c s n. inl n;
  kept = λ c s n. n;
  noted = λ j a below. absurd (omega (arith, below));
}

pub one_place : (g : GraphValue) (old mid new : Lists) (i k : ℕ) → AreNotedTo g old mid i k → NotesPlace g mid new i k → AreNotedTo g old new i (k + 1)
one_place g old mid new i k are place = record {
  count = place.count ∙ are.count;
  each = λ c s n. elim (place.each c s n) [
    | inl before ↦ are.each c s before
    | inr own ↦ inr own
  ];
  kept = λ c s n. place.kept c s (are.kept c s n);
  noted = λ j a below got. by_place j a got below (cases_lt j k);
}
  where
    by_place : (j : ℕ) (a : Access) → slice_get (accesses g i) j ≡ Some a → j < k + 1 → (j < k) ⊎ (k ≤ j) → IsNoted new a.column a.space
    by_place j a got below (inl early) = place.kept a.column a.space (are.noted j a early got)
    by_place j a got below (inr late) = place.noted a (ap (slice_get (accesses g i)) (let e : k ≡ j = omega (arith, below, late) in e) ∙ got)

pub all_places : (g : GraphValue) (old new : Lists) (i k : ℕ) → length (accesses g i) ≤ 3 → 3 ≤ k → AreNotedTo g old new i k → NotesLine g old new i
all_places g old new i k few past are = record {
  count = are.count;
  each = are.each;
  kept = are.kept;
  noted = λ a c. (let low = c.1 in are.noted c.0 a (omega (arith, low, few, past)) (slice_get-get_or (accesses g i) c.0 a c.1 ∙ ap (λ x. Some x) c.2));
}

pub one_line : (g : GraphValue) (old new : Lists) (n : ℕ) → AreNoted g old n → NotesLine g old new n → AreNoted g new (n + 1)
one_line g old new n are line = record {
  count = line.count ∙ are.count;
  each = λ c s k. elim (line.each c s k) [
    | inl before ↦ are.each c s before
    | inr own ↦ own
  ];
  all = λ i below a k. by_place i below a k (cases_lt i n);
}
  where
    by_place : (i : ℕ) → i < n + 1 → (a : Access) → Contains (accesses g i) a → (i < n) ⊎ (n ≤ i) → IsNoted new a.column a.space
    by_place i below a k (inl early) = line.kept a.column a.space (are.all i early a k)
    by_place i below a k (inr late) = line.noted a (subst (λ j. Contains (accesses g j) a) (let e : i ≡ n = omega (arith, below, late) in e) k)

-- ALL LINES
-- a line that has an access is one of the graph
pub line_known : (g : GraphValue) (i : ℕ) (a : Access) → Contains (accesses g i) a → i < length g.lines
line_known g i a k = by_place (cases_lt i (length g.lines))
  where
    by_place : (i < length g.lines) ⊎ (length g.lines ≤ i) → i < length g.lines
    by_place (inl below) = below
    by_place (inr past) = absurd (contains_none a (subst (λ (o : Option Line). Contains (map (in_format g.format) (option_map_or verb_accesses (option_map (λ (l : Line). l.verb) o) [])) a) (slice_get_past g.lines i past) k))

pub are_accessed : (g : GraphValue) (lists : Lists) (c : ℕ) (v : Vec ℕ Global) → AreNoted g lists (length g.lines) → slice_get lists c ≡ Some v → AreAccessed g c v.items
are_accessed g lists c v are at = record {
  each = λ s k. are.each c s (v, at, k);
  all = λ s a.
      let n = are.all a.0 (line_known g a.0 a.1 a.2) a.1 a.2 in
      let is : n.0 ≡ v = same_Some n.0 v (sym n.1 ∙ (ap (slice_get lists) a.3 ∙ at)) in
      subst (Contains v.items) a.4 (subst (λ (w : Vec ℕ Global). Contains w.items a.1.space) is n.2);
}

-- EACH ONCE
pub record AreKept (numbers : List ℕ) (k spaces : ℕ) (distinct : List ℕ) (seen : List Bool) : Type 0 where
  pub count : length seen ≡ spaces
  pub only : (s : ℕ) → Contains distinct s → Contains numbers s
  pub all : (s : ℕ) → Contains (take k numbers) s → Contains distinct s
  pub marked : (s : ℕ) → get_or seen s false ≡ true → Contains distinct s

pub none_kept : (numbers : List ℕ) (spaces : ℕ) (seen : List Bool) → length seen ≡ spaces → ((i : ℕ) → get_or seen i false ≡ false) → AreKept numbers 0 spaces [] seen
none_kept numbers spaces seen count none = record {
  count = count;
  only = λ s k. absurd (contains_none s k);
  all = λ s k. absurd (contains_none s k);
  marked = λ s h. absurd (both_ways (get_or seen s false) (none s) h);
}

pub one_kept : (numbers : List ℕ) (k spaces : ℕ) (old new : List ℕ) (seen seen_new : List Bool) → k < length numbers → AreKept numbers k spaces old seen → Keeps (get_or numbers k 0) old seen new seen_new → Contains numbers (get_or numbers k 0) → get_or numbers k 0 < spaces → AreKept numbers (k + 1) spaces new seen_new
one_kept numbers k spaces old new seen seen_new below are (again h e f) own low = record {
  count = ap length f ∙ are.count;
  only = λ s c. are.only s (subst (λ xs. Contains xs s) e c);
  all = λ s c. subst (λ xs. Contains xs s) (sym e) (by_place s (Contains-push_cases (take k numbers) (get_or numbers k 0) s (subst (λ xs. Contains xs s) (take_more numbers k 0 below) c)));
  marked = λ s m. subst (λ xs. Contains xs s) (sym e) (are.marked s (subst (λ xs. get_or xs s false ≡ true) f m));
}
  where
    by_place : (s : ℕ) → Contains (take k numbers) s ⊎ (get_or numbers k 0 ≡ s) → Contains old s
    by_place s (inl early) = are.all s early
    by_place s (inr same) = subst (Contains old) same (are.marked (get_or numbers k 0) h)
one_kept numbers k spaces old new seen seen_new below are (once h e f) own low = record {
  count = ap length f ∙ (length-set seen (get_or numbers k 0) true ∙ are.count);
  only = λ s c. elim (Contains-push_cases old (get_or numbers k 0) s (subst (λ xs. Contains xs s) e c)) [
    | inl early ↦ are.only s early
    | inr same ↦ subst (Contains numbers) same own
  ];
  all = λ s c. subst (λ xs. Contains xs s) (sym e) (by_place s (Contains-push_cases (take k numbers) (get_or numbers k 0) s (subst (λ xs. Contains xs s) (take_more numbers k 0 below) c)));
  marked = λ s m. subst (λ xs. Contains xs s) (sym e) (elim (cases_eq s (get_or numbers k 0)) [
    | inl is ↦ subst (Contains (old ++ get_or numbers k 0 ∷ [])) (sym is) (Contains-push old (get_or numbers k 0))
    | inr other ↦ Contains-append_left old (get_or numbers k 0 ∷ []) s (are.marked s (sym (get_or-set_other seen (get_or numbers k 0) s true false other) ∙ subst (λ xs. get_or xs s false ≡ true) f m))
  ]);
}
  where
    by_place : (s : ℕ) → Contains (take k numbers) s ⊎ (get_or numbers k 0 ≡ s) → Contains (old ++ get_or numbers k 0 ∷ []) s
    by_place s (inl early) = Contains-append_left old (get_or numbers k 0 ∷ []) s (are.all s early)
    by_place s (inr same) = subst (Contains (old ++ get_or numbers k 0 ∷ [])) same (Contains-push old (get_or numbers k 0))

pub all_kept : (numbers : List ℕ) (k spaces : ℕ) (distinct : List ℕ) (seen : List Bool) → length numbers ≤ k → AreKept numbers k spaces distinct seen → (s : ℕ) → Contains distinct s ↔ Contains numbers s
all_kept numbers k spaces distinct seen past are s = (are.only s, λ c. are.all s (subst (λ xs. Contains xs s) (sym (take_all k numbers past)) c))
