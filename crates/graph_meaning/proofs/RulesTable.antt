-- Whether a graph is accepted, by computing: where the test passes, the six rules hold.
use Rattle.std.proofs.Common.{◌≡◌, ℕ, zero, suc, ◌+◌, ◌-◌, ◌<◌, ◌≤◌, Bool, true, false, not, ◌&&◌, ◌||◌, inl, inr, List, [], ◌∷◌, length, refl, sym, ◌∙◌, ap, subst, arith}
use Rattle.std.specs.Prelude.{◌≢◌, Contains, map, Option, Some, None, ◌==◌, nat_lt, nat_le, option_and_then, option_map, slice_get}
use Rattle.std.specs.Option.{option_map_or}
use Rattle.std.specs.List.{list_any, list_all}
use Rattle.std.proofs.lemmas.Bool.{true≢false, eq-eqb, eqb-true, or_cases, and_parts, and_from, not-true, lt-ltb, ltb-true, leb-true}
use Rattle.std.proofs.lemmas.Option.{none-some, same_Some, slice_get_within}
use Rattle.std.proofs.lemmas.List.Elements.{Contains-append_left, Contains-append_right, Contains-append_cases}
use Rattle.index_spaces.specs.Space.{has_point, interval_has, interval_points, points, Meet}
use Rattle.basics.specs.Lists.{numbers_below}
use Rattle.graph_terms.specs.declared.verb.Access.{Access}
use Rattle.graph_terms.specs.declared.verb.Line.{Line}
use Rattle.graph_terms.specs.declared.verb.Verb.{Verb}
use Rattle.graph_terms.specs.declared.verb.Verb.TheVariants.{Acquire}
use Rattle.graph_terms.specs.Graph.{GraphValue, verb_at, line_passes, is_phase, is_acquire_of, is_release_of, never_comes, space_at}
use Rattle.graph_terms.specs.Edges.{edges}
use Rattle.graph_meaning.specs.Path.{HasPath}
use Rattle.graph_terms.specs.Access.{accesses, all_accesses, verb_accesses, call_accesses, behind_columns, in_format, modes_clash, AccessesConflict, Conflict}
use Rattle.graph_terms.specs.Reservations.{Acquires, Releases, both_shared, taken_by, freed_by, lock_at, acquire_at, is_lower}
use Rattle.graph_meaning.specs.Rules.{Section, modes_commute, Exempt, NoCycleAt, ReleasedAt, SectionAt, DescendsAt, stands_on_merges, ReleaseFaultAt, RaceAt, Everywhere, EverywhereTwice, FailsFirst, FailsFirstTwice, Accepted, IsRace}
use Rattle.graph_terms.proofs.Public.{release_of_is, acquire_is, release_is, passes_below}
use Rattle.basics.proofs.ListFacts.{contains_none, map_contains, contains_from, contains_below, passes_each, some_passes, passes_some}
use Rattle.graph_meaning.proofs.PathTable.{has_path, edges_below, range_by, path_is_bit, path_by_table, path_below, acyclic_by_table}

acquires_lock : (g : GraphValue) (q l : ℕ) → Acquires g q l → lock_at g q ≡ Some l
acquires_lock g q l h = ap (option_and_then taken_by) (acquire_is g q l h)

releases_acquire : (g : GraphValue) (r q : ℕ) → Releases g r q → acquire_at g r ≡ Some q
releases_acquire g r q h = ap (option_and_then freed_by) (release_is g r q h)

-- a point of a space is listed
pub point_listed : (s : List (ℕ × ℕ)) (p : ℕ) → has_point s p ≡ true → Contains (points s) p
point_listed [] p h = absurd (true≢false (sym h))
point_listed (i ∷ is) p h = elim (or_cases (interval_has i p) (has_point is p) h) [
  | inl a ↦ (let m = and_parts (nat_le i.0 p) (nat_le p i.1) a in
      let low : i.0 ≤ p = leb-true i.0 p m.0 in let high : p ≤ i.1 = leb-true p i.1 m.1 in
      Contains-append_left (interval_points i) (points is) p (subst (λ z. Contains (interval_points i) z) (let e : i.0 + (p - i.0) ≡ p = omega arith in e)
      (contains_from i.0 (i.1 + 1 - i.0) (p - i.0) (omega arith))))
  | inr b ↦ Contains-append_right (interval_points i) (points is) p (point_listed is p b)
]

abbrev pub meet : List (ℕ × ℕ) → List (ℕ × ℕ) → Bool
meet s t = list_any (has_point t) (points s)

meet_of : (s t : List (ℕ × ℕ)) → Meet s t → meet s t ≡ true
meet_of s t m = passes_some (has_point t) (points s) m.0 (point_listed s m.0 m.1) m.2

abbrev pub accesses_conflict : GraphValue → Access → Access → Bool
accesses_conflict g a b = (a.column == b.column) && (meet (space_at g a.space) (space_at g b.space) && modes_clash a.mode b.mode)

conflict_of : (g : GraphValue) (a b : Access) → AccessesConflict g a b → accesses_conflict g a b ≡ true
conflict_of g a b c = and_from (a.column == b.column) (meet (space_at g a.space) (space_at g b.space) && modes_clash a.mode b.mode) (eq-eqb a.column b.column c.column)
    (and_from (meet (space_at g a.space) (space_at g b.space)) (modes_clash a.mode b.mode) (meet_of (space_at g a.space) (space_at g b.space) c.meet) c.clash)

abbrev pub conflicts : GraphValue → ℕ → ℕ → Bool
conflicts g i j = list_any (λ a. list_any (accesses_conflict g a) (all_accesses g j)) (all_accesses g i)

conflicts_of : (g : GraphValue) (i j : ℕ) → Conflict g i j → conflicts g i j ≡ true
conflicts_of g i j c = passes_some (λ a. list_any (accesses_conflict g a) (all_accesses g j)) (all_accesses g i) c.one c.one_in
    (passes_some (accesses_conflict g c.one) (all_accesses g j) c.other c.other_in (conflict_of g c.one c.other c.conflict))

abbrev pub path_test : GraphValue → ℕ → ℕ → Bool
path_test g i j = has_path (edges g) (length g.lines) i j

-- whether line r releases q, and whether i lies between q and a release of it
abbrev pub release_after : GraphValue → ℕ → ℕ → ℕ → Bool
release_after g q i r = line_passes (is_release_of q) g r && path_test g i r

abbrev pub in_section : GraphValue → ℕ → ℕ → Bool
in_section g q i = path_test g q i && list_any (release_after g q i) (numbers_below (length g.lines))

abbrev pub implies : Bool → Bool → Bool
implies a b = not a || b

pub implied : (a b : Bool) → implies a b ≡ true → a ≡ true → b ≡ true
implied true b h e = h
implied false b h e = absurd (true≢false (sym e))

abbrev pub is_locked : Option ℕ → Bool
is_locked None = false
is_locked (Some l) = true

abbrev pub released_test : GraphValue → ℕ → Bool
released_test g i = implies (is_locked (lock_at g i)) (list_any (release_after g i i) (numbers_below (length g.lines)))

abbrev pub section_test_of : GraphValue → ℕ → ℕ → Option ℕ → Bool
section_test_of g i j None = true
section_test_of g i j (Some q) = implies (path_test g j i) (j == q || (path_test g j q || (path_test g q j && not (line_passes is_phase g j && never_comes g j))))

abbrev pub section_test : GraphValue → ℕ → ℕ → Bool
section_test g i j = section_test_of g i j (acquire_at g i)

abbrev pub descends_test : GraphValue → ℕ → ℕ → Bool
descends_test g i j = implies (in_section g i j) (is_lower (lock_at g i) (lock_at g j))

abbrev pub line_release_test : GraphValue → Line → Bool
line_release_test g l = implies (is_locked (freed_by l.verb)) (stands_on_merges g l.on)

abbrev pub release_fault_test : GraphValue → ℕ → Bool
release_fault_test g i = option_map_or (line_release_test g) (slice_get g.lines i) true

abbrev pub same_lock : Option ℕ → Option ℕ → Bool
same_lock (Some l) (Some k) = l == k
same_lock _ _ = false

abbrev pub pair_exempts : GraphValue → ℕ → ℕ → ℕ → ℕ → Bool
pair_exempts g i j q k = not (q == k) && (same_lock (lock_at g q) (lock_at g k) && (not (both_shared g q k) && (in_section g q i && in_section g k j)))

abbrev pub sums_alone : GraphValue → ℕ → ℕ → Bool
sums_alone g i j = list_all (λ (a : Access). list_all (λ (b : Access). implies (accesses_conflict g a b) (modes_commute a.mode b.mode)) (all_accesses g j)) (all_accesses g i)

abbrev pub exempt_test : GraphValue → ℕ → ℕ → Bool
exempt_test g i j = sums_alone g i j && list_any (λ q. list_any (pair_exempts g i j q) (numbers_below (length g.lines))) (numbers_below (length g.lines))

abbrev pub race_test : GraphValue → ℕ → ℕ → Bool
race_test g i j = implies (nat_lt i j && conflicts g i j) (path_test g i j || (path_test g j i || exempt_test g i j))

abbrev pub each_line : (ℕ → Bool) → GraphValue → Bool
each_line t g = list_all t (numbers_below (length g.lines))

abbrev pub each_pair : (ℕ → ℕ → Bool) → GraphValue → Bool
each_pair t g = list_all (λ i. list_all (t i) (numbers_below (length g.lines))) (numbers_below (length g.lines))

-- the six tests
pub record PassesTests (g : GraphValue) : Type 0 where
  pub range : edges_below (length g.lines) (edges g) ≡ true
  pub acyclic : each_line (λ i. not (path_test g i i)) g ≡ true
  pub released : each_line (released_test g) g ≡ true
  pub sections : each_pair (section_test g) g ≡ true
  pub descends : each_pair (descends_test g) g ≡ true
  pub release_faults : each_line (release_fault_test g) g ≡ true
  pub races : each_pair (race_test g) g ≡ true

-- all of them as one
abbrev pub all_tests : GraphValue → Bool
all_tests g = edges_below (length g.lines) (edges g) && (each_line (λ i. not (path_test g i i)) g && (each_line (released_test g) g && (each_pair (section_test g) g && (each_pair (descends_test g) g && (each_line (release_fault_test g) g && each_pair (race_test g) g)))))

module _ (g : GraphValue) (range : edges_below (length g.lines) (edges g) ≡ true) where
  path_true : (i j : ℕ) → HasPath g i j → path_test g i j ≡ true
  path_true i j p = path_is_bit (edges g) (length g.lines) (range_by (length g.lines) (edges g) range) p

  path_from : (i j : ℕ) → path_test g i j ≡ true → HasPath g i j
  path_from i j h = path_by_table (edges g) (length g.lines) i j h

  path_lines : (i j : ℕ) → HasPath g i j → (i < length g.lines) × (j < length g.lines)
  path_lines i j p = path_below (edges g) (length g.lines) (range_by (length g.lines) (edges g) range) p

  section_true : (l q i : ℕ) → Section g l q i → in_section g q i ≡ true
  section_true l q i s = and_from (path_test g q i) (list_any (release_after g q i) (numbers_below (length g.lines))) (path_true q i s.entered)
      (passes_some (release_after g q i) (numbers_below (length g.lines)) s.release (contains_below (length g.lines) s.release (path_lines i s.release s.left).1)
      (and_from (line_passes (is_release_of q) g s.release) (path_test g i s.release) s.releases (path_true i s.release s.left)))

  section_from : (l q i : ℕ) → Acquires g q l → in_section g q i ≡ true → Section g l q i
  section_from l q i a h =
      let m = and_parts (path_test g q i) (list_any (release_after g q i) (numbers_below (length g.lines))) h in
      let r = some_passes (release_after g q i) (numbers_below (length g.lines)) m.1 in
      let n = and_parts (line_passes (is_release_of q) g r.0) (path_test g i r.0) r.2 in
      record { acquires = a; entered = path_from q i m.0; release = r.0; releases = n.0; left = path_from i r.0 n.1 }

  pub released_holds : (i : ℕ) → (i < length g.lines → released_test g i ≡ true) → ReleasedAt g i
  released_holds i t l a =
      let test : released_test g i ≡ true = t (passes_below (is_acquire_of l) g i a) in
      let some = some_passes (release_after g i i) (numbers_below (length g.lines)) (implied (is_locked (lock_at g i)) _ test (ap is_locked (acquires_lock g i l a))) in
      let n = and_parts (line_passes (is_release_of i) g some.0) (path_test g i some.0) some.2 in
      (some.0, n.0, path_from i some.0 n.1)

  pub section_holds : (i j : ℕ) → (i < length g.lines → j < length g.lines → section_test g i j ≡ true) → SectionAt g i j
  section_holds i j t q r p =
      let lines = path_lines j i p in
      let test : section_test_of g i j (Some q) ≡ true = ap (section_test_of g i j) (sym (releases_acquire g i q r)) ∙ t lines.1 lines.0 in
      elim (or_cases (j == q) _ (implied (path_test g j i) _ test (path_true j i p))) [
        | inl e ↦ inl (eqb-true j q e)
        | inr rest ↦ elim (or_cases (path_test g j q) _ rest) [
          | inl a ↦ inr (inl (path_from j q a))
          | inr b ↦ (let m = and_parts (path_test g q j) (not (line_passes is_phase g j && never_comes g j)) b in
              inr (inr (path_from q j m.0, λ phase never. true≢false (sym (and_from (line_passes is_phase g j) (never_comes g j) phase never) ∙ not-true (line_passes is_phase g j && never_comes g j) m.1))))
        ]
      ]

  pub descends_holds : (i j : ℕ) → (i < length g.lines → j < length g.lines → descends_test g i j ≡ true) → DescendsAt g i j
  descends_holds i j t l k s a =
      let lines = path_lines i j s.entered in
      let test : descends_test g i j ≡ true = t lines.0 lines.1 in
      let lower : is_lower (lock_at g i) (lock_at g j) ≡ true = implied (in_section g i j) (is_lower (lock_at g i) (lock_at g j)) test (section_true l i j s) in
      let at : is_lower (Some l) (Some k) ≡ true = ap (λ o. is_lower o (Some k)) (sym (acquires_lock g i l s.acquires)) ∙ (ap (is_lower (lock_at g i)) (sym (acquires_lock g j k a)) ∙ lower) in
      ltb-true l k at

  pub release_fault_holds : (i : ℕ) → (i < length g.lines → release_fault_test g i ≡ true) → ReleaseFaultAt g i
  release_fault_holds i t q l at r =
      let test : line_release_test g l ≡ true = ap (λ (o : Option Line). option_map_or (line_release_test g) o true) (sym at) ∙ t (slice_get_within g.lines i l at) in
      implied (is_locked (freed_by l.verb)) (stands_on_merges g l.on) test (ap (λ v. is_locked (freed_by v)) (release_of_is q l.verb r))

  same_lock_from : (o p : Option ℕ) → same_lock o p ≡ true → (l : ℕ) × (o ≡ Some l) × (p ≡ Some l)
  same_lock_from (Some l) (Some k) h = (l, refl, ap Some (sym (eqb-true l k h)))
  same_lock_from (Some l) None h = absurd (true≢false (sym h))
  same_lock_from None (Some k) h = absurd (true≢false (sym h))
  same_lock_from None None h = absurd (true≢false (sym h))

  acquires_by : (l : ℕ) (o : Option Verb) → option_and_then taken_by o ≡ Some l → option_map_or (is_acquire_of l) o false ≡ true
  acquires_by l None h = absurd (none-some l h)
  acquires_by l (Some (Acquire k s)) h = eq-eqb k l (same_Some k l h)
  acquires_by l (Some v) h = absurd (none-some l h)

  exempt_from : (i j : ℕ) → exempt_test g i j ≡ true → Exempt g i j
  exempt_from i j h =
      let m = and_parts (sums_alone g i j) (list_any (λ q. list_any (pair_exempts g i j q) (numbers_below (length g.lines))) (numbers_below (length g.lines))) h in
      let q = some_passes (λ q. list_any (pair_exempts g i j q) (numbers_below (length g.lines))) (numbers_below (length g.lines)) m.1 in
      let k = some_passes (pair_exempts g i j q.0) (numbers_below (length g.lines)) q.2 in
      let a = and_parts (not (q.0 == k.0)) (same_lock (lock_at g q.0) (lock_at g k.0) && (not (both_shared g q.0 k.0) && (in_section g q.0 i && in_section g k.0 j))) k.2 in
      let b = and_parts (same_lock (lock_at g q.0) (lock_at g k.0)) (not (both_shared g q.0 k.0) && (in_section g q.0 i && in_section g k.0 j)) a.1 in
      let d = and_parts (not (both_shared g q.0 k.0)) (in_section g q.0 i && in_section g k.0 j) b.1 in
      let c = and_parts (in_section g q.0 i) (in_section g k.0 j) d.1 in
      let l = same_lock_from (lock_at g q.0) (lock_at g k.0) b.0 in
      record {
        commute = λ x y hx hy conflict. implied (accesses_conflict g x y) (modes_commute x.mode y.mode)
            (passes_each (λ (y : Access). implies (accesses_conflict g x y) (modes_commute x.mode y.mode)) (all_accesses g j)
            (passes_each (λ (x : Access). list_all (λ (y : Access). implies (accesses_conflict g x y) (modes_commute x.mode y.mode)) (all_accesses g j)) (all_accesses g i) m.0 x hx) y hy)
            (conflict_of g x y conflict);
        lock = l.0;
        one = q.0;
        other = k.0;
        different = λ e. true≢false (sym (eq-eqb q.0 k.0 e) ∙ not-true (q.0 == k.0) a.0);
        apart = not-true (both_shared g q.0 k.0) d.0;
        one_section = section_from l.0 q.0 i (acquires_by l.0 (verb_at g q.0) l.1) c.0;
        other_section = section_from l.0 k.0 j (acquires_by l.0 (verb_at g k.0) l.2) c.1;
      }

  access_line : (i : ℕ) (a : Access) → Contains (all_accesses g i) a → i < length g.lines
  access_line i a c = elim (Contains-append_cases (accesses g i) (map (behind_columns g) (option_map_or call_accesses (verb_at g i) [])) a c) [
    | inl one ↦ (let m = map_contains (in_format g.format) (option_map_or verb_accesses (verb_at g i) []) a one in below_of verb_accesses g.lines i m.0 m.1)
    | inr other ↦ (let m = map_contains (behind_columns g) (option_map_or call_accesses (verb_at g i) []) a other in below_of call_accesses g.lines i m.0 m.1)
  ]
    where
      below_of : (f : Verb → List Access) (ls : List Line) (i : ℕ) (a : Access) → Contains (option_map_or f (option_map (λ (l : Line). l.verb) (slice_get ls i)) []) a → i < length ls
      below_of f [] i a c = absurd (contains_none a c)
      below_of f (l ∷ ls) zero a c = omega arith
      below_of f (l ∷ ls) (suc i) a c = let b : i < length ls = below_of f ls i a c in omega arith

  pub race_holds : (i j : ℕ) → (i < length g.lines → j < length g.lines → race_test g i j ≡ true) → RaceAt g i j
  race_holds i j t below c =
      let test : race_test g i j ≡ true = t (access_line i c.one c.one_in) (access_line j c.other c.other_in) in
      elim (or_cases (path_test g i j) _ (implied (nat_lt i j && conflicts g i j) _ test (and_from (nat_lt i j) (conflicts g i j) (lt-ltb i j below) (conflicts_of g i j c)))) [
        | inl p ↦ inl (path_from i j p)
        | inr rest ↦ elim (or_cases (path_test g j i) (exempt_test g i j) rest) [
          | inl p ↦ inr (inl (path_from j i p))
          | inr x ↦ inr (inr (exempt_from i j x))
        ]
      ]

-- a test that all lines pass, or those below a number
line_at : (t : ℕ → Bool) (n i : ℕ) → list_all t (numbers_below n) ≡ true → i < n → t i ≡ true
line_at t n i h b = passes_each t (numbers_below n) h i (contains_below n i b)

pair_at : (t : ℕ → ℕ → Bool) (m n i j : ℕ) → list_all (λ k. list_all (t k) (numbers_below n)) (numbers_below m) ≡ true → i < m → j < n → t i j ≡ true
pair_at t m n i j h a b = line_at (t i) n j (line_at (λ k. list_all (t k) (numbers_below n)) m i h a) b

pub accepted_by_tests : (g : GraphValue) → PassesTests g → Accepted g
accepted_by_tests g t =
    let n : ℕ = length g.lines in
    record {
      acyclic = acyclic_by_table (edges g) n t.range t.acyclic;
      released = λ i. released_holds g t.range i (λ b. line_at (released_test g) n i t.released b);
      sections = λ i j. section_holds g t.range i j (λ a b. pair_at (section_test g) n n i j t.sections a b);
      descends = λ i j. descends_holds g t.range i j (λ a b. pair_at (descends_test g) n n i j t.descends a b);
      release_faults = λ i. release_fault_holds g t.range i (λ b. line_at (release_fault_test g) n i t.release_faults b);
      races = λ i j. race_holds g t.range i j (λ a b. pair_at (race_test g) n n i j t.races a b);
    }

pub accepted_by_computing : (g : GraphValue) → all_tests g ≡ true → Accepted g
accepted_by_computing g h =
    let a = and_parts (edges_below (length g.lines) (edges g)) _ h in
    let b = and_parts (each_line (λ i. not (path_test g i i)) g) _ a.1 in
    let c = and_parts (each_line (released_test g) g) _ b.1 in
    let d = and_parts (each_pair (section_test g) g) _ c.1 in
    let e = and_parts (each_pair (descends_test g) g) _ d.1 in
    let f = and_parts (each_line (release_fault_test g) g) (each_pair (race_test g) g) e.1 in
    accepted_by_tests g (record { range = a.0; acyclic = b.0; released = c.0; sections = d.0; descends = e.0; release_faults = f.0; races = f.1 })

-- the rules before the one that fails, by their tests
pub acyclic_by_tests : (g : GraphValue) → edges_below (length g.lines) (edges g) ≡ true → each_line (λ i. not (path_test g i i)) g ≡ true → Everywhere (NoCycleAt g)
acyclic_by_tests g range t = acyclic_by_table (edges g) (length g.lines) range t

pub released_by_tests : (g : GraphValue) → edges_below (length g.lines) (edges g) ≡ true → each_line (released_test g) g ≡ true → Everywhere (ReleasedAt g)
released_by_tests g range t i = released_holds g range i (λ b. line_at (released_test g) (length g.lines) i t b)

pub sections_by_tests : (g : GraphValue) → edges_below (length g.lines) (edges g) ≡ true → each_pair (section_test g) g ≡ true → EverywhereTwice (SectionAt g)
sections_by_tests g range t i j = section_holds g range i j (λ a b. pair_at (section_test g) (length g.lines) (length g.lines) i j t a b)

pub descends_by_tests : (g : GraphValue) → edges_below (length g.lines) (edges g) ≡ true → each_pair (descends_test g) g ≡ true → EverywhereTwice (DescendsAt g)
descends_by_tests g range t i j = descends_holds g range i j (λ a b. pair_at (descends_test g) (length g.lines) (length g.lines) i j t a b)

pub release_faults_by_tests : (g : GraphValue) → edges_below (length g.lines) (edges g) ≡ true → each_line (release_fault_test g) g ≡ true → Everywhere (ReleaseFaultAt g)
release_faults_by_tests g range t i = release_fault_holds g range i (λ b. line_at (release_fault_test g) (length g.lines) i t b)

-- a rule that fails at these numbers first, by its tests at those before them
pub fails_first : (R : ℕ → Type 0) (t : ℕ → Bool) (n : ℕ) → ((i : ℕ) → (i < n → t i ≡ true) → R i) → (i : ℕ) → (R i → ⊥) → list_all t (numbers_below i) ≡ true → FailsFirst R i
fails_first R t n holds i here before = record { here = here; before = λ k b. holds k (λ a. line_at t i k before b) }

pub fails_first_twice : (R : ℕ → ℕ → Type 0) (t : ℕ → ℕ → Bool) (n : ℕ) → ((i j : ℕ) → (i < n → j < n → t i j ≡ true) → R i j) → (i j : ℕ) → (R i j → ⊥) →
    list_all (λ k. list_all (t k) (numbers_below n)) (numbers_below i) ≡ true → list_all (t i) (numbers_below j) ≡ true → FailsFirstTwice R i j
fails_first_twice R t n holds i j here before beside = record {
  here = here;
  before = λ k m b. holds k m (λ a c. pair_at t i n k m before b c);
  beside = λ m b. holds i m (λ a c. line_at (t i) j m beside b);
}

-- a race at these lines, where the other rules hold
pub race_is : (g : GraphValue) (i j : ℕ) → edges_below (length g.lines) (edges g) ≡ true → each_line (λ i. not (path_test g i i)) g ≡ true → each_line (released_test g) g ≡ true → each_pair (section_test g) g ≡ true →
    each_pair (descends_test g) g ≡ true → each_line (release_fault_test g) g ≡ true → (RaceAt g i j → ⊥) →
    list_all (λ k. list_all (race_test g k) (numbers_below (length g.lines))) (numbers_below i) ≡ true → list_all (race_test g i) (numbers_below j) ≡ true → IsRace g i j
race_is g i j range acyclic released sections descends release_faults here before beside = (
  acyclic_by_tests g range acyclic,
  released_by_tests g range released,
  sections_by_tests g range sections,
  descends_by_tests g range descends,
  release_faults_by_tests g range release_faults,
  fails_first_twice (RaceAt g) (race_test g) (length g.lines) (race_holds g range) i j here before beside,
)

-- an access conflicts with its like over a space that has the point 0, and so do lines that both have it
pub meets_itself : (g : GraphValue) (a : Access) → has_point (space_at g a.space) 0 ≡ true → modes_clash a.mode a.mode ≡ true → AccessesConflict g a a
meets_itself g a here clash = record { column = refl; meet = (0, here, here); clash = clash }

pub conflict_by : (g : GraphValue) (i j : ℕ) (a : Access) → i ≢ j → Contains (all_accesses g i) a → Contains (all_accesses g j) a → AccessesConflict g a a → Conflict g i j
conflict_by g i j a different one_in other_in conflict = record { different = different; one = a; other = a; one_in = one_in; other_in = other_in; conflict = conflict }
