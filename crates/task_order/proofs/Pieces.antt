-- A task depends on another exactly where both use a piece that one of them may change.
use Rattle.std.proofs.Common.{◌≡◌, ℕ, ◌+◌, ◌<◌, ◌≤◌, true, ◌&&◌, ◌||◌, inl, inr, List, arith}
use Rattle.std.specs.Prelude.{Contains, nat_le, nat_lt, IsTrue}
use Rattle.std.specs.List.{list_any}
use Rattle.std.proofs.lemmas.Bool.{and_parts, and_from, or_cases, or_left, or_right, cases_lt, ltb-true, lt-ltb, leb-true, le-leb}
use Rattle.basics.proofs.ListFacts.{some_passes, passes_some}
use Rattle.task_order.specs.declared.access.Access.{Access}
use Rattle.task_order.specs.Tasks.{covers, uses, changes, accesses_of, meets, depends, ConflictAt}
use Rattle.task_order.specs.Laws.{ChangedIsUsed, DependsByPieces}

-- an access of piece p
record Covers (p : ℕ) (a : Access) : Type 0 where
  first : a.first ≤ p
  last : p < a.first + a.count

covered : (p : ℕ) (a : Access) → covers p a ≡ true → Covers p a
covered p a e =
    let parts = and_parts (nat_le a.first p) (nat_lt p (a.first + a.count)) e in
    record { first = leb-true a.first p parts.0; last = ltb-true p (a.first + a.count) parts.1 }

covers_by : (p : ℕ) (a : Access) → Covers p a → covers p a ≡ true
covers_by p a c = and_from (nat_le a.first p) (nat_lt p (a.first + a.count)) (le-leb a.first p c.first) (lt-ltb p (a.first + a.count) c.last)

-- TWO ACCESSES
meets_by : (p : ℕ) (a b : Access) → (a.writes || b.writes) ≡ true → Covers p a → Covers p b → meets a b ≡ true
meets_by p a b w ca cb =
    let a0 : a.first ≤ p = ca.first in
    let a1 : p < a.first + a.count = ca.last in
    let b0 : b.first ≤ p = cb.first in
    let b1 : p < b.first + b.count = cb.last in
    and_from (a.writes || b.writes) ((nat_lt 0 a.count && nat_lt 0 b.count) && (nat_lt a.first (b.first + b.count) && nat_lt b.first (a.first + a.count))) w
    (and_from (nat_lt 0 a.count && nat_lt 0 b.count) (nat_lt a.first (b.first + b.count) && nat_lt b.first (a.first + a.count))
    (and_from (nat_lt 0 a.count) (nat_lt 0 b.count) (lt-ltb 0 a.count (omega arith)) (lt-ltb 0 b.count (omega arith)))
    (and_from (nat_lt a.first (b.first + b.count)) (nat_lt b.first (a.first + a.count)) (lt-ltb a.first (b.first + b.count) (omega arith)) (lt-ltb b.first (a.first + a.count) (omega arith))))

-- the greater of their first pieces is common to them
common_piece : (a b : Access) → meets a b ≡ true → ((a.writes || b.writes) ≡ true) × ((p : ℕ) × Covers p a × Covers p b)
common_piece a b e =
    let parts = and_parts (a.writes || b.writes) ((nat_lt 0 a.count && nat_lt 0 b.count) && (nat_lt a.first (b.first + b.count) && nat_lt b.first (a.first + a.count))) e in
    let inner = and_parts (nat_lt 0 a.count && nat_lt 0 b.count) (nat_lt a.first (b.first + b.count) && nat_lt b.first (a.first + a.count)) parts.1 in
    let some = and_parts (nat_lt 0 a.count) (nat_lt 0 b.count) inner.0 in
    let near = and_parts (nat_lt a.first (b.first + b.count)) (nat_lt b.first (a.first + a.count)) inner.1 in
    let one : 0 < a.count = ltb-true 0 a.count some.0 in
    let other : 0 < b.count = ltb-true 0 b.count some.1 in
    let below : a.first < b.first + b.count = ltb-true a.first (b.first + b.count) near.0 in
    let above : b.first < a.first + a.count = ltb-true b.first (a.first + a.count) near.1 in (
      parts.0,
      elim (cases_lt a.first b.first) [
        | inl less ↦ (b.first, record { first = omega arith; last = omega arith }, record { first = omega arith; last = omega arith })
        | inr more ↦ (a.first, record { first = omega arith; last = omega arith }, record { first = omega arith; last = omega arith })
      ],
    )

-- TASKS
used_by : (xs : List Access) (p : ℕ) → uses xs p ≡ true → (a : Access) × Contains xs a × Covers p a
used_by xs p e = let s = some_passes (covers p) xs e in (s.0, s.1, covered p s.0 s.2)

changed_by : (xs : List Access) (p : ℕ) → changes xs p ≡ true → (a : Access) × Contains xs a × Covers p a × (a.writes ≡ true)
changed_by xs p e =
    let s = some_passes (λ (a : Access). a.writes && covers p a) xs e in
    let parts = and_parts s.0.writes (covers p s.0) s.2 in
    (s.0, s.1, covered p s.0 parts.1, parts.0)

is_used : (xs : List Access) (p : ℕ) (a : Access) → Contains xs a → Covers p a → uses xs p ≡ true
is_used xs p a listed c = passes_some (covers p) xs a listed (covers_by p a c)

is_changed : (xs : List Access) (p : ℕ) (a : Access) → Contains xs a → Covers p a → a.writes ≡ true → changes xs p ≡ true
is_changed xs p a listed c w = passes_some (λ (b : Access). b.writes && covers p b) xs a listed (and_from a.writes (covers p a) w (covers_by p a c))

-- a piece that a task may change it uses
pub changed_is_used : ChangedIsUsed
changed_is_used xs p e = let s = changed_by xs p e in is_used xs p s.0 s.1 s.2

pub depends_by_pieces : DependsByPieces
depends_by_pieces tasks i j = (to, from)
  where
    to : IsTrue (depends tasks i j) → (i < j) × ((p : ℕ) × ConflictAt tasks i j p)
    to e =
        let parts = and_parts (nat_lt i j) (list_any (λ a. list_any (meets a) (accesses_of tasks j)) (accesses_of tasks i)) e in
        let s = some_passes (λ (a : Access). list_any (meets a) (accesses_of tasks j)) (accesses_of tasks i) parts.1 in
        let t = some_passes (meets s.0) (accesses_of tasks j) s.2 in
        let c = common_piece s.0 t.0 t.2 in
        let p = c.1.0 in (
          ltb-true i j parts.0,
          (
            p,
            record {
              one = is_used (accesses_of tasks i) p s.0 s.1 c.1.1;
              other = is_used (accesses_of tasks j) p t.0 t.1 c.1.2;
              change = elim (or_cases s.0.writes t.0.writes c.0) [
                | inl w ↦ inl (is_changed (accesses_of tasks i) p s.0 s.1 c.1.1 w)
                | inr w ↦ inr (is_changed (accesses_of tasks j) p t.0 t.1 c.1.2 w)
              ];
            },
          ),
        )

    listed : (p : ℕ) (a b : Access) → i < j → Contains (accesses_of tasks i) a → Contains (accesses_of tasks j) b → Covers p a → Covers p b → (a.writes || b.writes) ≡ true → IsTrue (depends tasks i j)
    listed p a b below la lb ca cb w = and_from (nat_lt i j) (list_any (λ a. list_any (meets a) (accesses_of tasks j)) (accesses_of tasks i)) (lt-ltb i j below)
        (passes_some (λ (a : Access). list_any (meets a) (accesses_of tasks j)) (accesses_of tasks i) a la (passes_some (meets a) (accesses_of tasks j) b lb (meets_by p a b w ca cb)))

    from : (i < j) × ((p : ℕ) × ConflictAt tasks i j p) → IsTrue (depends tasks i j)
    from (below, (p, c)) = elim c.change [
      | inl w ↦ (
          let a = changed_by (accesses_of tasks i) p w in
          let b = used_by (accesses_of tasks j) p c.other in
          listed p a.0 b.0 below a.1 b.1 a.2 b.2 (or_left a.0.writes b.0.writes a.3))
      | inr w ↦ (
          let a = used_by (accesses_of tasks i) p c.one in
          let b = changed_by (accesses_of tasks j) p w in
          listed p a.0 b.0 below a.1 b.1 a.2 b.2 (or_right a.0.writes b.0.writes b.3))
    ]

-- as two halves
pub depends_at : (tasks : List (List Access)) (i j p : ℕ) → i < j → ConflictAt tasks i j p → IsTrue (depends tasks i j)
depends_at tasks i j p below c = (depends_by_pieces tasks i j).1 (below, (p, c))

pub dependence_at : (tasks : List (List Access)) (i j : ℕ) → IsTrue (depends tasks i j) → (i < j) × ((p : ℕ) × ConflictAt tasks i j p)
dependence_at tasks i j d = (depends_by_pieces tasks i j).0 d
