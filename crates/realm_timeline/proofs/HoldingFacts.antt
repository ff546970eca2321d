-- Which columns a line holds, access by access.
use Rattle.std.proofs.Common.{◌≡◌, ℕ, ◌+◌, ◌<◌, ◌≤◌, Bool, true, false, cond, not, ◌&&◌, ◌||◌, inl, inr, List, [], ◌∷◌, ◌++◌, length, take, refl, sym, ◌∙◌, ap, subst}
use Rattle.std.specs.Prelude.{◌==◌, Contains, Option, Some, None, MatchOption, slice_get}
use Rattle.std.specs.List.{list_any}
use Rattle.std.proofs.lemmas.Bool.{true≢false, eq-eqb, eqb-true, or_cases, and_parts, and_from, or_right}
use Rattle.std.proofs.lemmas.List.{take_more, take_all}
use Rattle.std.proofs.lemmas.List.Elements.{Contains-push_cases}
use Rattle.std.proofs.lemmas.List.Folds.{list_any_more}
use Rattle.std.proofs.lemmas.Option.{slice_get_within, get_or_from_slice_get}
use Rattle.basics.proofs.ListFacts.{some_passes, passes_some}
use Rattle.graph_terms.specs.declared.verb.Access.{Access}
use Rattle.graph_terms.specs.Graph.{GraphValue}
use Rattle.graph_terms.specs.Access.{accesses, is_read}
use Rattle.realm_timeline.specs.Queue.{QueueValue, queue_at, has_line, IsUnheld, ChangesQueue, WithHolder, WithoutHolder}
use Rattle.realm_timeline.specs.State.{queue_of, changing_queue, reading_queue, access_queue, access_bars, joins, uses_bar, bars, held_by}
use Rattle.realm_timeline.specs.Steps.{Adds, Removes}
use Rattle.realm_timeline.proofs.Barring.{adds_none, adds_one, adds_both, adds_as, removes_none, removes_one, removes_both, removes_as}
use Rattle.realm_timeline.proofs.Hindering.{joined_column}

-- the queues that the first accesses of a line bar
abbrev pub first_bar : GraphValue → ℕ → ℕ → ℕ → Bool
first_bar g line k q = list_any (access_bars g q) (take k (accesses g line))

first_more : (g : GraphValue) (line k : ℕ) (a : Access) → slice_get (accesses g line) k ≡ Some a → (q : ℕ) → (first_bar g line k q || access_bars g q a) ≡ first_bar g line (k + 1) q
first_more g line k a at q =
    let inside : k < length (accesses g line) = slice_get_within (accesses g line) k a at in
    sym (list_any_more (access_bars g q) (accesses g line) k a inside ∙ ap (λ x. first_bar g line k q || access_bars g q x) (get_or_from_slice_get (accesses g line) k a a at))

first_whole : (g : GraphValue) (by_columns : Bool) (line k : ℕ) → by_columns ≡ true → length (accesses g line) ≤ k → (q : ℕ) → first_bar g line k q ≡ uses_bar g by_columns line q
first_whole g by_columns line k on all q = ap (list_any (access_bars g q)) (take_all k (accesses g line) all) ∙ ap (λ b. b && list_any (access_bars g q) (accesses g line)) (sym on)

none_used : (g : GraphValue) (by_columns : Bool) (line : ℕ) → by_columns ≡ false → (q : ℕ) → uses_bar g by_columns line q ≡ false
none_used g by_columns line off q = ap (λ b. b && list_any (access_bars g q) (accesses g line)) off

-- what a use holds
reading_bars : (g : GraphValue) (a : Access) (q : ℕ) → is_read a.mode ≡ true → (q == changing_queue g a.column) ≡ access_bars g q a
reading_bars g a q reads = or_none (q == changing_queue g a.column) ∙ ap (λ r. (q == changing_queue g a.column) || (not r && (q == reading_queue g a.column))) (sym reads)
  where
    or_none : (b : Bool) → b ≡ (b || false)
    or_none true = refl
    or_none false = refl

changing_bars : (g : GraphValue) (a : Access) (q : ℕ) → is_read a.mode ≡ false → ((q == changing_queue g a.column) || (q == reading_queue g a.column)) ≡ access_bars g q a
changing_bars g a q changes = ap (λ r. (q == changing_queue g a.column) || (not r && (q == reading_queue g a.column))) (sym changes)

pub adds_reading : (g : GraphValue) (a : Access) (old new : List QueueValue) (k : ℕ) → is_read a.mode ≡ true → ChangesQueue old new (changing_queue g a.column) (WithHolder k) → Adds (λ q. access_bars g q a) old new k
adds_reading g a old new k reads c = adds_as (λ q. q == changing_queue g a.column) (λ q. access_bars g q a) old new k (λ q. reading_bars g a q reads) (adds_one old new (changing_queue g a.column) k c)

pub adds_changing : (g : GraphValue) (a : Access) (old middle new : List QueueValue) (k : ℕ) → is_read a.mode ≡ false → ChangesQueue old middle (changing_queue g a.column) (WithHolder k) → ChangesQueue middle new (reading_queue g a.column) (WithHolder k) →
    Adds (λ q. access_bars g q a) old new k
adds_changing g a old middle new k changes c d = adds_as (λ q. (q == changing_queue g a.column) || (q == reading_queue g a.column)) (λ q. access_bars g q a) old new k (λ q. changing_bars g a q changes)
    (adds_both (λ q. q == changing_queue g a.column) (λ q. q == reading_queue g a.column) old middle new k (adds_one old middle (changing_queue g a.column) k c) (adds_one middle new (reading_queue g a.column) k d))

pub removes_reading : (g : GraphValue) (a : Access) (old new : List QueueValue) (k : ℕ) → is_read a.mode ≡ true → ChangesQueue old new (changing_queue g a.column) (WithoutHolder k) → Removes (λ q. access_bars g q a) old new k
removes_reading g a old new k reads c = removes_as (λ q. q == changing_queue g a.column) (λ q. access_bars g q a) old new k (λ q. reading_bars g a q reads) (removes_one old new (changing_queue g a.column) k c)

pub removes_changing : (g : GraphValue) (a : Access) (old middle new : List QueueValue) (k : ℕ) → is_read a.mode ≡ false → ChangesQueue old middle (changing_queue g a.column) (WithoutHolder k) → ChangesQueue middle new (reading_queue g a.column) (WithoutHolder k) →
    Removes (λ q. access_bars g q a) old new k
removes_changing g a old middle new k changes c d = removes_as (λ q. (q == changing_queue g a.column) || (q == reading_queue g a.column)) (λ q. access_bars g q a) old new k (λ q. changing_bars g a q changes)
    (removes_both (λ q. q == changing_queue g a.column) (λ q. q == reading_queue g a.column) old middle new k (removes_one old middle (changing_queue g a.column) k c) (removes_one middle new (reading_queue g a.column) k d))

-- all accesses of a line, one after the other
pub uses_begin : (g : GraphValue) (line : ℕ) (old : List QueueValue) → Adds (first_bar g line 0) old old line
uses_begin g line old = adds_none (first_bar g line 0) old line (λ q. refl)

pub uses_more : (g : GraphValue) (line k : ℕ) (a : Access) (old now new : List QueueValue) → slice_get (accesses g line) k ≡ Some a → Adds (first_bar g line k) old now line → Adds (λ q. access_bars g q a) now new line → Adds (first_bar g line (k + 1)) old new line
uses_more g line k a old now new at c d = adds_as (λ q. first_bar g line k q || access_bars g q a) (first_bar g line (k + 1)) old new line (first_more g line k a at) (adds_both (first_bar g line k) (λ q. access_bars g q a) old now new line c d)

pub uses_whole : (g : GraphValue) (by_columns : Bool) (line k : ℕ) (old new : List QueueValue) → by_columns ≡ true → length (accesses g line) ≤ k → Adds (first_bar g line k) old new line → Adds (uses_bar g by_columns line) old new line
uses_whole g by_columns line k old new on all c = adds_as (first_bar g line k) (uses_bar g by_columns line) old new line (first_whole g by_columns line k on all) c

pub uses_none : (g : GraphValue) (by_columns : Bool) (line : ℕ) (old : List QueueValue) → by_columns ≡ false → Adds (uses_bar g by_columns line) old old line
uses_none g by_columns line old off = adds_none (uses_bar g by_columns line) old line (none_used g by_columns line off)

pub unused_begin : (g : GraphValue) (line : ℕ) (old : List QueueValue) → Removes (first_bar g line 0) old old line
unused_begin g line old = removes_none (first_bar g line 0) old line (λ q. refl)

pub unused_more : (g : GraphValue) (line k : ℕ) (a : Access) (old now new : List QueueValue) → slice_get (accesses g line) k ≡ Some a → Removes (first_bar g line k) old now line → Removes (λ q. access_bars g q a) now new line → Removes (first_bar g line (k + 1)) old new line
unused_more g line k a old now new at c d = removes_as (λ q. first_bar g line k q || access_bars g q a) (first_bar g line (k + 1)) old new line (first_more g line k a at) (removes_both (first_bar g line k) (λ q. access_bars g q a) old now new line c d)

pub unused_whole : (g : GraphValue) (by_columns : Bool) (line k : ℕ) (old new : List QueueValue) → by_columns ≡ true → length (accesses g line) ≤ k → Removes (first_bar g line k) old new line → Removes (uses_bar g by_columns line) old new line
unused_whole g by_columns line k old new on all c = removes_as (first_bar g line k) (uses_bar g by_columns line) old new line (first_whole g by_columns line k on all) c

pub unused_none : (g : GraphValue) (by_columns : Bool) (line : ℕ) (old : List QueueValue) → by_columns ≡ false → Removes (uses_bar g by_columns line) old old line
unused_none g by_columns line old off = removes_none (uses_bar g by_columns line) old line (none_used g by_columns line off)

-- both what a line holds by its reservation and what by columns
pub holds_both : (g : GraphValue) (by_columns : Bool) (line : ℕ) (old middle new : List QueueValue) → Adds (bars g line) old middle line → Adds (uses_bar g by_columns line) middle new line → Adds (held_by g by_columns line) old new line
holds_both g by_columns line old middle new c d = adds_both (bars g line) (uses_bar g by_columns line) old middle new line c d

-- the queues of the first accesses of a line are not held
abbrev pub FirstUnheld : GraphValue → List QueueValue → ℕ → ℕ → Type 0
FirstUnheld g queues line k = (a : Access) → Contains (take k (accesses g line)) a → IsUnheld (queue_at queues (access_queue g a))

pub unheld_more : (g : GraphValue) (queues : List QueueValue) (line k : ℕ) (a : Access) → slice_get (accesses g line) k ≡ Some a → FirstUnheld g queues line k → IsUnheld (queue_at queues (access_queue g a)) → FirstUnheld g queues line (k + 1)
unheld_more g queues line k a at first none x c =
    let inside : k < length (accesses g line) = slice_get_within (accesses g line) k a at in
    let more : take (k + 1) (accesses g line) ≡ take k (accesses g line) ++ a ∷ [] = take_more (accesses g line) k a inside ∙ ap (λ y. take k (accesses g line) ++ y ∷ []) (get_or_from_slice_get (accesses g line) k a a at) in
    elim (Contains-push_cases (take k (accesses g line)) a x (subst (λ xs. Contains xs x) more c)) [
      | inl old ↦ first x old
      | inr new ↦ subst (λ z. IsUnheld (queue_at queues (access_queue g z))) new none
    ]

pub unheld_whole : (g : GraphValue) (queues : List QueueValue) (line k : ℕ) → length (accesses g line) ≤ k → FirstUnheld g queues line k → (a : Access) → Contains (accesses g line) a → IsUnheld (queue_at queues (access_queue g a))
unheld_whole g queues line k all first a c = first a (subst (λ xs. Contains xs a) (sym (take_all k (accesses g line) all)) c)

-- no queue in which a line has to wait is held, by its own and by those of its columns
pub joined_unheld : (g : GraphValue) (by_columns : Bool) (queues : List QueueValue) (line : ℕ) → IsUnheld (queue_at queues (queue_of g line)) → (by_columns ≡ true → (a : Access) → Contains (accesses g line) a → IsUnheld (queue_at queues (access_queue g a))) →
    (q : ℕ) → joins g by_columns line q ≡ true → IsUnheld (queue_at queues q)
joined_unheld g by_columns queues line own each q h = elim (or_cases (q == queue_of g line) (by_columns && list_any (λ a. q == access_queue g a) (accesses g line)) h) [
  | inl same ↦ subst (λ z. IsUnheld (queue_at queues z)) (sym (eqb-true q (queue_of g line) same)) own
  | inr column ↦ (
      let a = joined_column g by_columns line q column in
      subst (λ z. IsUnheld (queue_at queues z)) (sym a.1.2) (each a.0 a.1.0 a.1.1))
]

pub joins_access : (g : GraphValue) (by_columns : Bool) (line q : ℕ) (a : Access) → by_columns ≡ true → Contains (accesses g line) a → q ≡ access_queue g a → joins g by_columns line q ≡ true
joins_access g by_columns line q a on c is = or_right (q == queue_of g line) (by_columns && list_any (λ a. q == access_queue g a) (accesses g line))
    (and_from by_columns (list_any (λ a. q == access_queue g a) (accesses g line)) on (passes_some (λ a. q == access_queue g a) (accesses g line) a c (eq-eqb q (access_queue g a) is)))

-- the same where it was looked for in those of its columns
pub joined_by : (g : GraphValue) (by_columns : Bool) (queues : List QueueValue) (line : ℕ) (o : Option ℕ) → by_columns ≡ true → IsUnheld (queue_at queues (queue_of g line)) →
    MatchOption o ((a : Access) → Contains (accesses g line) a → IsUnheld (queue_at queues (access_queue g a)))
    (λ q. (a : Access) × Contains (accesses g line) a × (q ≡ access_queue g a) × (q < length queues) × ((k : ℕ) × (has_line (queue_at queues q).holders k ≡ true))) →
    MatchOption o ((q : ℕ) → joins g by_columns line q ≡ true → IsUnheld (queue_at queues q))
    (λ q. (q < length queues) × (joins g by_columns line q ≡ true) × ((k : ℕ) × (has_line (queue_at queues q).holders k ≡ true)))
joined_by g by_columns queues line None on own each = joined_unheld g by_columns queues line own (λ _. each)
joined_by g by_columns queues line (Some q) on own found = (found.3, joins_access g by_columns line q found.0 on found.1 found.2, found.4)
