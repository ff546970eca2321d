-- Paths of sources and chains of dependences; what is so at the sources of a task is so at all that it depends on.
use Rattle.std.proofs.Common.{◌≡◌, ℕ, zero, suc, ◌+◌, ◌<◌, ◌≤◌, Bool, true, false, ◌&&◌, ◌⊎◌, inl, inr, List, ◌∙◌, ap, arith}
use Rattle.std.specs.Prelude.{IsTrue}
use Rattle.std.proofs.lemmas.Bool.{and_parts, and_from, cases_Bool, cases_order}
use Rattle.basics.proofs.ListFacts.{numbers_below, some_passes, passes_some, contains_below}
use Rattle.task_order.specs.declared.access.Access.{Access}
use Rattle.task_order.specs.declared.status.Status.{Status}
use Rattle.task_order.specs.declared.status.Status.TheVariants.{Cancelled}
use Rattle.task_order.specs.Tasks.{uses, changes, accesses_of, depends, ConflictAt, Chain}
use Rattle.task_order.specs.Tasks as tasks_spec
use Rattle.task_order.specs.Sources.{IsSourceBy, IsSource, Path}
use Rattle.task_order.specs.Sources as sources_spec
use Rattle.task_order.specs.Sequence.{is_over, is_lost, is_cancelled}
use Rattle.task_order.specs.Laws.{PathsAreChains, SourcesAreDependences, CancelledByLost, StartsAfterSources, SourcesSuffice, LostBySources}
use Rattle.task_order.proofs.Statuses.{over_is_past}
use Rattle.task_order.proofs.Pieces.{changed_is_used, depends_at, dependence_at}

-- THE LAST NUMBER THAT PASSES A TEST
record IsLast (t : ℕ → Bool) (i j k : ℕ) : Type 0 where
  after : i < k
  before : k < j
  passes : t k ≡ true
  none : (l : ℕ) → k < l → l < j → t l ≡ false

last_between : (t : ℕ → Bool) (i j : ℕ) → ((k : ℕ) × IsLast t i j k) ⊎ ((l : ℕ) → i < l → l < j → t l ≡ false)
last_between t i zero = inr (λ l after before. absurd (omega arith))
last_between t i (suc j) = elim (cases_order i j) [
  | inl same ↦ inr (λ l after before. absurd (omega arith))
  | inr (inr above) ↦ inr (λ l after before. absurd (omega arith))
  | inr (inl below) ↦ elim (cases_Bool (t j)) [
    | inl here ↦ inl (j, record { after = below; before = omega arith; passes = here; none = λ l after before. absurd (omega arith) })
    | inr gone ↦ elim (last_between t i j) [
      | inl (k, is) ↦ inl (
        k,
        record {
          after = is.after;
          before = (let b : k < j = is.before in omega arith);
          passes = is.passes;
          none = λ l after before. elim (cases_order l j) [
            | inl same ↦ ap t same ∙ gone
            | inr (inl less) ↦ is.none l after less
            | inr (inr more) ↦ absurd (omega arith)
          ];
        },
      )
      | inr none ↦ inr (λ l after before. elim (cases_order l j) [
        | inl same ↦ ap t same ∙ gone
        | inr (inl less) ↦ none l after less
        | inr (inr more) ↦ absurd (omega arith)
      ])
    ]
  ]
]

module _ (tasks : List (List Access)) where
  -- PATHS
  joined : {i k j : ℕ} → Path tasks i k → Path tasks k j → Path tasks i j
  joined (sources_spec.last s) q = sources_spec.first s q
  joined (sources_spec.first s p) q = sources_spec.first s (joined p q)

  pub source_depends : (i j : ℕ) → IsSource tasks i j → IsTrue (depends tasks i j)
  source_depends i j (p, s) = depends_at tasks i j p s.before (record { one = s.one; other = s.other; change = s.change })

  -- by the last task between them that may change the piece
  path_within : (m i j p : ℕ) → j ≤ i + m → i < j → ConflictAt tasks i j p → Path tasks i j
  path_within zero i j p near below c = absurd (omega arith)
  path_within (suc m) i j p near below c = elim (last_between (λ k. changes (accesses_of tasks k) p) i j) [
    | inr none ↦ sources_spec.last (p, record { before = below; one = c.one; other = c.other; change = c.change; next = none })
    | inl (k, is) ↦ (
        let used = changed_is_used (accesses_of tasks k) p is.passes in
        let after : i < k = is.after in
        let before : k < j = is.before in
        joined (path_within m i k p (omega arith) is.after (record { one = c.one; other = used; change = inr is.passes }))
        (sources_spec.last (p, record { before = is.before; one = used; other = c.other; change = inl is.passes; next = is.none })))
  ]

  pub path_to : (i j : ℕ) → IsTrue (depends tasks i j) → Path tasks i j
  path_to i j d =
      let c = dependence_at tasks i j d in
      path_within j i j c.1.0 (omega arith) c.0 c.1.1

  chain_from : {i j : ℕ} → Path tasks i j → Chain tasks i j
  chain_from {i} {j} (sources_spec.last s) = tasks_spec.last (source_depends i j s)
  chain_from {i} (sources_spec.first {k = k} s p) = tasks_spec.first (source_depends i k s) (chain_from p)

  path_from : {i j : ℕ} → Chain tasks i j → Path tasks i j
  path_from {i} {j} (tasks_spec.last d) = path_to i j d
  path_from {i} (tasks_spec.first {k = k} d c) = joined (path_to i k d) (path_from c)

  -- LOST TASKS
  pub cancelled_by : (status : ℕ → Status) (i j : ℕ) → IsTrue (depends tasks i j) → IsTrue (is_lost (status i)) → is_cancelled tasks status j ≡ true
  cancelled_by status i j d lost = passes_some (λ k. depends tasks k j && is_lost (status k)) (numbers_below j) i
      (contains_below j i (dependence_at tasks i j d).0) (and_from (depends tasks i j) (is_lost (status i)) d lost)

  pub lost_by : (status : ℕ → Status) (j : ℕ) → is_cancelled tasks status j ≡ true → (i : ℕ) × IsTrue (depends tasks i j) × IsTrue (is_lost (status i))
  lost_by status j e =
      let s = some_passes (λ k. depends tasks k j && is_lost (status k)) (numbers_below j) e in
      let parts = and_parts (depends tasks s.0 j) (is_lost (status s.0)) s.2 in
      (s.0, parts.0, parts.1)

  -- WHAT HAS STARTED
  module _ (status : ℕ → Status) (starts : StartsAfterSources tasks status) where
    over_from : {i j : ℕ} → Path tasks i j → ((k : ℕ) → IsSource tasks k j → IsTrue (is_over (status k))) → IsTrue (is_over (status i))
    over_from {i} (sources_spec.last s) over = over i s
    over_from {i} (sources_spec.first {k = k} s p) over = starts i k s (over_is_past (status k) (over_from p over))

    lost_from : {i j : ℕ} → Path tasks i j → ((k : ℕ) → IsTrue (is_over (status k)) → is_cancelled tasks status k ≡ true → status k ≡ Cancelled) →
        ((k : ℕ) → IsSource tasks k j → IsTrue (is_over (status k))) → IsTrue (is_lost (status i)) → (k : ℕ) × IsSource tasks k j × IsTrue (is_lost (status k))
    lost_from {i} (sources_spec.last s) passed over lost = (i, s, lost)
    lost_from {i} (sources_spec.first {k = k} s p) passed over lost =
        lost_from p passed over (ap is_lost (passed k (over_from p over) (cancelled_by status i k (source_depends i k s) lost)))

-- THE LAWS
pub sources_are_dependences : SourcesAreDependences
sources_are_dependences tasks i j s = source_depends tasks i j s

pub cancelled_by_lost : CancelledByLost
cancelled_by_lost tasks status j = (λ e. lost_by tasks status j e, λ s. cancelled_by tasks status s.0 j s.1 s.2)

pub paths_are_chains : PathsAreChains
paths_are_chains tasks i j = (λ p. chain_from tasks p, λ c. path_from tasks c)

pub sources_suffice : SourcesSuffice
sources_suffice tasks status starts j over i d = over_from tasks status starts (path_to tasks i j d) over

pub lost_by_sources : LostBySources
lost_by_sources tasks status starts passed j over = (
  λ e. let s = lost_by tasks status j e in lost_from tasks status starts (path_to tasks s.0 j s.1) passed over s.2,
  λ s. cancelled_by tasks status s.0 j (source_depends tasks s.0 j s.1) s.2,
)
