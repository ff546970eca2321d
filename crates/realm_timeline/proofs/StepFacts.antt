-- What single steps of a simulation do to its parts.
use Rattle.std.proofs.Common.{◌≡◌, ℕ, zero, suc, ◌+◌, ◌<◌, ◌≤◌, true, inl, inr, List, [], ◌∷◌, ◌++◌, length, refl, sym, ◌∙◌, subst, arith}
use Rattle.std.specs.Prelude.{Option, Some, None, is_some, slice_set}
use Rattle.std.specs.List.{slice_index_or}
use Rattle.std.proofs.lemmas.Bool.{true≢false, cases_lt}
use Rattle.graph_terms.specs.Graph.{GraphValue}
use Rattle.graph_terms.specs.Reservations.{Releases}
use Rattle.realm_timeline.specs.Plan.{cost}
use Rattle.realm_timeline.specs.Queue.{QueueValue, ChangesQueue, has_line, queue_at, IsUnheld, WithoutLine}
use Rattle.realm_timeline.specs.State.{State, bars, uses_bar, held_by, joins, runs_at}
use Rattle.realm_timeline.specs.Steps.{Adds, Removes, MarksFinished, Starts, slot_of}

-- a processor that is not idle runs a line
pub runs_some : (running : List (Option ℕ)) (q : ℕ) (o : Option ℕ) → o ≡ slice_index_or running q o → q < length running → is_some o ≡ true → (k : ℕ) × (runs_at running q ≡ Some k)
runs_some running q None e h s = absurd (true≢false (sym s))
runs_some running q (Some k) e h s = (k, got running q k e h)
  where
    got : (running : List (Option ℕ)) (q k : ℕ) → Some k ≡ slice_index_or running q (Some k) → q < length running → slice_index_or running q None ≡ Some k
    got [] q k e h = absurd (omega arith)
    got (x ∷ xs) zero k e h = sym e
    got (x ∷ xs) (suc q) k e h = got xs q k e (omega arith)

pub busy_more : (running : List (Option ℕ)) (n : ℕ) → ((p : ℕ) → p < n → (k : ℕ) × (runs_at running p ≡ Some k)) → (k : ℕ) × (runs_at running n ≡ Some k) → (p : ℕ) → p < n + 1 → (k : ℕ) × (runs_at running p ≡ Some k)
busy_more running n below here p h = elim (cases_lt p n) [
  | inl lower ↦ below p lower
  | inr since ↦ subst (λ x. (k : ℕ) × (runs_at running x ≡ Some k)) (let e : n ≡ p = omega arith in e) here
]

-- a line is marked as finished, and its columns and the reservation that it releases are free
pub marks_release : (g : GraphValue) (old new : State) (processor line a : ℕ) (between : List QueueValue) → Releases g line a → Removes (uses_bar g old.by_columns line) old.queues between line → length between ≡ length old.queues →
    Removes (bars g a) between new.queues a → length new.queues ≡ length between →
    new.by_columns ≡ old.by_columns → new.time ≡ old.time → new.slots ≡ old.slots → new.order ≡ old.order → new.left ≡ old.left → new.running ≡ slice_set old.running processor None → new.done ≡ slice_set old.done line true → MarksFinished g old new processor line
marks_release g old new processor line a between r uses some removes count by_columns time slots order left running done = record {
  by_columns = by_columns;
  time = time;
  slots = slots;
  order = order;
  left = left;
  running = running;
  done = done;
  queue_count = count ∙ some;
  between = between;
  uses = uses;
  acquire = Some a;
  frees = (r, removes);
}

pub marks_other : (g : GraphValue) (old new : State) (processor line : ℕ) → ((a : ℕ) → Releases g line a → ⊥) → Removes (uses_bar g old.by_columns line) old.queues new.queues line → length new.queues ≡ length old.queues →
    new.by_columns ≡ old.by_columns → new.time ≡ old.time → new.slots ≡ old.slots → new.order ≡ old.order → new.left ≡ old.left → new.running ≡ slice_set old.running processor None → new.done ≡ slice_set old.done line true → MarksFinished g old new processor line
marks_other g old new processor line none uses count by_columns time slots order left running done = record {
  by_columns = by_columns;
  time = time;
  slots = slots;
  order = order;
  left = left;
  running = running;
  done = done;
  queue_count = count;
  between = new.queues;
  uses = uses;
  acquire = None;
  frees = (none, refl);
}

-- a line starts
pub starts_with : (g : GraphValue) (old new : State) (place processor line : ℕ) (between : List QueueValue) → has_line (queue_at old.queues place).lines line ≡ true → ((i : ℕ) → has_line (queue_at old.queues place).lines i ≡ true → line ≤ i) →
    ((q : ℕ) → joins g old.by_columns line q ≡ true → IsUnheld (queue_at old.queues q)) →
    ChangesQueue old.queues between place (WithoutLine line) → Adds (held_by g old.by_columns line) between new.queues line → length new.queues ≡ length old.queues → cost g line ≤ 68719476736 →
    new.by_columns ≡ old.by_columns → new.time ≡ old.time → new.slots ≡ slice_set old.slots line (Some (slot_of g old processor line)) → new.order ≡ old.order ++ line ∷ [] → new.done ≡ old.done → new.left ≡ old.left → new.running ≡ slice_set old.running processor (Some line) →
    Starts g old new place processor line
starts_with g old new place processor line between listed lowest unheld taken holds count few by_columns time slots order done left running = record {
  listed = listed;
  lowest = lowest;
  by_columns = by_columns;
  time = time;
  slots = slots;
  order = order;
  done = done;
  left = left;
  running = running;
  queue_count = count;
  unheld = unheld;
  queues = (between, taken, holds);
  few = few;
}
