-- A slot is free where a line is left and none of the others can be taken.
use Rattle.std.proofs.Common.{◌≡◌, ℕ, suc, ◌+◌, ◌-◌, ◌<◌, ◌≤◌, Bool, true, false, cond, List, [], ◌∷◌, length, refl, ap, arith, sym, ◌∙◌, inl, inr}
use Rattle.std.specs.Prelude.{slice_index_or}
use Rattle.std.proofs.lemmas.Bool.{true≢false}
use Rattle.graph_meaning.specs.Need.{IsNeed}
use Rattle.basics.specs.Sums.{total}
use Rattle.event_table.specs.EventMap.{EventMap, SlotLife, unused, life_at, IsRetired, IsFull}
use Rattle.basics.proofs.Sums.{entry_le}
use Rattle.run_state.specs.Quiet.{CanTakeWith, IsFreeWith, StuckWith, left_among}
use Rattle.run_state.specs.Verdicts.{effect_by}
use Rattle.run_core.specs.Steps.{IsDue, IsLeft}
use Rattle.run_core.proofs.CoreFacts.{kept_core, kept_may, due_cancelled}
use Rattle.run_state.specs.Laws.{LeftBelowNeed}
use Rattle.run_parts.specs.LineEvents.{created_in, pending_in, count_left}
use Rattle.run_core.specs.Core.{CoreValue, MayFault, IsCore, kept_faults}
use Rattle.run_core.specs.Finishing.{NothingOut, IsFreeSoFar, CanBeTaken, IsStuck}
use Rattle.run_state.specs.Run.{ended}

abbrev one_if : Bool → ℕ
one_if b = cond b 1 0

-- a table in which each slot is pending
total_pending : (slots : List SlotLife) → ((i : ℕ) → i < length slots → (slice_index_or slots i unused).is_pending ≡ true) → total pending_in slots ≡ length slots
total_pending [] h = refl
total_pending (l ∷ ls) h =
    let here : one_if l.is_pending ≡ 1 = ap (λ b. one_if b) (h 0 (omega arith)) in
    let rest : total pending_in ls ≡ length ls = total_pending ls (λ i near. h (suc i) (omega (arith, near))) in
    omega (arith, here, rest)

-- a slot that is idle has served less often than lines are issued
idle_or_pending : (m : EventMap) (i : ℕ) (b : Bool) → (life_at m i).is_pending ≡ b → (i < length m.slots) → length (life_at m i).fates ≤ m.last_gen → IsFull m → b ≡ true
idle_or_pending m i true is near left full = refl
idle_or_pending m i false is near left full = absurd (full i (record { «near» = near; idle = is; «left» = left }))

created_few : (m : EventMap) (n i : ℕ) → total created_in m.slots ≡ n → i < length m.slots → length (life_at m i).fates ≤ n
created_few m n i all near =
    let part : length (life_at m i).fates + one_if (life_at m i).is_pending ≤ total created_in m.slots = entry_le created_in m.slots i unused near in
    omega (arith, part, all)

-- a line that can be taken whichever calls may fault can be so by the ends that are kept
pub taken_with : (c : CoreValue) → IsCore c → NothingOut c → (faults : ℕ → Bool) → MayFault c faults → (i : ℕ) → CanTakeWith (effect_by faults c.graph) c.graph c.run i → CanBeTaken c.graph c.run i
taken_with c core nothing faults may i can = record { is_issued = can.is_issued; comes = can.comes; sources = due.sources; is_free = by_free can.is_free }
  where
    due : IsDue c.graph c.run i
    due = record { is_issued = can.is_issued; comes = can.comes; sources = λ j w. ap (ended c.run.stages) (sym w.2) ∙ can.sources w.0 w.1 w.3 }

    by_free : IsFreeWith (effect_by faults c.graph) c.graph c.run i → IsFreeSoFar c.graph c.run i
    by_free (inl cancelled) = inl ((due_cancelled c core i due faults may).1 cancelled)
    by_free (inr free) = inr (free.0, λ k a. (free.1 k a, λ changes j r. true≢false (sym r.is_out ∙ nothing j)))

pub stuck_with : (c : CoreValue) → IsCore c → (k : ℕ) → IsStuck c.graph c.run k → (faults : ℕ → Bool) → MayFault c faults → StuckWith (effect_by faults c.graph) c.graph c.run k
stuck_with c core k stuck faults may = record {
  first_issued = stuck.first_issued;
  none_out = stuck.none_out;
  none_ending = stuck.none_ending;
  none_taken = λ i can. stuck.none_taken i (taken_with c core stuck.none_out faults may i can);
}

pub stuck_at : (c : CoreValue) → IsCore c → NothingOut c → ((i : ℕ) → CanBeTaken c.graph c.run i → ⊥) → IsStuck c.graph c.run (length c.handles)
stuck_at c core nothing none = record {
  first_issued = λ i l. ((kept_core c core).events.each_issued i).1 l;
  none_out = nothing;
  none_ending = (kept_core c core).at_rest.lines.none_ending;
  none_taken = none;
}

pub free_slot : LeftBelowNeed → (c : CoreValue) → IsCore c → NothingOut c → ((i : ℕ) → CanBeTaken c.graph c.run i → ⊥) → IsLeft c → (n : ℕ) → IsNeed c.graph n → IsFull c.table → ⊥
free_slot law c is_core nothing none left n need full =
    let core = kept_core c is_core in
    let below : left_among c.run (length c.handles) < n = law (effect_by (kept_faults c) c.graph) c.graph c.run (length c.handles) n core.sound (stuck_with c is_core (length c.handles) (stuck_at c is_core nothing none) (kept_faults c) (kept_may c)) left need in
    let slots : n ≤ length c.table.slots = core.slots n need in
    let pending : total pending_in c.table.slots ≡ count_left c.run.stages (length c.handles) = core.events.all_pending in
    let each : total pending_in c.table.slots ≡ length c.table.slots =
    total_pending c.table.slots (λ i near. idle_or_pending c.table i (life_at c.table i).is_pending refl near
    (let fates : length (life_at c.table i).fates ≤ length c.handles = created_few c.table (length c.handles) i core.events.all_created near in
    let last : c.table.last_gen ≡ length c.graph.lines - 1 = core.events.last in
    let short : length c.handles < length c.graph.lines = left in
    omega (arith, fates, last, short)) full) in
    omega (arith, below, slots, pending, each)

-- no slot is retired while a line is left to issue: it has served less often than lines were issued
pub none_retired : (c : CoreValue) → IsCore c → IsLeft c → (i : ℕ) → IsRetired c.table i → ⊥
none_retired c is_core left i retired =
    let core = kept_core c is_core in
    let fates : length (life_at c.table i).fates ≤ length c.handles = created_few c.table (length c.handles) i core.events.all_created retired.near in
    let last : c.table.last_gen ≡ length c.graph.lines - 1 = core.events.last in
    let over : c.table.last_gen < length (life_at c.table i).fates = retired.over in
    let short : length c.handles < length c.graph.lines = left in
    absurd (omega (arith, fates, last, over, short))
