use Rattle.std.proofs.Common.{◌≡◌, ℕ, ◌<◌, ◌++◌, [], ◌∷◌, List, length, ap, ◌∙◌, refl, subst, arith}
use Rattle.std.specs.Prelude.{Contains, slice_index_or}
use Rattle.std.proofs.lemmas.List.Elements.{Contains-get_or}
use Rattle.task_order.specs.declared.access.Access.{Access}
use Rattle.task_order.specs.declared.status.Status.{Status}
use Rattle.task_order.specs.declared.status.Status.TheVariants.{Waiting}
use Rattle.task_window.specs.declared.links.Link.{Link}
use Rattle.task_window.specs.Pieces.{tasks_of}
use Rattle.task_window.specs.Waits.{links_to}
use Rattle.task_window.proofs.Tasking.{kept_same, kept_inserted, all_met}
use Rattle.task_window.proofs.window.TaskWindow.insert.Goals as goal

pub invariant_of-self-in_err-reserve : goal.invariant_of-self-in_err-reserve
invariant_of-self-in_err-reserve c = kept_same c.self.inside.pieces c.reserve.new.self c.self.inside.queue c.self.inside.queue c.self.invariant c.reserve.ensures.pieces c.reserve.ensures.tasks c.self.invariant.rest refl refl

pub invariant_of-self-in_err-reserve-2 : goal.invariant_of-self-in_err-reserve-2
invariant_of-self-in_err-reserve-2 c = kept_same c.self.inside.pieces c.reserve.new.self c.self.inside.queue c.reserve-2.new.self c.self.invariant c.reserve.ensures.pieces c.reserve.ensures.tasks c.reserve-2.ensures.rest c.reserve-2.ensures.status c.reserve-2.ensures.links

pub insert-requires-2-clause-known : goal.insert-requires-2-clause-known
insert-requires-2-clause-known c = λ k d h.
    let all = all_met (tasks_of c.self.inside.pieces) c.args.accesses.now c.clear.new.self.items c.collect.new.sources.items c.clear.ensures.items c.in_ok-collect.ensures in
    let sources = c.as_slice.ensures.value in
    let known : slice_index_or c.as_slice.result.now k d < length (tasks_of c.self.inside.pieces) =
    all.1 (slice_index_or c.as_slice.result.now k d) (subst (λ (xs : List ℕ). Contains xs (slice_index_or c.as_slice.result.now k d)) sources (Contains-get_or c.as_slice.result.now k d h)) in
    let size : length c.self.inside.queue.status.items ≡ length (tasks_of c.self.inside.pieces) = c.self.invariant.size in
    let same : length c.reserve-2.new.self.status.items ≡ length c.self.inside.queue.status.items = ap length c.reserve-2.ensures.status in
    omega arith

pub invariant_of-self-2 : goal.invariant_of-self-2
invariant_of-self-2 c =
    let p = c.self.inside.pieces in
    let q = c.self.inside.queue in
    let all = all_met (tasks_of p) c.args.accesses.now c.clear.new.self.items c.collect.new.sources.items c.clear.ensures.items c.in_ok-collect.ensures in
    kept_inserted p c.insert.new.self q c.insert-2.new.self c.args.accesses.now c.collect.new.sources.items c.self.invariant c.insert.ensures.pieces
    (c.insert.ensures.tasks ∙ ap (λ (ts : List (List Access)). ts ++ c.args.accesses.now ∷ []) c.reserve.ensures.tasks)
    c.insert-2.ensures.rest
    (c.insert-2.ensures.status ∙ ap (λ (xs : List Status). xs ++ Waiting ∷ []) c.reserve-2.ensures.status)
    (c.insert-2.ensures.links ∙ (ap (λ (ls : List Link). ls ++ links_to (length c.reserve-2.new.self.status.items) c.as_slice.result.now) c.reserve-2.ensures.links
    ∙ (ap (λ xs. q.links.links ++ links_to (length xs) c.as_slice.result.now) c.reserve-2.ensures.status ∙ ap (λ (xs : List ℕ). q.links.links ++ links_to (length q.status.items) xs) c.as_slice.ensures.value)))
    all.0 all.2
