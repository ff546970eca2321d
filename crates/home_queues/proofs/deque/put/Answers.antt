use Rattle.std.proofs.Common.{◌<◌, [], ◌∷◌}
use Rattle.std.proofs.lemmas.List.Elements.{All-push, All-nil}
use Rattle.crossbeam_deque.specs.Handles.{worker_view}
use Rattle.home_queues.proofs.Steps.{puts}
use Rattle.home_queues.proofs.deque.put.Goals as goal

pub push_as-requires-clause-pushes : goal.push_as-requires-clause-pushes
push_as-requires-clause-pushes c =
    let n = (worker_view c.args.owner.now).lines in
    puts _ _ (c.args.line ∷ []) c.requires.below.1 (All-push (λ y. y < n) [] c.args.line (All-nil (λ y. y < n)) c.requires.below.0)
