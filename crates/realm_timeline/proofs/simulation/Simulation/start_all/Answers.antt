use Rattle.std.proofs.Common.{◌+◌, ◌≤◌, ◌∙◌, length, sym, ap, subst, arith}
use Rattle.basics.specs.Lists.{count_below}
use Rattle.realm_timeline.specs.Queue.{is_open}
use Rattle.realm_timeline.specs.State.{state_of, count_of_queues}
use Rattle.realm_timeline.specs.declared.queue.TheConstants.{MAX_QUEUES}
use Rattle.realm_timeline.proofs.SimulationFacts.{goes_on, fewer_are_open, same_done, same_by_columns, same_count, nothing_starts}
use Rattle.realm_timeline.proofs.simulation.Simulation.start_all.Goals as goal

pub loop-place-smaller : goal.loop-place-smaller
loop-place-smaller c =
    let fewer : count_below (is_open c.go_on.new.self.queues.items) (length c.args.graph.now.lines) + 1 ≤ count_below (is_open c.loop-place.self.queues.items) (length c.args.graph.now.lines) =
    fewer_are_open c.args.graph.now c.lines.ensures.is_graph c.requires.accepted (length c.args.self.now.running.items) (state_of c.loop-place.self) (state_of c.go_on.new.self) c.in-Some.place c.in-Some.processor c.in_ok-go_on.ensures.0
    c.loop-place.invariant.simulation c.in-Some.ensures.0 c.in-Some.ensures.1 c.in_ok-go_on.ensures.1 in
    omega arith

pub loop-place-preserved : goal.loop-place-preserved
loop-place-preserved c =
    let step = c.in_ok-go_on.ensures.1 in
    record {
      simulation = goes_on c.args.graph.now c.lines.ensures.is_graph c.requires.accepted (length c.args.self.now.running.items) (state_of c.loop-place.self) (state_of c.go_on.new.self) c.in-Some.place c.in-Some.processor c.in_ok-go_on.ensures.0
          c.loop-place.invariant.simulation c.in-Some.ensures.0 c.in-Some.ensures.1 step;
      by_columns = same_by_columns c.args.graph.now (state_of c.loop-place.self) (state_of c.go_on.new.self) c.in-Some.place c.in-Some.processor c.in_ok-go_on.ensures.0 step ∙ c.loop-place.invariant.by_columns;
      done = same_done c.args.graph.now (state_of c.loop-place.self) (state_of c.go_on.new.self) c.in-Some.place c.in-Some.processor c.in_ok-go_on.ensures.0 step ∙ c.loop-place.invariant.done;
      count = same_count c.args.graph.now (state_of c.loop-place.self) (state_of c.go_on.new.self) c.in-Some.place c.in-Some.processor c.in_ok-go_on.ensures.0 step ∙ c.loop-place.invariant.count;
    }

pub returns-clause-started_all : goal.returns-clause-started_all
returns-clause-started_all c = nothing_starts c.args.graph.now c.lines.ensures.is_graph c.requires.accepted (length c.args.self.now.running.items) (state_of c.loop-place.self) c.loop-place.invariant.simulation c.in_default.ensures

pub next_start-requires-clause-queues : goal.next_start-requires-clause-queues
next_start-requires-clause-queues c = subst (λ n. n ≤ MAX_QUEUES)
    (c.count_of_queues.ensures.count ∙ sym (c.loop-place.invariant.simulation.consistent.queue_count ∙ ap (count_of_queues c.args.graph.now) c.loop-place.invariant.by_columns)) c.count_of_queues.ensures.few
