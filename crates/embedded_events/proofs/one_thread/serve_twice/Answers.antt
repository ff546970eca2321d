use Rattle.embedded_events.proofs.one_thread.serve_twice.Goals as goal

pub watch-requires-clause-waiter : goal.watch-requires-clause-waiter
watch-requires-clause-waiter c = c.create.ensures.free c.args.waiter c.requires

pub look-requires : goal.look-requires
look-requires c = record {
  created = c.create-2.ensures.created.0 c.in_ok-first.first (c.next_caught-caught.ensures.created c.in_ok-first.first (c.end.ensures.created c.in_ok-first.first
      (c.watch.ensures.created c.in_ok-first.first c.in_ok-first.ensures.created.1)));
}
