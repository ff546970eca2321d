use Rattle.std.proofs.Common.{◌∙◌, is_some, ap, sym}
use Rattle.std.proofs.lemmas.Bool.{false≢true}
use Rattle.event_table.specs.EventMap.{answer}
use Rattle.event_tests.proofs.table_tests.wait_for_both.Goals as goal

pub is_ready-at_first-requires-clause-task : goal.is_ready-at_first-requires-clause-task
is_ready-at_first-requires-clause-task c = c.create-2.ensures.free c.args.task (c.create.ensures.free c.args.task c.requires.task)

pub end-requires-2 : goal.end-requires-2
end-requires-2 c = record {
  pending = c.is_ready-then.ensures.answers c.in_ok-second.second ∙ c.next_caught.ensures.answers c.in_ok-second.second
      ∙ c.end.ensures.others c.in_ok-second.second (λ e. false≢true (ap is_some (sym c.in_ok-second.ensures.pending.1 ∙ ap (answer c.create.new.self) e ∙ c.in_ok-first.ensures.pending.0)))
      ∙ c.is_ready-at_first.ensures.answers c.in_ok-second.second ∙ c.in_ok-second.ensures.pending.0;
}

pub is_ready-at_last-requires-clause-first : goal.is_ready-at_last-requires-clause-first
is_ready-at_last-requires-clause-first c = c.next_caught-2.ensures.created c.in_ok-first.first (c.end-2.ensures.created c.in_ok-first.first (c.is_ready-then.ensures.created c.in_ok-first.first (c.next_caught.ensures.created c.in_ok-first.first
    (c.end.ensures.created c.in_ok-first.first (c.is_ready-at_first.ensures.created c.in_ok-first.first (c.create-2.ensures.created.0 c.in_ok-first.first c.in_ok-first.ensures.created.1))))))
