use Rattle.std.proofs.Common.{length, ◌∙◌}
use Rattle.std.proofs.lemmas.Result.{on_ok_weaker}
use Rattle.race_sweeps.proofs.asked_classes.ask_own.Goals as goal

pub returns-in_default : goal.returns-in_default
returns-in_default c = record {
  slots = on_ok_weaker c.ask.result (λ k. k ∙ c.requires.slots) c.ask.ensures.slots;
  below = on_ok_weaker c.ask.result (λ k. k (length c.args.table.now.keys.items) c.requires.group c.requires.below) c.ask.ensures.below;
  kept = c.ask.ensures.kept;
  asked = on_ok_weaker c.ask.result (λ k m a listed key mode. k m listed) c.ask.ensures.asked;
}
