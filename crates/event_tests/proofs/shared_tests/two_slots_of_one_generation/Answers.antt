use Rattle.std.proofs.Common.{inr, sym, subst}
use Rattle.std.specs.Prelude.{Contains}
use Rattle.std.proofs.lemmas.List.Elements.{Contains-push}
use Rattle.event_tests.proofs.shared_tests.two_slots_of_one_generation.Goals as goal

pub look-requires-clause-seen : goal.look-requires-clause-seen
look-requires-clause-seen g c = record { seen = inr (subst (λ l. Contains l c.see-handle.result) (sym c.see-handle.ensures.more_seen) (Contains-push _ c.see-handle.result)) }
