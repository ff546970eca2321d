use Rattle.run_parts.proofs.states.StateList.blank.Goals as goal

pub returns : goal.returns
returns c = c.in_ok-filled.ensures.items
