use Rattle.told_names.proofs.first_places.note.Goals as goal

pub returns-in-Ok : goal.returns-in-Ok
returns-in-Ok c = c.in-Ok.ensures.updates.0
