use Rattle.std.proofs.Common.{◌∙◌}
use Rattle.told_names.proofs.first_places.GivenPlaces.above.Goals as goal

pub returns : goal.returns
returns c = c.copied.ensures ∙ c.get.ensures.value
