-- The laws that the proofs of other crates cite, as specs/ states them.
use Rattle.told_names.specs.Laws.{PlaceInside}
use Rattle.told_names.proofs.NamedFacts as named_facts

pub place_inside : PlaceInside
place_inside = named_facts.given_inside
