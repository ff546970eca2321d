-- The laws that the proofs of other crates cite, as specs/ states them.
use Rattle.line_effects.specs.Laws.{VerbOfLine, AccessesAreListed, MovedByAccess, AccessesAreMoved, FewMoves, MovedColumnsAreDeclared, VerdictMakesChanges}
use Rattle.line_effects.proofs.EffectFacts as effect_facts
use Rattle.line_effects.proofs.MoveFacts as move_facts
use Rattle.line_effects.proofs.MadeFacts as made_facts

pub verb_is : VerbOfLine
verb_is = effect_facts.verb_is

pub access_listed : AccessesAreListed
access_listed = effect_facts.access_listed

pub access_moved : MovedByAccess
access_moved = effect_facts.access_moved

pub move_of : AccessesAreMoved
move_of = move_facts.move_of

pub moves_few : FewMoves
moves_few = move_facts.moves_few

pub move_known : MovedColumnsAreDeclared
move_known = move_facts.move_known

pub all_made : VerdictMakesChanges
all_made = made_facts.all_made
