use Rattle.std.proofs.Common.{◌∙◌, ap}
use Rattle.session_run.specs.Linked.{with_answer}
use Rattle.session_run.specs.Running.{ran_by}
use Rattle.session_run.proofs.LinkSteps.{no_links, can_put, linked_more}
use Rattle.session_run.proofs.running.Running.add_links.Goals as goal

pub loop-place-init : goal.loop-place-init
loop-place-init c = record { at = c.requires.at; tells = c.requires.tells; linking = no_links (ran_by c.args.self.now) c.args.graph.now }

pub add_link-requires-clause-named : goal.add_link-requires-clause-named
add_link-requires-clause-named c = (can_put (ran_by c.args.self.now) c.args.graph.now c.args.links.now c.loop-place.place c.loop-place.graph c.at-link.result c.requires.fits c.loop-place.invariant.linking c.at-link.ensures).name

pub add_link-requires-clause-user : goal.add_link-requires-clause-user
add_link-requires-clause-user c = (can_put (ran_by c.args.self.now) c.args.graph.now c.args.links.now c.loop-place.place c.loop-place.graph c.at-link.result c.requires.fits c.loop-place.invariant.linking c.at-link.ensures).user

pub add_link-requires-clause-trigger : goal.add_link-requires-clause-trigger
add_link-requires-clause-trigger c = (can_put (ran_by c.args.self.now) c.args.graph.now c.args.links.now c.loop-place.place c.loop-place.graph c.at-link.result c.requires.fits c.loop-place.invariant.linking c.at-link.ensures).trigger

pub add_link-requires-clause-cancel : goal.add_link-requires-clause-cancel
add_link-requires-clause-cancel c = (can_put (ran_by c.args.self.now) c.args.graph.now c.args.links.now c.loop-place.place c.loop-place.graph c.at-link.result c.requires.fits c.loop-place.invariant.linking c.at-link.ensures).cancel

pub loop-place-preserved : goal.loop-place-preserved
loop-place-preserved c = record { at = c.answer-answer.ensures.at; tells = c.answer-answer.ensures.tells; linking = linked_more (ran_by c.args.self.now) c.args.graph.now c.args.links.now c.loop-place.place c.loop-place.graph c.add_link.new.graph c.at-link.result c.requires.fits c.loop-place.invariant.linking c.at-link.ensures (c.in_ok-add_link.ensures ∙ ap (with_answer c.loop-place.graph c.at-link.result) c.answer-answer.ensures.answer) }
