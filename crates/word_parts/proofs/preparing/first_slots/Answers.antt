use Rattle.word_steps.specs.declared.content.Content.TheVariants.{Issuer}
use Rattle.word_parts.proofs.PrepareFacts.{loose_push, slots_done}
use Rattle.word_parts.proofs.preparing.first_slots.Goals as goal

pub returns-clause-home : goal.returns-clause-home
returns-clause-home c = λ e t. slots_done c.args.graph.now e c.spread_shares.new.slots.items c.push_slot.new.slots.items c.args.issue_turn c.spread_shares.ensures.spread c.push_slot.ensures.items t

pub returns-clause-loose : goal.returns-clause-loose
returns-clause-loose c = loose_push c.spread_shares.new.slots.items c.push_slot.new.slots.items (Issuer c.args.issue_turn) c.spread_shares.ensures.loose tt c.push_slot.ensures.items
