use Rattle.std.proofs.Common.{◌<◌, ◌∷◌, ◌++◌, [], Some, length, ap, ◌∙◌, arith, lit<}
use Rattle.index_spaces.specs.Held.{held_at, entries}
use Rattle.index_spaces.proofs.HeldFacts.{Pushed, pushed_entry, entries_length}
use Rattle.index_spaces.proofs.held.Held.add_share.Goals as goal

pub push-requires : goal.push-requires
push-requires c =
    let size = entries_length c.self.inside.places.items c.self.invariant.taken in
    let few : length (entries c.self.inside.places.items) < 4 = rw c.self.view_is c.requires.few in
    let room : length c.self.inside.places.items < 4 = omega arith in
    (lit< tt, room)

known : (c : goal.After-push) → Pushed c.self.inside.places.items c.push.new.self.items (record { number = c.args.c; column = c.args.share.column; share = Some c.args.share.lending })
known c =
    let places = c.self.inside.places.items in
    pushed_entry places c.push.new.self.items (record { number = c.args.c; column = c.args.share.column; share = Some c.args.share.lending }) c.self.invariant (ap (λ es. held_at es c.args.c) c.self.view_is ∙ c.requires.new)
    (c.push.ensures.items ∙ ap (λ place. places ++ place ∷ []) c.share.ensures)

pub invariant_of-self : goal.invariant_of-self
invariant_of-self c = (known c).still

pub returns-clause-held : goal.returns-clause-held
returns-clause-held c = rw (← c.self.view_is) (known c).held

pub returns-clause-lending : goal.returns-clause-lending
returns-clause-lending c = (known c).lending

pub returns-clause-number : goal.returns-clause-number
returns-clause-number c = rw (← c.self.view_is) (known c).number
