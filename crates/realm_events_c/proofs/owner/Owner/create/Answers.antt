use Rattle.std.proofs.Common.{ap, sym, subst, ◌∙◌}
use Rattle.std.specs.Arc.{arc_value}
use Rattle.shared_events.specs.Views.{lists, made_by, handle_of, shape_of}
use Rattle.realm_events_c.specs.Calls.{Creates, Splits}
use Rattle.realm_events_c.proofs.owner.Owner.create.Goals as goal

pub returns-clause-created : goal.returns-clause-created
returns-clause-created c =
    let owner = c.args.self.now in
    subst (λ w. Creates (shape_of (arc_value owner.place.events)) (made_by owner.maker) (made_by c.pending.new.self.maker) (lists owner.place.seat) w (handle_of c.in-Some.pending))
    (sym c.split-place.ensures.place.same) c.in-Some.ensures.created

pub returns-clause-place : goal.returns-clause-place
returns-clause-place c = (ap arc_value c.split-place.ensures.table ∙ c.requires.table, subst (λ v. Splits v (lists c.split-place.new.self.seat) (lists c.split-place.result.seat)) (sym c.split-place.ensures.place.same) c.split-place.ensures.place)
