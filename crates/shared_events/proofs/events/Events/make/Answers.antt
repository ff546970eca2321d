use Rattle.std.proofs.Common.{rules, ◌+◌, ◌/◌, ◌∙◌, arith, inr, sym, subst}
use Rattle.std.specs.Prelude.{Contains}
use Rattle.std.proofs.lemmas.List.Elements.{Contains-append_right}
use Rattle.shared_events.specs.Views.{GoesRound}
use Rattle.shared_events.proofs.Rounds.{one_round_on}
use Rattle.shared_events.proofs.Cuts.{splits, grants}
use Rattle.shared_events.proofs.Create.{creates}
use Rattle.shared_events.proofs.Takes.{at_end}
use Rattle.shared_events.proofs.Scout.{makes_handle}
use Rattle.shared_events.proofs.events.Events.make.Goals as goal

pub compare_exchange-requires : goal.compare_exchange-requires
compare_exchange-requires c = let e = c.args.self.now.sized in (search rules, omega (arith, e.1, c.requires.slot), creates _ _ _ _ _ _ c.args.maker.now.makes.0.1 c.requires.free.1 c.requires.free.0)

pub split_seat-inner-requires : goal.split_seat-inner-requires
split_seat-inner-requires c = let e = c.args.self.now.sized in (search rules, omega (arith, e.1, e.2), splits _ _ _ _ _ (grants _))

pub invariant_of-result : goal.invariant_of-result
invariant_of-result c = let g = makes_handle c.args.slot c.args.found c.compare_exchange.result c.args.self.now.shape c.args.maker.now.inner.me c.compare_exchange.new.seat.me c.split_seat-inner.new.seat.me c.split_seat-inner.result.me c.args.maker.now.makes c.requires.maker.1 c.requires.slot c.compare_exchange.ensures.2 c.split_seat-inner.ensures.2 c.split_seat-inner.ensures.4 in record { pending = g.pending }

pub returns-clause-seen : goal.returns-clause-seen
returns-clause-seen c = let g = makes_handle c.args.slot c.args.found c.compare_exchange.result c.args.self.now.shape c.args.maker.now.inner.me c.compare_exchange.new.seat.me c.split_seat-inner.new.seat.me c.split_seat-inner.result.me c.args.maker.now.makes c.requires.maker.1 c.requires.slot c.compare_exchange.ensures.2 c.split_seat-inner.ensures.2 c.split_seat-inner.ensures.4 in
    record { seen = inr (at_end _ _ _ c.args.maker.now.inner.me.0.made _ c.report.ensures.more_seen g.made) }

pub returns-clause-after : goal.returns-clause-after
returns-clause-after c = let g = makes_handle c.args.slot c.args.found c.compare_exchange.result c.args.self.now.shape c.args.maker.now.inner.me c.compare_exchange.new.seat.me c.split_seat-inner.new.seat.me c.split_seat-inner.result.me c.args.maker.now.makes c.requires.maker.1 c.requires.slot c.compare_exchange.ensures.2 c.split_seat-inner.ensures.2 c.split_seat-inner.ensures.4 in
    record {
      older = λ x d at. let low = g.below.0 x d at in (
        low,
        subst (λ l. Contains l x) (sym c.report.ensures.more_past) (Contains-append_right c.args.seat.now.inner.me.0.past c.split_seat-inner.new.seat.me.0.past x (subst (λ l. Contains l x) (sym g.past) (c.requires.past x d at low))),
      );
      whole = g.below.1;
    }

pub returns-clause-maker : goal.returns-clause-maker
returns-clause-maker c =
    let g = makes_handle c.args.slot c.args.found c.compare_exchange.result c.args.self.now.shape c.args.maker.now.inner.me c.compare_exchange.new.seat.me c.split_seat-inner.new.seat.me c.split_seat-inner.result.me c.args.maker.now.makes c.requires.maker.1 c.requires.slot c.compare_exchange.ensures.2 c.split_seat-inner.ensures.2 c.split_seat-inner.ensures.4 in
    let round = one_round_on c.args.self.now.shape.slots c.args.maker.now.next c.args.slot (c.args.found / 4294967296) c.args.maker.now.inner.me.0.made c.requires.round c.requires.next g.below.1 in
    (c.report.ensures.maker.0, c.report.ensures.maker.1, subst (GoesRound c.args.self.now.shape.slots (c.args.slot + 1)) (sym (c.report.ensures.made.0 ∙ g.made)) round)
