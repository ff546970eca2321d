use Rattle.std.proofs.Common.{rules, arith, ◌≡◌, ◌∙◌, ap, sym, subst, ◌+◌, ◌-◌}
use Rattle.event_table.specs.declared.handle.Shape.{Shape}
use Rattle.shared_events.specs.Seats.{waiters_of}
use Rattle.shared_events.specs.Plays.{Sat, Coherent}
use Rattle.shared_events.proofs.Cuts.{joins, splits, empties, deals}
use Rattle.shared_events.proofs.Steps.{heeds}
use Rattle.shared_events.proofs.Place.{walks}
use Rattle.shared_events.proofs.Takes.{alone}
use Rattle.shared_events.proofs.Chains.{none_caught, some_caught, gives}
use Rattle.shared_events.proofs.Growing.{joins_keep}
use Rattle.shared_events.proofs.tokens.Caught.next.Goals as goal

pub split_seat-news-requires : goal.split_seat-news-requires
split_seat-news-requires c = let e = c.args.events.now.sized in (search rules, omega (arith, e.1, e.2), splits _ _ _ _ _ (empties _ (none_caught _ (c.args.self.now.caught.1 ∙ c.if-self-eq0.true))))

pub join_seat-requires : goal.join_seat-requires
join_seat-requires c = let e = c.args.events.now.sized in (search rules, search rules, ap (λ m. m.1) c.split_seat-news.ensures.4, omega (arith, e.1, e.2), joins _ _ _ _ _ (ap (λ m. m.0.caught) c.split_seat-news.ensures.4))

pub load-requires : goal.load-requires
load-requires c = let e = c.args.events.now.sized in (search rules, omega (arith, e.1, e.2), heeds _ _ _ _ _)

pub returns-then-self-eq0-clause-none : goal.returns-then-self-eq0-clause-none
returns-then-self-eq0-clause-none c = let old = c.args.self.now.inner.me in (
  none_caught _ (c.args.self.now.caught.1 ∙ c.if-self-eq0.true),
  alone c.args.seat.now.inner.me.0.emptied c.split_seat-news.result.me.0.emptied _ c.args.self.now.handle (ap (λ m. m.0.emptied) c.load.ensures.2.0 ∙ ap (λ m. m.0.emptied) c.join_seat.ensures.2) (ap (λ m. m.0.emptied) c.split_seat-news.ensures.4 ∙ c.args.self.now.caught.0.4),
  subst (λ (m : Sat). Coherent m.0) (sym c.load.ensures.2.0) c.load.ensures.2.1,
)

pub load-link-requires : goal.load-link-requires
load-link-requires c = let e = c.args.events.now.sized in let p = c.args.self.now.caught in
    let all : waiters_of c.args.self.now.inner.me.0.keys ≡ c.args.events.now.shape.waiters = ap waiters_of c.requires.chain.1 in
    let most = p.2 in
    let some : c.args.self.now.next ≡ (c.args.self.now.next - 1) + 1 = omega (arith, c.if-self-eq0.false) in
    (search rules, omega (arith, e.1, c.if-self-eq0.false), walks _ _ _ _ _ (c.args.self.now.next - 1) _ (some_caught _ (c.args.self.now.next - 1) (p.1 ∙ some)) (ap (λ (x : Shape). x.slots + (c.args.self.now.next - 1)) (sym e.0)))

pub split_seat-inner-requires : goal.split_seat-inner-requires
split_seat-inner-requires c = let e = c.args.events.now.sized in (search rules, omega (arith, e.1, e.2), splits _ _ _ _ _ (deals _))

pub invariant_of-self-2 : goal.invariant_of-self-2
invariant_of-self-2 c = let some : c.args.self.now.next ≡ (c.args.self.now.next - 1) + 1 = omega (arith, c.if-self-eq0.false) in
    let g = gives c.args.self.now.handle (c.args.self.now.next - 1) c.args.self.now.next c.load-link.result c.args.events.now.shape c.args.self.now.inner.me c.load-link.new.seat.me c.split_seat-inner.new.seat.me c.split_seat-inner.result.me c.args.self.now.caught some c.requires.chain.1 c.load-link.ensures.2 c.split_seat-inner.ensures.2 c.split_seat-inner.ensures.4 in record { caught = g.chain }

pub returns-then-self-eq0-clause-kept : goal.returns-then-self-eq0-clause-kept
returns-then-self-eq0-clause-kept c = (joins_keep c.args.seat.now.inner.me.0 c.split_seat-news.result.me.0 c.load.new.seat.me.0 (ap (λ m. m.0.seen) c.load.ensures.2.0 ∙ ap (λ m. m.0.seen) c.join_seat.ensures.2) (ap (λ m. m.0.known) c.load.ensures.2.0 ∙ ap (λ m. m.0.known) c.join_seat.ensures.2)).0
