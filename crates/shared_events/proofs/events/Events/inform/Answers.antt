use Rattle.std.proofs.Common.{ℕ, rules, arith, sym, subst}
use Rattle.std.specs.Prelude.{Contains}
use Rattle.shared_events.specs.Plays.{Sat}
use Rattle.shared_events.proofs.Cuts.{informs, informed_past}
use Rattle.shared_events.proofs.Takes.{map_nil}
use Rattle.shared_events.proofs.events.Events.inform.Goals as goal

pub join_seat-requires : goal.join_seat-requires
join_seat-requires c = let e = c.args.self.now.sized in let m = c.args.maker.now.makes in let p = c.args.told.plain in
    (search rules, search rules, p.0.0, omega (arith, e.1, e.2), informs _ _ _ _ _ m.0.1 m.2 p.0.1 (map_nil (λ (q : ℕ × ℕ). q.0) c.args.told.inner.me.0.hand p.0.3) p.1)

pub returns-clause-past : goal.returns-clause-past
returns-clause-past c = λ h f k. subst (λ (m : Sat). Contains m.0.past h) (sym c.join_seat.ensures.2) (informed_past c.args.maker.now.inner.me.0 c.args.told.inner.me.0 h f k.known)
