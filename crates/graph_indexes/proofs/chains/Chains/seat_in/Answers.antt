use Rattle.std.proofs.Common.{◌≡◌, ℕ, ◌+◌, ◌-◌, ◌<◌, suc, sym, ◌∙◌, ap, arith}
use Rattle.std.specs.Prelude.{option_copied}
use Rattle.graph_indexes.specs.declared.chains.TheConstants.{STEPS}
use Rattle.graph_indexes.specs.Names.{seat_in}
use Rattle.graph_indexes.proofs.ChainLaws.{seat_end, seat_past, seat_own, seat_on}
use Rattle.graph_indexes.proofs.chains.Chains.seat_in.Goals as goal

-- a step that is left
left : (turn : ℕ) → turn < 8 → STEPS - turn ≡ suc (STEPS - (turn + 1))
left turn h = omega (arith, h)

pub returns-in_default : goal.returns-in_default
returns-in_default c =
    sym (seat_end c.args.self.now.entries c.args.name.now (STEPS - c.loop-turn._turn) _ (left c.loop-turn._turn c.loop-turn-test.true))
    ∙ (ap (seat_in c.args.self.now.entries c.args.name.now (STEPS - c.loop-turn._turn)) (sym c.in_default.is) ∙ c.loop-turn.invariant)

pub returns-in_default-entry : goal.returns-in_default-entry
returns-in_default-entry c =
    sym (seat_past c.args.self.now.entries c.args.name.now (STEPS - c.loop-turn._turn) _ c.in-Some.number (left c.loop-turn._turn c.loop-turn-test.true) (sym c.entry.ensures ∙ ap option_copied c.in_default-entry.is))
    ∙ (ap (seat_in c.args.self.now.entries c.args.name.now (STEPS - c.loop-turn._turn)) (sym c.in-Some.is) ∙ c.loop-turn.invariant)

pub returns-then-eq : goal.returns-then-eq
returns-then-eq c =
    sym (seat_own c.args.self.now.entries c.args.name.now (STEPS - c.loop-turn._turn) _ c.in-Some.number c.in-Some-entry.entry.now (left c.loop-turn._turn c.loop-turn-test.true) (sym c.entry.ensures ∙ ap option_copied c.in-Some-entry.is) (sym c.eq.ensures ∙ c.if-eq.true))
    ∙ (ap (seat_in c.args.self.now.entries c.args.name.now (STEPS - c.loop-turn._turn)) (sym c.in-Some.is) ∙ c.loop-turn.invariant)

pub loop-turn-preserved : goal.loop-turn-preserved
loop-turn-preserved c =
    sym (seat_on c.args.self.now.entries c.args.name.now (STEPS - c.loop-turn._turn) (STEPS - (c.loop-turn._turn + 1)) c.in-Some.number c.in-Some-entry.entry.now (left c.loop-turn._turn c.loop-turn-test.true) (sym c.entry.ensures ∙ ap option_copied c.in-Some-entry.is) (sym c.eq.ensures ∙ c.if-eq.false))
    ∙ (ap (seat_in c.args.self.now.entries c.args.name.now (STEPS - c.loop-turn._turn)) (sym c.in-Some.is) ∙ c.loop-turn.invariant)

pub returns : goal.returns
returns c =
    ap (λ k. seat_in c.args.self.now.entries c.args.name.now k c.loop-turn.link) (let e : 0 ≡ STEPS - c.loop-turn._turn = omega (arith, c.loop-turn-test.false) in e) ∙ c.loop-turn.invariant
