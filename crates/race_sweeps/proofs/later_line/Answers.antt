use Rattle.std.proofs.Common.{◌≡◌, false, length, arith, subst}
use Rattle.std.specs.Prelude.{IfSome}
use Rattle.sweep_base.specs.Noted.{is_noted}
use Rattle.conflict_classes.specs.declared.lookups.Table.{Table}
use Rattle.race_sweeps.specs.Enough.{AreEnoughBelow}
use Rattle.race_sweeps.proofs.Settling.{settled_where_none}
use Rattle.race_sweeps.proofs.later_line.Goals as goal

pub returns-then-is_any_noted : goal.returns-then-is_any_noted
returns-then-is_any_noted c none i j low high = absurd (omega (arith, none, low, c.min.ensures, c.saturating_sub.ensures))

pub returns : goal.returns
returns c none =
    let racing = c.in_ok-notes.notes.racing.items in
    let limit = subst (λ o. IfSome o (λ (t : Table). t.limit ≡ c.args.limit)) c.in-Some.is c.in_ok-table.ensures.limit in
    settled_where_none c.args.graph.now c.args.limit (length racing) racing (let e : length racing ≡ length racing = omega arith in e)
    (λ r low high. subst (λ xs. is_noted xs r ≡ false) c.as_slice.ensures.value (c.is_any_noted.ensures c.if-is_any_noted.false r low (omega (arith, high, c.in_ok-notes.ensures.size, c.lines-lines.ensures.number))))
    (subst (λ n. AreEnoughBelow c.args.graph.now n racing) limit c.in_ok-notes.ensures.enough)
