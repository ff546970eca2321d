use Rattle.std.proofs.Common.{sym, ◌∙◌, ap, subst}
use Rattle.std.specs.Prelude.{Some}
use Rattle.lent_columns.specs.Shown.{shown_shares, AreBeside}
use Rattle.lent_columns.proofs.ShownFacts.{both_none, is_out, home_shown, home_beside}
use Rattle.lent_columns.proofs.shared_homes.SharedHomes.give.Goals as goal

pub give-requires : goal.give-requires
give-requires c = let s = c.self.inside in is_out s.homes s.lent.items c.args.self.now c.self.view_is c.self.invariant c.args.c c.requires.known c.requires.out

pub invariant_of-self : goal.invariant_of-self
invariant_of-self c =
    let s = c.self.inside in
    subst (λ hs. AreBeside hs s.lent.items) (sym c.give.ensures)
    (home_beside s.homes s.lent.items c.args.c (Some c.args.column) c.self.invariant (both_none s.homes s.lent.items c.args.self.now c.self.view_is c.self.invariant c.args.c c.requires.known c.requires.out).1)

pub returns : goal.returns
returns c =
    let s = c.self.inside in
    ap (λ hs. shown_shares hs s.lent.items) c.give.ensures ∙ home_shown s.homes s.lent.items c.args.self.now c.self.view_is c.self.invariant c.args.c c.requires.known (Some c.args.column)
