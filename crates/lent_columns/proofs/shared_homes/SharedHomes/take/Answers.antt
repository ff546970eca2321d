use Rattle.std.proofs.Common.{sym, ◌∙◌, ap, subst}
use Rattle.std.specs.Prelude.{IsSome}
use Rattle.lent_columns.specs.Shown.{shown_shares}
use Rattle.lent_columns.proofs.ShownFacts.{near_home, whole_here, unlent_is, gone_shown}
use Rattle.lent_columns.proofs.shared_homes.SharedHomes.take.Goals as goal

pub take-requires : goal.take-requires
take-requires c = let s = c.self.inside in near_home s.homes s.lent.items c.args.self.now c.self.view_is c.self.invariant c.args.c c.requires.known

pub unwrap-requires : goal.unwrap-requires
unwrap-requires c =
    let s = c.self.inside in
    subst IsSome (sym c.take.ensures.column) (whole_here s.homes s.lent.items c.args.self.now c.self.view_is c.self.invariant c.args.c c.requires.known c.requires.open).0

pub returns-clause-column : goal.returns-clause-column
returns-clause-column c =
    let s = c.self.inside in
    let whole = whole_here s.homes s.lent.items c.args.self.now c.self.view_is c.self.invariant c.args.c c.requires.known c.requires.open in
    unlent_is s.homes s.lent.items c.args.self.now c.self.view_is c.self.invariant c.args.c c.requires.known whole.1 ∙ (sym c.take.ensures.column ∙ c.unwrap.ensures)

pub returns-clause-homes : goal.returns-clause-homes
returns-clause-homes c =
    let s = c.self.inside in
    let whole = whole_here s.homes s.lent.items c.args.self.now c.self.view_is c.self.invariant c.args.c c.requires.known c.requires.open in
    ap (λ hs. shown_shares hs s.lent.items) c.take.ensures.homes ∙ gone_shown s.homes s.lent.items c.args.self.now c.self.view_is c.self.invariant c.args.c c.requires.known whole.1
