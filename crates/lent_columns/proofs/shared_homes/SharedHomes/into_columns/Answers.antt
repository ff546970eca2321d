use Rattle.std.proofs.Common.{sym, ◌∙◌, subst}
use Rattle.std.specs.Prelude.{All, IsSome}
use Rattle.lent_columns.proofs.ShownFacts.{home_columns}
use Rattle.lent_columns.proofs.shared_homes.SharedHomes.into_columns.Goals as goal

pub into_columns-requires : goal.into_columns-requires
into_columns-requires c =
    let s = c.self.inside in
    subst (All (λ place. IsSome place)) (sym (home_columns s.homes s.lent.items c.args.self c.self.view_is c.self.invariant c.requires.unlent)) c.requires.home

pub returns : goal.returns
returns c =
    let s = c.self.inside in
    sym (home_columns s.homes s.lent.items c.args.self c.self.view_is c.self.invariant c.requires.unlent) ∙ c.into_columns.ensures
