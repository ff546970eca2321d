use Rattle.std.proofs.Common.{◌≡◌, false, sym, subst}
use Rattle.std.specs.Prelude.{MatchOption}
use Rattle.graph_terms.specs.Graph.{GraphValue}
use Rattle.graph_terms.specs.Fits.{is_used}
use Rattle.graph_terms.specs.Names.{StandsFor}
use Rattle.graph_model.proofs.graph.Graph.find.Goals as goal

pub returns : goal.returns
returns c =
    subst (λ (g : GraphValue). MatchOption c.get.result (is_used g c.args.name.now ≡ false) (StandsFor g c.args.name.now)) c.self.view_is
    (subst (λ o. MatchOption o (is_used (record { format = c.self.inside.format; decls = c.self.inside.decls.items; lines = c.self.inside.lines.items }) c.args.name.now ≡ false) (StandsFor (record { format = c.self.inside.format; decls = c.self.inside.decls.items; lines = c.self.inside.lines.items }) c.args.name.now))
    (sym c.get.ensures) (c.self.invariant.names.each c.args.name.now))
