use Rattle.std.proofs.Common.{◌≡◌, true, sym, ap, subst, ◌∙◌}
use Rattle.graph_terms.specs.declared.format.Format.{Format}
use Rattle.graph_terms.specs.Format.{has_since}
use Rattle.graph_terms.specs.Graph.{GraphValue, upgraded_format}
use Rattle.graph_terms.proofs.Public.{upgraded_later}
use Rattle.graph_model.proofs.graph.Graph.upgrade.Goals as goal

pub written_in-requires : goal.written_in-requires
written_in-requires c =
    let format : c.upgraded_format-format.result ≡ upgraded_format c.args.self.format = c.upgraded_format-format.ensures ∙ ap (λ (g : GraphValue). upgraded_format g.format) c.self.view_is in
    subst (λ (f : Format). has_since c.args.self.format f ≡ true) (sym format) (upgraded_later c.args.self.format)
