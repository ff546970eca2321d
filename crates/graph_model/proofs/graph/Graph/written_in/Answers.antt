use Rattle.std.proofs.Common.{◌≡◌, true, sym, subst, ◌∙◌}
use Rattle.graph_terms.specs.declared.format.Format.{Format}
use Rattle.graph_terms.specs.Format.{has_since}
use Rattle.graph_terms.specs.Graph.{GraphValue}
use Rattle.graph_model.proofs.Upgrade.{written_fits, written_limits, written_names, written_rows, written_counts}
use Rattle.graph_model.proofs.graph.Graph.written_in.Goals as goal

pub invariant_of-self : goal.invariant_of-self
invariant_of-self c =
    let g : GraphValue = record { format = c.self.inside.format; decls = c.self.inside.decls.items; lines = c.self.inside.lines.items } in
    let h : Format = c.args.format in
    let since : has_since g.format h ≡ true = subst (λ (x : GraphValue). has_since x.format h ≡ true) (sym c.self.view_is) c.requires in
    record {
      fits = written_fits h g since c.self.invariant.fits;
      accesses = c.self.invariant.accesses;
      tables = c.self.invariant.tables;
      limits = written_limits h g c.self.invariant.limits;
      names = written_names h g c.self.inside.names c.self.invariant.names;
      rows = written_rows h g c.self.inside.rows c.self.invariant.rows;
      counts = c.self.invariant.counts ∙ written_counts h g;
    }
