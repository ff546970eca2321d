use Rattle.std.proofs.Common.{◌∙◌, ap, cond}
use Rattle.std.specs.Prelude.{None}
use Rattle.std.specs.Str.{bytes_eq}
use Rattle.std.proofs.lemmas.Map.Text.{is_eq-slice_cmp}
use Rattle.graph_indexes.specs.Names.{NamesValue, told, mapped, named}
use Rattle.graph_indexes.proofs.ChainLaws.{beside_named}
use Rattle.graph_indexes.proofs.names.Names.remove_beside.Goals as goal

pub returns : goal.returns
returns c q =
    beside_named c.self.inside.chains c.self.inside.others.entries c.remove.new.self.entries c.args.name.now q None (ap (λ (w : NamesValue). told w.chains c.args.name.now) c.self.view_is ∙ c.requires)
    (λ p. c.remove.ensures.updates.0 p ∙ ap (λ b. cond b None (mapped c.self.inside.others.entries p)) (is_eq-slice_cmp c.args.name.now p))
    ∙ ap (λ (w : NamesValue). cond (bytes_eq c.args.name.now q) None (named w q)) c.self.view_is
