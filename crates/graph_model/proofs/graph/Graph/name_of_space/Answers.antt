use Rattle.std.proofs.Common.{sym, ◌∙◌, ap}
use Rattle.std.specs.Prelude.{Some, option_map}
use Rattle.graph_terms.specs.Graph.{decl_name, named_spaces}
use Rattle.graph_model.proofs.TableLaws.{space_decl_is}
use Rattle.graph_model.proofs.graph.Graph.name_of_space.Goals as goal

pub returns : goal.returns
returns c =
    let is = space_decl_is (named_spaces c.args.self.now) c.args.s c.space_decl.result.now c.requires c.space_decl.ensures in
    ap (option_map (λ x. x.0)) is.2 ∙ ap (λ n. Some n) (sym (c.name.ensures ∙ ap decl_name is.1))
