use Rattle.std.proofs.Common.{rules, not, List, ℕ, Bor, sym, ◌∙◌}
use Rattle.std.proofs.lemmas.Iterator.{YieldsList-from_slice}
use Rattle.std.proofs.lemmas.Iterator.Search.{any_from_yields_List}
use Rattle.graph_terms.specs.Fits.{is_used}
use Rattle.basics.proofs.TestedLists.{any_map}
use Rattle.graph_reader.proofs.merges.any_unknown.Goals as goal

pub returns : goal.returns
returns c =
    any_from_yields_List (λ (w : Bor (List ℕ)). not (is_used c.args.graph.now w.now)) c.any.new.self _ c.any.result c.any.ensures.ran (YieldsList-from_slice c.args.words.now cc) (λ x b q k. search rules)
    ∙ sym (any_map (λ (w : List ℕ). not (is_used c.args.graph.now w)) (λ (w : Bor (List ℕ)). w.now) c.args.words.now)
