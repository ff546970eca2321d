use Rattle.std.proofs.Common.{rules, List, ℕ, Bor, sym, ◌∙◌}
use Rattle.std.proofs.lemmas.Iterator.{YieldsList-from_slice}
use Rattle.std.proofs.lemmas.Iterator.Search.{any_from_yields_List}
use Rattle.word_meanings.specs.Words.{is_empty}
use Rattle.basics.proofs.TestedLists.{any_map}
use Rattle.graph_reader.proofs.LineShapes.{empty_is}
use Rattle.graph_reader.proofs.lines.any_empty.Goals as goal

pub returns : goal.returns
returns c =
    any_from_yields_List (λ (w : Bor (List ℕ)). is_empty w.now) c.any.new.self _ c.any.result c.any.ensures.ran (YieldsList-from_slice c.args.words.now cc) (λ x b q k. search (rules, empty_is))
    ∙ sym (any_map is_empty (λ (w : Bor (List ℕ)). w.now) c.args.words.now)
