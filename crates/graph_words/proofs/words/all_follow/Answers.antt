use Rattle.std.proofs.Common.{rules, sym, ◌∙◌}
use Rattle.std.specs.Prelude.{bytes_eq}
use Rattle.std.proofs.lemmas.Iterator.{YieldsList-from_slice, YieldsList-from_zip}
use Rattle.std.proofs.lemmas.Iterator.Search.{all_from_yields_List}
use Rattle.graph_words.proofs.WordLists.{begins_by_zip, begins_too_few}
use Rattle.graph_words.proofs.words.all_follow.Goals as goal

pub returns-then-words-fixed : goal.returns-then-words-fixed
returns-then-words-fixed c = sym (begins_too_few c.args.words.now c.args.fixed.now c.if-words-fixed.true)

pub returns : goal.returns
returns c =
    all_from_yields_List (λ p. bytes_eq p.1.now p.0.now) c.all.new.self _ c.all.result c.all.ensures.ran (YieldsList-from_zip (YieldsList-from_slice c.args.words.now cc) (YieldsList-from_slice c.args.fixed.now cc)) (λ x b q k. search rules)
    ∙ begins_by_zip c.args.words.now c.args.fixed.now c.if-words-fixed.false
