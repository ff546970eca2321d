use Rattle.std.proofs.Common.{rules, List, ℕ, Bor, sym, ◌∙◌}
use Rattle.std.specs.Str.{bytes_eq}
use Rattle.std.proofs.lemmas.Iterator.{YieldsList-from_slice}
use Rattle.std.proofs.lemmas.Iterator.Search.{any_from_yields_List}
use Rattle.basics.proofs.TestedLists.{any_map}
use Rattle.word_meanings.proofs.events.is_among.Goals as goal

pub returns : goal.returns
returns c =
    any_from_yields_List (λ (w : Bor (List ℕ)). bytes_eq c.args.word.now w.now) c.any.new.self _ c.any.result c.any.ensures.ran (YieldsList-from_slice c.args.words.now cc) (λ x b q k. search rules)
    ∙ sym (any_map (bytes_eq c.args.word.now) (λ (w : Bor (List ℕ)). w.now) c.args.words.now)
