use Rattle.std.proofs.Common.{rules, List, ℕ, Bor, ◌∙◌}
use Rattle.std.proofs.lemmas.Iterator.{YieldsList-from_slice, YieldsList-from_zip}
use Rattle.std.proofs.lemmas.Iterator.Search.{all_from_yields_List}
use Rattle.graph_terms.specs.declared.table.Place.{Place}
use Rattle.graph_words.specs.Draft.{as_place, is_own_word}
use Rattle.graph_words.proofs.WordLists.{own_listed}
use Rattle.graph_words.proofs.words.are_own_words.Goals as goal

pub returns : goal.returns
returns c =
    all_from_yields_List (λ (p : Place × Bor (List ℕ)). is_own_word (as_place p.0) p.1.now) c.all.new.self _ c.all.result c.all.ensures.ran (YieldsList-from_zip (YieldsList-from_slice c.args.places.now cc) (YieldsList-from_slice c.args.words.now cc)) (λ x b q k. search rules)
    ∙ own_listed c.args.places.now c.args.words.now
