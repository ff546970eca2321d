use Rattle.std.proofs.Common.{rules, List, ℕ, ◌&&◌, Bor, ◌∙◌}
use Rattle.std.specs.Str.{bytes_eq}
use Rattle.std.proofs.lemmas.Iterator.{YieldsList-from_slice, YieldsList-from_zip}
use Rattle.std.proofs.lemmas.Iterator.Search.{any_from_yields_List}
use Rattle.graph_terms.specs.declared.table.Place.{Place}
use Rattle.graph_terms.specs.Table.{is_column}
use Rattle.graph_reader.proofs.ColumnLists.{column_listed}
use Rattle.graph_reader.proofs.forms.has_column.Goals as goal

pub returns : goal.returns
returns c =
    any_from_yields_List (λ (p : Place × Bor (List ℕ)). is_column p.0 && bytes_eq c.args.word.now p.1.now) c.any.new.self _ c.any.result c.any.ensures.ran (YieldsList-from_zip (YieldsList-from_slice c.args.places.now cc) (YieldsList-from_slice c.args.words.now cc)) (λ x b q k. search rules)
    ∙ column_listed c.args.word.now c.args.places.now c.args.words.now
