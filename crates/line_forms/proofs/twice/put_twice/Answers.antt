use Rattle.std.proofs.Common.{◌≡◌, ◌++◌, ◌∙◌, [], List, ℕ, Bor, ap, sym, subst}
use Rattle.std.specs.Prelude.{OnOk, option_map}
use Rattle.std.specs.Option.{option_map_or}
use Rattle.basics.specs.Words.{contents}
use Rattle.line_forms.specs.Columns.{column_text}
use Rattle.line_forms.proofs.twice.put_twice.Goals as goal

pub returns-in-Some : goal.returns-in-Some
returns-in-Some c =
    subst (λ o. OnOk c.put_column.result (c.put_column.new.out.items ≡ c.args.out.now.items ++ option_map_or (column_text (contents c.args.words.now)) o [])) (sym (ap (option_map (λ (w : Bor (List ℕ)). w.now)) c.in-Some.is) ∙ c.repeated_column.ensures) c.put_column.ensures
