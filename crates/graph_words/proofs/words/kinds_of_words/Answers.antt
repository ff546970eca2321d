use Rattle.std.proofs.Common.{◌≡◌, ◌∷◌, sym, ◌∙◌, subst}
use Rattle.std.specs.Prelude.{find, codes}
use Rattle.graph_terms.specs.declared.table.TheConstants.{KINDS}
use Rattle.graph_words.specs.Draft.{form_of, is_of_form}
use Rattle.basics.proofs.TestedLists.{same_bytes}
use Rattle.graph_words.proofs.words.kinds_of_words.Goals as goal

pub returns-then-is_same : goal.returns-then-is_same
returns-then-is_same c format rest =
    subst (λ w. find (λ k. is_of_form format (w ∷ c.args.second.now ∷ rest) (form_of k)) c.tasks_of_word.result.now ≡ find (λ k. is_of_form format (w ∷ c.args.second.now ∷ rest) (form_of k)) KINDS)
    (sym (same_bytes c.args.word.now (codes "task") (sym c.is_same.ensures ∙ c.if-is_same.true))) (c.tasks_of_word.ensures format rest)

pub returns : goal.returns
returns c format rest = c.kinds_of_word.ensures format (c.args.second.now ∷ rest)
