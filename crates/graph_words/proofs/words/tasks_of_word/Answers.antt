use Rattle.std.proofs.Common.{◌≡◌, ◌∷◌, drop, subst}
use Rattle.std.specs.Prelude.{find, codes}
use Rattle.graph_terms.specs.declared.table.TheConstants.{KINDS}
use Rattle.graph_words.specs.Draft.{form_of, is_of_form}
use Rattle.graph_words.proofs.WordLists.{first_byte}
use Rattle.graph_words.proofs.words.tasks_of_word.Goals as goal

pub returns-in-len1-up : goal.returns-in-len1-up
returns-in-len1-up c format rest =
    subst (λ w. find (λ k. is_of_form format (codes "task" ∷ w ∷ rest) (form_of k)) c.tasks_with.result.now ≡ find (λ k. is_of_form format (codes "task" ∷ w ∷ rest) (form_of k)) KINDS)
    (first_byte c.args.word.now _ c.in-len1-up.len_at_least) (c.tasks_with.ensures format (drop 1 c.args.word.now) rest)
