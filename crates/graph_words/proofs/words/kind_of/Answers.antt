use Rattle.std.proofs.Common.{◌≡◌, ◌∙◌, drop, subst}
use Rattle.std.specs.Prelude.{find}
use Rattle.basics.specs.Words.{contents}
use Rattle.graph_terms.specs.declared.table.TheConstants.{KINDS}
use Rattle.graph_words.specs.Draft.{form_of, is_of_form}
use Rattle.graph_words.proofs.WordLists.{first_word, two_words}
use Rattle.graph_words.proofs.words.kind_of.Goals as goal

pub returns-in-len1 : goal.returns-in-len1
returns-in-len1 c =
    c.kind_among.ensures
    ∙ subst (λ ws. find (λ k. is_of_form c.args.format ws (form_of k)) c.kinds_of_word.result.now ≡ find (λ k. is_of_form c.args.format ws (form_of k)) KINDS)
    (first_word c.args.words.now _ c.in-len1.len_at_least) (c.kinds_of_word.ensures c.args.format (drop 1 (contents c.args.words.now)))

pub returns-in-len2-up : goal.returns-in-len2-up
returns-in-len2-up c =
    c.kind_among-in-len2-up.ensures
    ∙ subst (λ ws. find (λ k. is_of_form c.args.format ws (form_of k)) c.kinds_of_words.result.now ≡ find (λ k. is_of_form c.args.format ws (form_of k)) KINDS)
    (two_words c.args.words.now _ _ c.in-len2-up.len_at_least) (c.kinds_of_words.ensures c.args.format (drop 2 (contents c.args.words.now)))
