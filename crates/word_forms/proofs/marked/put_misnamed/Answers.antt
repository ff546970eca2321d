use Rattle.basics.specs.Words.{contents}
use Rattle.graph_terms.specs.declared.why.Why.TheVariants as why
use Rattle.word_forms.specs.Marked.{note_text, name_rule, later_text, comma_text}
use Rattle.word_forms.proofs.Parts.{then_puts}
use Rattle.word_forms.proofs.marked.put_misnamed.Goals as goal

pub returns : goal.returns
returns c =
    let r = c.put_commas.result in
    let f = c.args.form in
    let ws = contents c.args.words.now in
    let k = c.args.k in
    then_puts r c.args.out.now.items c.put_note.new.out.items _ (note_text c.args.format why.Name f ws k) _ c.in_ok-put_note.ensures
    (then_puts r c.put_note.new.out.items c.put_rule.new.out.items _ (name_rule c.args.format) _ c.in_ok-put_rule.ensures
    (then_puts r c.put_rule.new.out.items c.put_later.new.out.items _ (later_text c.args.format f ws k) (comma_text c.args.format f ws k) c.in_ok-put_later.ensures c.put_commas.ensures))
