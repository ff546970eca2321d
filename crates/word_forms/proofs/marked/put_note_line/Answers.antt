use Rattle.std.specs.Prelude.{codes, decimal}
use Rattle.word_forms.specs.Marked.{slot_text}
use Rattle.word_forms.proofs.Parts.{then_puts}
use Rattle.word_forms.proofs.marked.put_note_line.Goals as goal

pub returns : goal.returns
returns c =
    let r = c.put-3.result in
    then_puts r _ _ _ (codes "word ") _ c.in_ok-put.ensures
    (then_puts r _ _ _ (decimal c.args.number) _ c.in_ok-put_decimal.ensures
    (then_puts r _ _ _ (slot_text c.args.slot) _ c.in_ok-put_slot.ensures
    (then_puts r _ _ _ c.args.note.now (codes "\n") c.in_ok-put-2.ensures c.put-3.ensures)))
