use Rattle.std.proofs.Common.{sym, ◌∙◌, ap}
use Rattle.std.specs.List.{list_any}
use Rattle.std.specs.Str.{bytes_eq}
use Rattle.session_text.specs.declared.entry.Entry.{Entry}
use Rattle.session_text.proofs.Steps.{named_last}
use Rattle.session_text.proofs.so_far.SoFar.has_graph.Goals as goal

pub returns-else-among : goal.returns-else-among
returns-else-among c = c.eq.ensures
    ∙ sym (named_last c.args.self.now c.in-Some.last c.args.name.now c.in-Some.is
    (ap (list_any (λ (e : Entry). bytes_eq e.name c.args.name.now)) (sym c.as_slice.ensures.value) ∙ (sym c.has_name-among.ensures ∙ c.if-among.false)))
