use Rattle.std.proofs.Common.{◌≡◌, false, take}
use Rattle.std.specs.Prelude.{bytes_eq}
use Rattle.std.specs.List.{list_any}
use Rattle.session_text.specs.declared.entry.Entry.{Entry}
use Rattle.session_text.proofs.links.format_of.Given as goal

abbrev pub invariant-loop-entry : goal.invariant-loop-entry
invariant-loop-entry l = list_any (λ (e : Entry). bytes_eq e.name l.name) (take l.entry-index l.graphs) ≡ false
