use Rattle.std.proofs.Common.{◌∙◌, length, sym, arith}
use Rattle.graph_terms.specs.Graph.{line_passes, is_acquire_of}
use Rattle.realm_audit.specs.Prefix.{stands_in, is_exclusive_of}
use Rattle.realm_audit.proofs.SectionCounts.{none_counted}
use Rattle.realm_audit.proofs.SectionSteps.{none_open}
use Rattle.realm_audit.proofs.sections.Sections.new.Goals as goal

pub returns : goal.returns
returns c = λ trace. (
    let g = c.args.graph.now in
    let opened = c.in_ok-filled.field-0.items in record {
      counted = record {
        opened_size = omega (arith, c.in_ok-filled.ensures.size, c.lines.ensures.number);
        all_size = omega (arith, c.in_ok-filled-2.ensures.size, c.locks-locks.ensures);
        exclusive_size = omega (arith, c.in_ok-filled-3.ensures.size, c.locks-locks.ensures);
        all = λ l. c.in_ok-filled-2.ensures.each l ∙ sym (none_counted (line_passes (is_acquire_of l) g) (stands_in opened) c.in_ok-filled.ensures.each (length g.lines));
        exclusive = λ l. c.in_ok-filled-3.ensures.each l ∙ sym (none_counted (line_passes (is_exclusive_of l) g) (stands_in opened) c.in_ok-filled.ensures.each (length g.lines));
      };
      are = none_open g trace (stands_in opened) c.in_ok-filled.ensures.each;
    })
