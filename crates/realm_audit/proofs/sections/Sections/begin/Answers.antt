use Rattle.std.proofs.Common.{true, ◌+◌, cond, sym, ◌∙◌, ap, arith}
use Rattle.std.specs.Prelude.{◌==◌, slice_set, not, ◌&&◌}
use Rattle.std.proofs.lemmas.List.{length-set}
use Rattle.realm_audit.proofs.SectionCounts.{count_few, all_counted, exclusive_counted, opens_at}
use Rattle.realm_audit.proofs.sections.Sections.begin.Goals as goal

pub count_up-requires-clause-few : goal.count_up-requires-clause-few
count_up-requires-clause-few c = omega (arith, c.requires.counted.all c.args.lock, (count_few c.args.graph.now c.args.self.now.opened.items c.args.lock).0, c.lines.ensures.few, c.lines.ensures.number)

pub count_up_unless-requires-clause-few : goal.count_up_unless-requires-clause-few
count_up_unless-requires-clause-few c = omega (arith, c.requires.counted.exclusive c.args.lock, (count_few c.args.graph.now c.args.self.now.opened.items c.args.lock).1, c.lines.ensures.few, c.lines.ensures.number)

pub returns-clause-opens : goal.returns-clause-opens
returns-clause-opens c = opens_at c.args.graph.now c.args.line c.args.lock c.args.shared c.requires.acquires c.requires.shared c.args.self.now.opened.items c.requires.counted.opened_size c.requires.closed

pub returns-clause-counted : goal.returns-clause-counted
returns-clause-counted c =
    let g = c.args.graph.now in
    let before = c.args.self.now.opened.items in
    let after = slice_set before c.args.line true in
    let opens = opens_at g c.args.line c.args.lock c.args.shared c.requires.acquires c.requires.shared before c.requires.counted.opened_size c.requires.closed in
    record {
      opened_size = length-set before c.args.line true ∙ c.requires.counted.opened_size;
      all_size = c.count_up.ensures.size ∙ c.requires.counted.all_size;
      exclusive_size = c.count_up_unless.ensures.size ∙ c.requires.counted.exclusive_size;
      all = λ l. c.count_up.ensures.counts l ∙ (ap (λ n. cond (c.args.lock == l) 1 0 + n) (c.requires.counted.all l)
          ∙ sym (all_counted g c.args.line c.args.lock c.args.shared c.requires.acquires c.requires.shared before after opens l));
      exclusive = λ l. c.count_up_unless.ensures.counts l ∙ (ap (λ n. cond (not c.args.shared && (c.args.lock == l)) 1 0 + n) (c.requires.counted.exclusive l)
          ∙ sym (exclusive_counted g c.args.line c.args.lock c.args.shared c.requires.acquires c.requires.shared before after opens l));
    }
