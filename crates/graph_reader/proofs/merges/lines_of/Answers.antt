use Rattle.std.proofs.Common.{ℕ, sym, ◌∙◌, ap, arith}
use Rattle.std.specs.Prelude.{Option, is_some, unwrap_or, bytes_eq}
use Rattle.graph_terms.specs.declared.verb.Line.{Line}
use Rattle.graph_words.specs.Draft.{line_number}
use Rattle.word_meanings.specs.WordFaults.{is_line_name}
use Rattle.basics.proofs.TestedLists.{position_any}
use Rattle.graph_words.proofs.Public.{passed_more, failed_at, numbers_more}
use Rattle.graph_reader.proofs.merges.lines_of.Goals as goal

pub returns-in_default : goal.returns-in_default
returns-in_default c = failed_at (is_line_name c.args.graph.now) c.args.words.now c.loop-word.word-index _ c.loop-word-test.true
    (position_any (λ (x : Line). bytes_eq x.name _) (c.args.graph.now).lines ∙ ap (λ (q : Option ℕ). is_some q) (sym c.in_default.ensures.line))

pub loop-word-preserved : goal.loop-word-preserved
loop-word-preserved c = record {
  items = numbers_more (line_number c.args.graph.now) c.args.words.now c.loop-word.word-index _ c.in-Some.number _ _ c.loop-word-test.true (ap (λ (q : Option ℕ). unwrap_or q 0) c.in-Some.ensures.line) c.loop-word.invariant.items c.push_within.ensures.items;
  each = passed_more (is_line_name c.args.graph.now) c.args.words.now c.loop-word.word-index _ c.loop-word-test.true c.loop-word.invariant.each
      (position_any (λ (x : Line). bytes_eq x.name _) (c.args.graph.now).lines ∙ ap (λ (q : Option ℕ). is_some q) (sym c.in-Some.ensures.line));
  room = omega (arith, c.loop-word.invariant.room, c.push_within.ensures.capacity);
}
