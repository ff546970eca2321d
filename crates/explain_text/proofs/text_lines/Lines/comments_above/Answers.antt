use Rattle.std.proofs.Common.{ap}
use Rattle.basics.specs.Words.{contents}
use Rattle.explain_text.specs.TextLines.{TextLines}
use Rattle.explain_text.proofs.CommentFacts.{above_at, few_at}
use Rattle.explain_text.proofs.text_lines.Lines.comments_above.Goals as goal

pub returns-clause-above : goal.returns-clause-above
returns-clause-above c =
    above_at c.self.inside.counts (contents c.self.inside.lines.items) c.args.self.now.lines c.args.place c.at.result c.self.invariant (ap (λ (t : TextLines). t.lines) c.self.view_is) c.at.ensures

pub returns-clause-few : goal.returns-clause-few
returns-clause-few c = few_at c.args.self.now.lines c.args.place c.at.result (returns-clause-above c)
