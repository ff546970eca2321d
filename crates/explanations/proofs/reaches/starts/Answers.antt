use Rattle.std.proofs.Common.{◌∙◌, sym, arith}
use Rattle.explanations.specs.Search.{is_start}
use Rattle.explanations.proofs.ReachFacts.{listed_more, all_more, all_skip}
use Rattle.explanations.proofs.reaches.starts.Goals as goal
use Rattle.explanations.proofs.reaches.starts.Goals.{then-is_start+in_ok-push, else-is_start}

pub loop-line-preserved : goal.loop-line-preserved
loop-line-preserved c = elim c.if-is_start.branch [
  | then-is_start+in_ok-push w ↦ (
      let test = is_start c.args.way c.args.graph.now c.args.ends.now in
      let yes = sym c.is_start.ensures ∙ w.if-is_start.true in
      rw w.starts-is (record {
        listed = listed_more test c.loop-line.line c.loop-line.starts.items w.push.new.items.items w.in_ok-push.ensures.ok yes c.loop-line.invariant.listed;
        all = all_more test c.loop-line.line c.loop-line.starts.items w.push.new.items.items w.in_ok-push.ensures.ok c.loop-line.invariant.all;
      }))
  | else-is_start w ↦ (
      let test = is_start c.args.way c.args.graph.now c.args.ends.now in
      let no = sym c.is_start.ensures ∙ w.if-is_start.false in
      rw w.starts-is (record {
        listed = λ i h. (let k = c.loop-line.invariant.listed i h in (omega arith, k.1));
        all = all_skip test c.loop-line.line c.loop-line.starts.items no c.loop-line.invariant.all;
      }))
]

pub returns-clause-listed : goal.returns-clause-listed
returns-clause-listed c = λ i h. (let k = c.loop-line.invariant.listed i h in (omega arith, k.1))
