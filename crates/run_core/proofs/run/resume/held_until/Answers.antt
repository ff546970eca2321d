use Rattle.std.proofs.Common.{◌≡◌, ◌<◌, true, ap, sym, ◌∙◌, subst, true≢false}
use Rattle.graph_terms.proofs.Public.{one_release}
use Rattle.run_parts.specs.Shown.{blank_state}
use Rattle.run_core.specs.Resumed.{over_at, stage_is_over}
use Rattle.run_parts.specs.declared.states.LineState.{LineState}
use Rattle.run_core.proofs.OutcomeFacts.{any_default}
use Rattle.run_lists.proofs.Public.{acquire_known, line_acquires, line_releases}
use Rattle.run_core.proofs.run.resume.held_until.Goals as goal

pub bounds-lines-acquire : goal.bounds-lines-acquire
bounds-lines-acquire c = subst (λ n. c.in-Release.acquire < n) (sym c.requires.each) (acquire_known c.args.graph.now c.line.ensures.is_graph c.args.release c.in-Release.acquire c.line.result.now c.line.ensures.line c.in-Release.is)

pub returns-in-Acquire-clause-some : goal.returns-in-Acquire-clause-some
returns-in-Acquire-clause-some c =
    let g = c.args.graph.now in
    let lines = c.args.lines.now in
    let q = c.in-Release.acquire in
    let near = subst (λ n. q < n) (sym c.requires.each) (acquire_known g c.line.ensures.is_graph c.args.release q c.line.result.now c.line.ensures.line c.in-Release.is) in
    let same = any_default lines q blank_state _ near in
    let last = any_default lines c.args.release blank_state _ (subst (λ n. c.args.release < n) (sym c.requires.each) c.requires.known) in
    let releases = line_releases g c.args.release q c.line.result.now c.line.ensures.line c.in-Release.is in
    let is = c.is_done.ensures.yes c.if-not-is_done.false in (
      releases,
      c.in-Acquire.lock,
      record {
        acquires = line_acquires g q c.in-Acquire.lock c.in-Acquire.shared c.line-2.result.now c.line-2.ensures.line c.in-Acquire.is;
        over = ap (λ (s : LineState). stage_is_over s.stage) same ∙ is.0;
        is_done = ap (λ (s : LineState). s.end) same ∙ is.1;
        kept = λ r rel o. true≢false (sym (subst (λ z. over_at lines z ≡ true) (one_release g c.line.ensures.is_graph q r c.args.release rel releases) o) ∙ (ap (λ (s : LineState). stage_is_over s.stage) last ∙ (sym c.is_over.ensures ∙ c.if-is_over.false)));
      },
    )
