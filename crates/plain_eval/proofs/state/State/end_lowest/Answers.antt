use Rattle.std.proofs.Common.{◌∙◌, refl, arith}
use Rattle.std.specs.BTreeSet.{contains}
use Rattle.std.specs.Ordering.{nat_cmp}
use Rattle.std.specs.Vec.{with_item}
use Rattle.std.proofs.lemmas.Result.{on_ok_weaker}
use Rattle.graph_meaning.specs.Evaluation.{has_ended}
use Rattle.plain_eval.proofs.StateFacts.{idle, advanced, lowest_known, lowest_free}
use Rattle.plain_eval.proofs.state.State.end_lowest.Goals as goal

pub returns-in_default : goal.returns-in_default
returns-in_default c ss state = idle c.args.graph.now ss c.args.self.now _ state c.take_lowest.ensures.left refl refl refl c.in_default.ensures.lowest

pub index_mut-requires : goal.index_mut-requires
index_mut-requires c =
    let below = lowest_known c.args.graph.now c.requires.state.0 c.args.self.now c.in-Some.line c.requires.state.1 c.in-Some.ensures.lowest.0 c.in-Some.ensures.lowest.1 in
    omega (arith, below)

pub release-requires-clause-free : goal.release-requires-clause-free
release-requires-clause-free c =
    let ss = c.requires.state.0 in
    (has_ended ss, lowest_free c.args.graph.now ss c.args.self.now c.in-Some.line c.take_lowest.new.self.left.items (contains nat_cmp c.take_lowest.new.self.ready) c.requires.state.1 c.in-Some.ensures.lowest.0 c.take_lowest.ensures.left c.in-Some.ensures.lowest.2)

pub returns : goal.returns
returns c = on_ok_weaker c.release.result (λ passed ss state.
    (let g = c.args.graph.now in
    let free = lowest_free g ss c.args.self.now c.in-Some.line c.take_lowest.new.self.left.items (contains nat_cmp c.take_lowest.new.self.ready) state c.in-Some.ensures.lowest.0 c.take_lowest.ensures.left c.in-Some.ensures.lowest.2 in
    let ended = c.end_line-end.ensures ss (c.as_slice.ensures.value ∙ state.ends) state.homes in
    advanced g ss c.args.self.now (record { waiting = c.release.new.self; ends = with_item c.args.self.now.ends c.in-Some.line c.end_line-end.result; order = c.push.new.items; homes = c.end_line-end.new.homes }) c.in-Some.line c.end_line-end.result state c.in-Some.ensures.lowest.0 c.in-Some.ensures.lowest.1 (passed (has_ended ss) free) free.was_left ended.0 refl c.in_ok-push.ensures.ok ended.1)) c.release.ensures
