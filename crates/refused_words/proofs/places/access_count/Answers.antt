use Rattle.std.proofs.Common.{◌≡◌, ◌+◌, not, length, [], ◌∙◌, ap, sym, arith}
use Rattle.std.specs.Prelude.{is_some}
use Rattle.std.proofs.lemmas.List.{length-map}
use Rattle.basics.specs.Words.{contents}
use Rattle.graph_words.specs.Calls.{access_words}
use Rattle.graph_reader.proofs.Public.{few_words}
use Rattle.refused_words.proofs.CallFacts.{count_next, count_ends, few_next}
use Rattle.refused_words.proofs.places.access_count.Goals as goal

pub loop-rest-preserved : goal.loop-rest-preserved
loop-rest-preserved c = record {
  same = count_next c.loop-rest.rest.now _ c.in-len3-up.len_at_least c.loop-rest.count _ (ap is_some (sym c.mode_of.ensures) ∙ (c.is_none.ensures ∙ ap not c.if-is_none.false)) c.loop-rest.invariant.same;
  few = few_next c.loop-rest.rest.now (record { ref_ptr = (0, 0); now = [] }) c.in-len3-up.len_at_least c.loop-rest.count (length c.args.words.now) c.loop-rest.invariant.few;
}

pub returns-then-is_none : goal.returns-then-is_none
returns-then-is_none c = count_ends c.loop-rest.rest.now _ c.in-len3-up.len_at_least c.loop-rest.count _ (ap is_some (sym c.mode_of.ensures) ∙ (c.is_none.ensures ∙ ap not c.if-is_none.true)) c.loop-rest.invariant.same

pub returns : goal.returns
returns c =
    let size : length (contents c.loop-rest.rest.now) ≡ length c.loop-rest.rest.now = simp length-map in
    let none : length (access_words (contents c.loop-rest.rest.now)) ≡ 0 = ap length (few_words (contents c.loop-rest.rest.now) (omega arith)) in
    let all : c.loop-rest.count + length (access_words (contents c.loop-rest.rest.now)) ≡ length (access_words (contents c.args.words.now)) = c.loop-rest.invariant.same in
    omega arith
