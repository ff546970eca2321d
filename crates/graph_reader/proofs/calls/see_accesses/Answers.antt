use Rattle.std.proofs.Common.{◌≡◌, length, ℕ, List, Bor, arith}
use Rattle.std.proofs.lemmas.List.{length-map}
use Rattle.basics.specs.Words.{contents}
use Rattle.graph_reader.proofs.CallFaults.{few_words, seen_more, seen_accesses, seen_faults, three_first, counted_more}
use Rattle.graph_reader.proofs.calls.see_accesses.Goals as goal

pub loop-rest-preserved : goal.loop-rest-preserved
loop-rest-preserved c =
    let with = c.with-faults.ensures in
    record {
      seen = seen_more c.args.graph.now (contents c.args.words.now) (contents c.loop-rest.rest.now) _ _ _ _ c.in-Some.mode c.loop-rest.accesses c.push.new.self c.see_access.result.0 c.loop-rest.faults c.see_access.result.1 c.with-faults.result
          c.loop-rest.invariant.seen (three_first c.loop-rest.rest.now _ _ _ c.in-len3-up.len_at_least) c.in-Some.ensures c.see_access.ensures.access c.in_ok-push.ensures.ok c.see_access.ensures.faults with.misnamed with.twice with.unknown with.unlike with.misnumbered;
      few = counted_more c.loop-rest.accesses c.push.new.self c.see_access.result.0 c.loop-rest.rest.now (length c.args.words.now) c.in-len3-up.len_at_least c.in_ok-push.ensures.ok c.loop-rest.invariant.few;
    }

pub returns-clause-accesses : goal.returns-clause-accesses
returns-clause-accesses c = let l : length (contents c.loop-rest.rest.now) ≡ length c.loop-rest.rest.now = length-map c.loop-rest.rest.now (λ (w : Bor (List ℕ)). w.now) in
    seen_accesses c.args.graph.now (contents c.args.words.now) (contents c.loop-rest.rest.now) c.loop-rest.accesses c.loop-rest.faults c.loop-rest.invariant.seen (few_words (contents c.loop-rest.rest.now) (omega arith))

pub returns-clause-faults : goal.returns-clause-faults
returns-clause-faults c = let l : length (contents c.loop-rest.rest.now) ≡ length c.loop-rest.rest.now = length-map c.loop-rest.rest.now (λ (w : Bor (List ℕ)). w.now) in
    seen_faults c.args.graph.now (contents c.args.words.now) (contents c.loop-rest.rest.now) c.loop-rest.accesses c.loop-rest.faults c.loop-rest.invariant.seen (few_words (contents c.loop-rest.rest.now) (omega arith))
