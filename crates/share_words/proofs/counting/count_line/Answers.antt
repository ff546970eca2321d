use Rattle.std.proofs.Common.{◌≡◌, ◌<◌, ◌≤◌, length, sym, subst, arith}
use Rattle.std.specs.Prelude.{Some, slice_get}
use Rattle.std.proofs.lemmas.Option.{slice_get_within}
use Rattle.basics.proofs.ListFacts.{got_contains}
use Rattle.basics.proofs.ListParts.{take_more, take_whole, got_beyond}
use Rattle.graph_terms.specs.Graph.{columns}
use Rattle.graph_terms.specs.Access.{accesses}
use Rattle.share_words.specs.Counting.{AreCounted}
use Rattle.share_words.proofs.Counts.{counted_more, counted_line}
use Rattle.share_words.proofs.counting.count_line.Goals as goal

pub count_access-requires : goal.count_access-requires
count_access-requires c =
    let fits : c.in-Some.access.column < length (columns c.args.graph.now) = (c.accesses_fit.ensures c.args.graph.now c.args.line c.in-Some.access c.lines.ensures.is_graph (got_contains (accesses c.args.graph.now c.args.line) c.loop-k.k c.in-Some.access (sym c.in-Some.ensures))).column in
    omega (arith, c.loop-k.invariant.counted.each)

pub loop-k-preserved : goal.loop-k-preserved
loop-k-preserved c =
    let at : slice_get (accesses c.args.graph.now c.args.line) c.loop-k.k ≡ Some c.in-Some.access = sym c.in-Some.ensures in
    let within : c.loop-k.k < length (accesses c.args.graph.now c.args.line) = slice_get_within (accesses c.args.graph.now c.args.line) c.loop-k.k c.in-Some.access at in
    let fits : c.in-Some.access.column < length (columns c.args.graph.now) = (c.accesses_fit.ensures c.args.graph.now c.args.line c.in-Some.access c.lines.ensures.is_graph (got_contains (accesses c.args.graph.now c.args.line) c.loop-k.k c.in-Some.access at)).column in
    record {
      few = omega arith;
      counted = subst (λ xs. AreCounted c.args.graph.now c.args.line xs c.count_access.new.counts.items) (sym (take_more (accesses c.args.graph.now c.args.line) c.loop-k.k c.in-Some.access at))
          (subst (AreCounted c.args.graph.now c.args.line _) (sym c.count_access.ensures) (counted_more c.args.graph.now c.args.line _ c.loop-k.counts.items c.in-Some.access fits c.loop-k.invariant.counted));
    }

pub returns-after-loop-k : goal.returns-after-loop-k
returns-after-loop-k c =
    let few : length (accesses c.args.graph.now c.args.line) ≤ 3 = c.accesses_are_few.ensures c.args.graph.now c.args.line in
    counted_line c.args.graph.now c.args.line c.loop-k.counts.items
    (subst (λ xs. AreCounted c.args.graph.now c.args.line xs c.loop-k.counts.items) (take_whole (accesses c.args.graph.now c.args.line) c.loop-k.k (let t = c.loop-k-test.false in omega (arith, t))) c.loop-k.invariant.counted)

pub returns-in_default : goal.returns-in_default
returns-in_default c =
    counted_line c.args.graph.now c.args.line c.loop-k.counts.items
    (subst (λ xs. AreCounted c.args.graph.now c.args.line xs c.loop-k.counts.items) (take_whole (accesses c.args.graph.now c.args.line) c.loop-k.k (got_beyond (accesses c.args.graph.now c.args.line) c.loop-k.k (sym c.in_default.ensures))) c.loop-k.invariant.counted)
