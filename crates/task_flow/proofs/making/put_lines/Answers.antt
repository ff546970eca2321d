use Rattle.std.proofs.Common.{◌≡◌, ◌+◌, ◌++◌, [], ◌∷◌, length, sym, ◌∙◌, ap, append_assoc, arith, rules}
use Rattle.std.specs.Vec.Iter.{into_iter_items, into_iter_len}
use Rattle.task_flow.proofs.PutSteps.{put_named, put_goes, put_stops}
use Rattle.task_flow.proofs.making.put_lines.Goals as goal

pub offer_line-requires-clause-named : goal.offer_line-requires-clause-named
offer_line-requires-clause-named c = λ none.
    let inv = c.loop-line.invariant in
    put_named c.args.graph.now c.loop-line.graph c.loop-line.yielded (into_iter_items c.loop-line.line-iterator) (into_iter_items c.next.new.self) c.in-Some.line inv.graph inv.fits c.in-Some.ensures.steps.0

pub returns-then-is_some-clause-limit : goal.returns-then-is_some-clause-limit
returns-then-is_some-clause-limit c = λ h.
    let inv = c.loop-line.invariant in
    put_stops c.args.graph.now c.loop-line.graph c.loop-line.yielded (into_iter_items c.loop-line.line-iterator) (into_iter_items c.next.new.self) c.in-Some.line inv.graph inv.fits c.in-Some.ensures.steps.0 c.args.row.items c.in_ok-offer_line.field-0
    (let z : into_iter_items c.into_iter-line-iterator.result ≡ c.args.row.items = search rules in inv.items ∙ z) c.in_ok-offer_line.ensures.fault (sym c.is_some.ensures ∙ c.if-is_some.true)

pub loop-line-preserved : goal.loop-line-preserved
loop-line-preserved c =
    let inv = c.loop-line.invariant in
    let s = put_goes c.args.graph.now c.loop-line.graph c.loop-line.yielded (into_iter_items c.loop-line.line-iterator) (into_iter_items c.next.new.self) c.in-Some.line inv.graph inv.fits c.in-Some.ensures.steps.0 c.offer_line.new.self c.in_ok-offer_line.field-0
    c.in_ok-offer_line.ensures.fault (sym c.is_some.ensures ∙ c.if-is_some.false) c.in_ok-offer_line.ensures.added in
    let items : into_iter_items c.loop-line.line-iterator ≡ c.in-Some.line ∷ into_iter_items c.next.new.self = c.in-Some.ensures.steps.0 in
    let less : into_iter_len c.next.new.self + 1 ≡ into_iter_len c.loop-line.line-iterator = c.in-Some.ensures.steps.1 in
    let count : into_iter_len c.loop-line.line-iterator ≡ length (into_iter_items c.loop-line.line-iterator) = inv.count in
    let more = ap length items in
    record {
      graph = s.graph;
      fits = s.fits;
      within = λ h. s.within;
      items = append_assoc c.loop-line.yielded (c.in-Some.line ∷ []) (into_iter_items c.next.new.self) ∙ (ap (λ xs. c.loop-line.yielded ++ xs) (sym items) ∙ inv.items);
      count = omega arith;
    }
