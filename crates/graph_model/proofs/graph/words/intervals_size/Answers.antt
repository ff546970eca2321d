use Rattle.std.proofs.Common.{◌≡◌, ◌≤◌, ◌<◌, ◌+◌, ◌*◌, ◌^◌, List, ℕ, length, map, ap, subst, arith}
use Rattle.graph_terms.specs.Spelling.{comma_word, interval_word}
use Rattle.graph_model.proofs.CountLaws.{measured_words, few_intervals}
use Rattle.graph_model.proofs.graph.words.intervals_size.Goals as goal

pub overflow_add-size-in-loop-interval-2 : goal.overflow_add-size-in-loop-interval-2
overflow_add-size-in-loop-interval-2 c =
    let few : length c.args.space.now < 2 ^ 32 = few_intervals c.args.space.now c.intervals-interval-items.ensures.is_space in
    let same : length c.intervals-interval-items.result.now ≡ length c.args.space.now = ap length c.intervals-interval-items.ensures.intervals in
    let sum : c.loop-interval.size ≤ 43 * c.loop-interval.interval-index = c.loop-interval.invariant.few in
    omega arith

pub returns-clause-size : goal.returns-clause-size
returns-clause-size c =
    subst (λ (xs : List (ℕ × ℕ)). c.max.result ≡ length (comma_word (map interval_word xs)) + 1) c.intervals-interval-items.ensures.intervals
    (measured_words interval_word c.intervals-interval-items.result.now c.loop-interval.interval-index c.loop-interval.size c.max.result (omega arith) c.loop-interval.invariant.sum c.max.ensures)

pub returns-clause-few : goal.returns-clause-few
returns-clause-few c =
    let few : length c.args.space.now < 2 ^ 32 = few_intervals c.args.space.now c.intervals-interval-items.ensures.is_space in
    let same : length c.intervals-interval-items.result.now ≡ length c.args.space.now = ap length c.intervals-interval-items.ensures.intervals in
    let sum : c.loop-interval.size ≤ 43 * c.loop-interval.interval-index = c.loop-interval.invariant.few in
    omega arith
