use Rattle.std.proofs.Common.{◌≡◌, ◌+◌, ◌/◌, ◌^◌, ◌<◌, ◌≤◌, length, decimal, arith}
use Rattle.std.proofs.lemmas.Fmt.{length-decimal-le}
use Rattle.graph_model.proofs.Digits.{four_digits_more}
use Rattle.graph_model.proofs.graph.words.number_size.Goals as goal

pub overflow_add-size : goal.overflow_add-size
overflow_add-size c =
    let small : c.args.value < 2 ^ 64 = c.ranges.value.fits in
    let few : length (decimal c.args.value) ≤ 20 = length-decimal-le 20 c.args.value (omega arith) (omega arith) small in
    let is : c.loop-rest.size + length (decimal c.loop-rest.rest) ≡ length (decimal c.args.value) + 2 = c.loop-rest.invariant in
    omega arith

pub overflow_add-result : goal.overflow_add-result
overflow_add-result c =
    let small : c.args.value < 2 ^ 64 = c.ranges.value.fits in
    let few : length (decimal c.args.value) ≤ 20 = length-decimal-le 20 c.args.value (omega arith) (omega arith) small in
    let is : c.loop-rest.size + length (decimal c.loop-rest.rest) ≡ length (decimal c.args.value) + 2 = c.loop-rest.invariant in
    omega (arith, is, few, c.more_digits.ensures.digits)

pub loop-rest-preserved : goal.loop-rest-preserved
loop-rest-preserved c =
    let large : 10000 ≤ c.loop-rest.rest = omega arith in
    let small : c.loop-rest.rest < 2 ^ 64 = c.loop-rest.auto.rest-fits.fits in
    let step : length (decimal c.loop-rest.rest) ≡ length (decimal (c.loop-rest.rest / 10 / 10 / 10 / 10)) + 4 = four_digits_more c.loop-rest.rest large small in
    let is : c.loop-rest.size + length (decimal c.loop-rest.rest) ≡ length (decimal c.args.value) + 2 = c.loop-rest.invariant in
    omega arith

pub returns : goal.returns
returns c =
    let value : c.args.value < 2 ^ 64 = c.ranges.value.fits in
    let few : length (decimal c.args.value) ≤ 20 = length-decimal-le 20 c.args.value (omega arith) (omega arith) value in
    let is : c.loop-rest.size + length (decimal c.loop-rest.rest) ≡ length (decimal c.args.value) + 2 = c.loop-rest.invariant in
    record { size = omega (arith, is, c.more_digits.ensures.digits); few = omega (arith, is, few, c.more_digits.ensures.digits) }
