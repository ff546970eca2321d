use Rattle.std.proofs.Common.{◌≡◌, ◌<◌, ◌≤◌, ◌+◌, ◌++◌, [], ◌∷◌, ◌&&◌, not, length, refl, sym, ◌∙◌, ap, length-append, append_assoc, arith, rules}
use Rattle.std.specs.Prelude.{flat_map, slice_index_or}
use Rattle.flow_order.specs.Bits.{word_bit}
use Rattle.flow_order.specs.SourceParts.{is_reached, sources_after}
use Rattle.flow_order.proofs.SourceSteps.{reach_more, least_keeps, least_ends, least_only}
use Rattle.flow_order.proofs.sources.least.Goals as goal

pub lines-preserved : goal.lines-preserved
lines-preserved c =
    let f = c.args.flow.now in
    let n = length c.args.rows.now.rows.items in
    let line = c.in-Some-last_below.line in
    let next = c.in-Some-last_below.ensures in
    let start = flat_map (λ p. p) c.args.kept.now in
    let pushed : c.push-in-Some-last_below.new.self ≡ c.lines.part ++ line ∷ [] = c.in_ok-push-2.ensures.ok in
    let count : length c.push-in-Some-last_below.new.self ≡ length c.lines.part + 1 = ap length pushed ∙ length-append c.lines.part (line ∷ []) in
    let few : length c.lines.part + c.lines.above ≤ length c.args.rows.now.rows.items = c.lines.invariant.few in
    let less : line < c.lines.above = next.0 in
    record {
      size = c.reach.ensures.size ∙ c.lines.invariant.size;
      few = omega arith;
      bits = λ j. reach_more f c.args.commute n (start ++ c.lines.part) line j (word_bit c.lines.mask j) (word_bit c.reach.new.mask j) (word_bit (slice_index_or c.args.rows.now.rows.items line []) j)
          (c.reach.ensures.bits j) (c.lines.invariant.bits j) (c.requires.rows.bits line j (omega arith))
          ∙ ap (λ xs. is_reached (sources_after f c.args.commute n) xs j) (append_assoc start c.lines.part (line ∷ []) ∙ ap (λ xs. start ++ xs) (sym pushed));
      rest = least_keeps f c.args.commute n (word_bit c.args.asked.now) (word_bit c.lines.mask) start _ c.lines.part c.push-in-Some-last_below.new.self c.lines.above line c.lines.invariant.bits next.0 next.1 next.2 c.lines.invariant.rest pushed;
    }

pub returns-then-has_none_below : goal.returns-then-has_none_below
returns-then-has_none_below c =
    let f = c.args.flow.now in
    let n = length c.args.rows.now.rows.items in
    let line = c.in-Some-last_below.line in
    let next = c.in-Some-last_below.ensures in
    let start = flat_map (λ p. p) c.args.kept.now in
    let part = c.push-in-Some-last_below.new.self in
    least_ends f c.args.commute n (word_bit c.args.asked.now) (is_reached (sources_after f c.args.commute n) (start ++ part)) start _ part line (λ i. refl)
    (λ i low. ap (λ b. b && not (is_reached (sources_after f c.args.commute n) (start ++ part) i)) (c.has_none_below.ensures c.if-has_none_below.true i low))
    (least_keeps f c.args.commute n (word_bit c.args.asked.now) (word_bit c.lines.mask) start _ c.lines.part part c.lines.above line c.lines.invariant.bits next.0 next.1 next.2 c.lines.invariant.rest c.in_ok-push-2.ensures.ok)

pub returns : goal.returns
returns c =
    least_ends c.args.flow.now c.args.commute (length c.args.rows.now.rows.items) (word_bit c.args.asked.now) (word_bit c.lines.mask) (flat_map (λ p. p) c.args.kept.now) _ c.lines.part c.lines.above c.lines.invariant.bits c.in_default-last_below.ensures c.lines.invariant.rest

pub returns-in-Some : goal.returns-in-Some
returns-in-Some c =
    let n = length c.args.rows.now.rows.items in
    let same : c.len-above.result ≡ n = search rules in
    c.in_ok-push.ensures.ok ∙ (ap (λ xs. xs ++ c.in-Some.line ∷ []) c.new-part.ensures
    ∙ sym (least_only c.args.flow.now c.args.commute n c.args.kept.now c.args.asked.now c.len-above.result c.in-Some.line (sym c.is_empty.ensures ∙ c.if-is_empty.true) same c.in-Some.ensures))
