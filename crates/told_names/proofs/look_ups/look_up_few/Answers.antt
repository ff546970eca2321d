use Rattle.std.proofs.Common.{◌<◌, ◌∙◌, length, arith}
use Rattle.basics.specs.Words.{contents}
use Rattle.told_names.specs.Named.{IsNamedWord, IsInside}
use Rattle.told_names.proofs.NamedFacts.{each_word, looked_more}
use Rattle.told_names.proofs.look_ups.look_up_few.Goals as goal

pub loop-i-preserved : goal.loop-i-preserved
loop-i-preserved c =
    let xs = c.loop-i.found.items in
    let ys = c.push.new.items.items in
    let x = c.look_up.result in
    let more = c.in_ok-push.ensures.ok in
    let before = c.loop-i.invariant in
    let below : c.loop-i.i < length c.args.list.now = omega arith in
    record {
      words = looked_more c.args.list.now c.loop-i.i xs ys x below more (c.look_up.ensures.word ∙ c.at.ensures) before.words;
      named = each_word (IsNamedWord (contents c.args.names.now) c.args.number) xs ys x more c.look_up.ensures.named before.named;
      inside = each_word (IsInside (length c.args.names.now)) xs ys x more c.look_up.ensures.inside before.inside;
    }
