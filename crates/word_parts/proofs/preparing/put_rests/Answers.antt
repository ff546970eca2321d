use Rattle.std.proofs.Common.{arith, ◌≡◌, ◌+◌, ◌<◌, List, length, set, refl, sym, ◌∙◌, ap, subst}
use Rattle.std.specs.Prelude.{Contains}
use Rattle.std.proofs.lemmas.List.{length_push}
use Rattle.std.proofs.lemmas.List.Elements.{Contains-push, Contains-append_left}
use Rattle.word_steps.specs.declared.content.Content.{Content}
use Rattle.word_steps.specs.Layout.{size_of, share_slot}
use Rattle.word_parts.specs.Preparing.{AreSpread, IsLoose}
use Rattle.share_words.specs.Planes.{slot_in_planes}
use Rattle.share_words.proofs.Public.{slot_within}
use Rattle.word_parts.proofs.PrepareFacts.{loose_set, spread_one}
use Rattle.word_parts.proofs.preparing.put_rests.Goals as goal

pub loop-rest-init : goal.loop-rest-init
loop-rest-init c = record {
  spread = subst (λ n. AreSpread c.args.graph.now n c.args.slots.now.items c.args.rests.items) (sym c.requires.spread.each) c.requires.spread;
  loose = c.requires.loose;
  few = (let e = c.requires.spread.each in omega (arith, e));
  room = refl;
}

pub index_mut-requires : goal.index_mut-requires
unfolding slot_in_planes
index_mut-requires c =
    let z = size_of c.args.graph.now in
    let i = c.loop-rest.invariant in
    let size : length c.loop-rest.rests.items ≡ length c.pop.new.self.items + 1 = ap length c.in-Some.ensures.items ∙ length_push c.pop.new.self.items c.in-Some.rest in
    let near : length c.pop.new.self.items < z.cols = omega (arith, size, i.few) in
    let within = slot_within (z.lines + z.cols) z.cols z.planes (length c.pop.new.self.items) 0 near c.requires.planes in
    omega (arith, within.1, i.spread.deep, c.len.ensures, c.lines.ensures.number, c.columns.ensures.number)

pub let_loose-requires : goal.let_loose-requires
unfolding slot_in_planes
let_loose-requires c =
    let z = size_of c.args.graph.now in
    let i = c.loop-rest.invariant in
    let size : length c.loop-rest.rests.items ≡ length c.pop.new.self.items + 1 = ap length c.in-Some.ensures.items ∙ length_push c.pop.new.self.items c.in-Some.rest in
    let near : length c.pop.new.self.items < z.cols = omega (arith, size, i.few) in
    let within = slot_within (z.lines + z.cols) z.cols z.planes (length c.pop.new.self.items) 0 near c.requires.planes in
    subst IsLoose (sym c.replace.ensures.value) (i.loose.0 c.index_mut.result.now (c.lines.result + c.columns.result + c.len.result, omega (arith, within.1, i.spread.deep, c.len.ensures, c.lines.ensures.number, c.columns.ensures.number), sym c.index_mut.ensures.value))

pub loop-rest-preserved : goal.loop-rest-preserved
unfolding slot_in_planes
loop-rest-preserved c =
    let g = c.args.graph.now in
    let z = size_of g in
    let i = c.loop-rest.invariant in
    let ls = c.loop-rest.rests.items in
    let ms = c.pop.new.self.items in
    let xs = c.loop-rest.slots.items in
    let e = c.in-Some.ensures.items in
    let size : length ls ≡ length ms + 1 = ap length e ∙ length_push ms c.in-Some.rest in
    let near : length ms < z.cols = omega (arith, size, i.few) in
    let spot : c.lines.result + c.columns.result + c.len.result ≡ share_slot z (length ms) 0 = omega (arith, c.len.ensures, c.lines.ensures.number, c.columns.ensures.number) in
    let now : set xs (c.lines.result + c.columns.result + c.len.result) c.replace.new.dest ≡ set xs (share_slot z (length ms) 0) c.in-Some.rest =
    ap (λ n. set xs n c.replace.new.dest) spot ∙ ap (λ (y : Content). set xs (share_slot z (length ms) 0) y) c.replace.ensures.after in
    let loose : IsLoose c.in-Some.rest = i.loose.1 c.in-Some.rest (subst (λ (l : List Content). Contains l c.in-Some.rest) (sym e) (Contains-push ms c.in-Some.rest)) in
    record {
      spread = spread_one g (length ms) xs _ ls ms c.in-Some.rest near c.requires.planes i.spread e refl now;
      loose = (
        loose_set xs _ (share_slot z (length ms) 0) c.in-Some.rest i.loose.0 loose now,
        λ x m. i.loose.1 x (subst (λ (l : List Content). Contains l x) (sym e) (Contains-append_left ms _ x m)),
      );
      few = omega (arith, size, i.few);
      room = i.room;
    }
