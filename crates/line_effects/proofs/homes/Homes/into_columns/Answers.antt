use Rattle.std.proofs.Common.{◌≡◌, ap, sym, ◌∙◌, ◌++◌, ◌∷◌, [], length, map, Some, arith, vec_len}
use Rattle.std.specs.List.{filter_map}
use Rattle.std.proofs.lemmas.List.{map-id}
use Rattle.std.proofs.lemmas.Iterator.Adapters.{YieldsList-from_vec}
use Rattle.std.proofs.lemmas.Iterator.Consumers.{YieldsList-turn, YieldsList-end}
use Rattle.line_effects.proofs.HomesFacts.{length-home, all_stand, home_push}
use Rattle.line_effects.proofs.homes.Homes.into_columns.Goals as goal

pub push_within-requires : goal.push_within-requires
push_within-requires c =
    let places = c.self.inside.places in
    let gives = c.into_iter-place-iterator.ensures.into_iter_gives in
    let turn = YieldsList-turn (YieldsList-from_vec {s = c.into_iter-place-iterator.result} places.items gives.0 (gives.1 ∙ places.ok.0)) c.loop-place.yielded c.loop-place.place-iterator c.loop-place.yielded_by c.next.result c.next.new.self c.in-Some.place c.in-Some.is c.next.ensures.steps in
    let at_home = length-home c.loop-place.yielded in
    let size : vec_len c.loop-place.room ≡ length (filter_map (λ x. x) c.loop-place.yielded) = c.loop-place.room.ok.0 ∙ ap length c.loop-place.invariant.columns in
    omega (arith, turn.0, at_home, size, c.loop-place.invariant.room, c.self.invariant.1)

pub loop-place-preserved-in-Some-place : goal.loop-place-preserved-in-Some-place
loop-place-preserved-in-Some-place c = record {
  runs = tt;
  ends = tt;
  columns = c.push_within.ensures.items ∙ ap (λ xs. xs ++ c.in-Some-place.column ∷ []) c.loop-place.invariant.columns ∙ sym (home_push c.loop-place.yielded c.in-Some.place c.in-Some-place.column c.in-Some-place.is);
  room = omega (arith, c.loop-place.invariant.room, c.push_within.ensures.capacity);
}

pub invariant_of-result : goal.invariant_of-result
invariant_of-result c =
    let places = c.self.inside.places in
    let gives = c.into_iter-place-iterator.ensures.into_iter_gives in
    let end = YieldsList-end (YieldsList-from_vec {s = c.into_iter-place-iterator.result} places.items gives.0 (gives.1 ∙ places.ok.0)) c.loop-place.yielded c.loop-place.place-iterator c.loop-place.yielded_by c.next.result c.next.new.self c.in-None.is c.next.ensures.steps in
    let at_home = length-home c.loop-place.yielded in
    let size = ap length c.loop-place.invariant.columns in
    omega (arith, end.1, at_home, size, c.self.invariant.2)

pub returns : goal.returns
returns c =
    let places = c.self.inside.places in
    let gives = c.into_iter-place-iterator.ensures.into_iter_gives in
    let end = YieldsList-end (YieldsList-from_vec {s = c.into_iter-place-iterator.result} places.items gives.0 (gives.1 ∙ places.ok.0)) c.loop-place.yielded c.loop-place.place-iterator c.loop-place.yielded_by c.next.result c.next.new.self c.in-None.is c.next.ensures.steps in
    let all : c.loop-place.yielded ≡ c.args.self = sym (map-id c.loop-place.yielded) ∙ end.0 ∙ c.self.view_is in
    all_stand c.args.self c.requires ∙ ap (λ ps. map (λ x. Some x) (filter_map (λ x. x) ps)) (sym all) ∙ ap (map (λ x. Some x)) (sym c.loop-place.invariant.columns)
