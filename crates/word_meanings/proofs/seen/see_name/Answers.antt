use Rattle.std.proofs.Common.{sym, ◌∙◌, ap}
use Rattle.std.specs.Prelude.{not, unwrap_or}
use Rattle.word_meanings.proofs.SeenWords.{found_below, misnamed_is, twice_is, unlike_is, unknown_is, number_is, name_plain, turned}
use Rattle.word_meanings.proofs.seen.see_name.Goals as goal

pub is_twice-requires : goal.is_twice-requires
is_twice-requires c = found_below c.args.graph.now c.args.word.now c.look_up-misnamed.result.found c.look_up-misnamed.ensures.found

pub is_alike-requires : goal.is_alike-requires
is_alike-requires c = found_below c.args.graph.now c.args.word.now c.look_up-misnamed.result.found c.look_up-misnamed.ensures.found

pub returns : goal.returns
returns c =
    let plain = name_plain (c.args.graph.now).format c.args.place c.args.word.now c.requires in
    record {
      misnamed = c.look_up-misnamed.ensures.misnamed ∙ misnamed_is (c.args.graph.now).format c.args.place c.args.word.now c.requires;
      twice = c.is_twice.ensures ∙ twice_is c.args.graph.now c.args.word.now c.look_up-misnamed.result.found c.look_up-misnamed.ensures.found c.args.place c.requires;
      unknown = turned _ _ c.is_none.ensures ∙ unknown_is c.args.graph.now c.args.word.now c.look_up-misnamed.result.found c.look_up-misnamed.ensures.found c.args.place c.requires;
      unlike = ap not c.is_alike.ensures ∙ unlike_is c.args.graph.now c.args.word.now c.look_up-misnamed.result.found c.look_up-misnamed.ensures.found c.args.place c.requires;
      misnumbered = sym plain.0;
      number = c.unwrap_or.ensures ∙ (ap (λ q. unwrap_or q 0) c.number.ensures ∙ number_is c.args.graph.now c.args.word.now c.look_up-misnamed.result.found c.look_up-misnamed.ensures.found c.args.place c.requires);
      value = sym plain.1;
    }
