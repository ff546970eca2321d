use Rattle.std.proofs.Common.{sym, ◌∙◌, subst}
use Rattle.std.proofs.lemmas.Bool.{not-false}
use Rattle.graph_terms.specs.Name.{is_name_in}
use Rattle.graph_words.specs.Draft.{as_place}
use Rattle.word_meanings.specs.Telling.{Tells, no_faults}
use Rattle.word_meanings.specs.declared.known.Known.{Known}
use Rattle.word_meanings.proofs.SeenWords.{found_below}
use Rattle.word_meanings.proofs.KnownWords.{alike_numbered, named_tells, misnamed_refused, twice_refused, unlike_refused}
use Rattle.word_meanings.proofs.known.known_name.Goals as goal

pub is_twice-requires : goal.is_twice-requires
is_twice-requires c = found_below c.args.graph.now c.args.word.now c.look_up-misnamed.result.found c.look_up-misnamed.ensures.found

pub is_alike-requires : goal.is_alike-requires
is_alike-requires c = found_below c.args.graph.now c.args.word.now c.look_up-misnamed.result.found c.look_up-misnamed.ensures.found

pub returns-then-misnamed : goal.returns-then-misnamed
returns-then-misnamed c = misnamed_refused c.args.graph.now c.args.word.now c.look_up-misnamed.result.found c.look_up-misnamed.ensures.found c.args.place c.requires (sym c.look_up-misnamed.ensures.misnamed ∙ c.if-misnamed.true)

pub returns-then-is_twice : goal.returns-then-is_twice
returns-then-is_twice c = twice_refused c.args.graph.now c.args.word.now c.look_up-misnamed.result.found c.look_up-misnamed.ensures.found c.args.place c.requires (sym c.is_twice.ensures ∙ c.if-is_twice.true)

pub returns-then-not-is_alike : goal.returns-then-not-is_alike
returns-then-not-is_alike c = unlike_refused c.args.graph.now c.args.word.now c.look_up-misnamed.result.found c.look_up-misnamed.ensures.found c.args.place c.requires (sym c.is_alike.ensures ∙ c.if-not-is_alike.true)

pub returns-in-Some : goal.returns-in-Some
returns-in-Some c =
    subst (λ (k : Known). Tells c.args.graph.now (as_place c.args.place) c.args.word.now (record { faults = no_faults; number = k.number; value = k.value })) (sym c.named.ensures)
    (named_tells c.args.graph.now c.args.word.now c.look_up-misnamed.result.found c.look_up-misnamed.ensures.found c.args.place c.requires c.in-Some.number
    (not-false (is_name_in (c.args.graph.now).format c.args.word.now) (sym c.look_up-misnamed.ensures.misnamed ∙ c.if-misnamed.false))
    (sym c.is_twice.ensures ∙ c.if-is_twice.false) (sym c.is_alike.ensures ∙ c.if-not-is_alike.false) (sym c.in-Some.ensures))

pub returns-in-None : goal.returns-in-None
returns-in-None c = absurd (alike_numbered c.args.graph.now c.args.place c.look_up-misnamed.result.found c.requires (sym c.is_alike.ensures ∙ c.if-not-is_alike.false) (sym c.in-None.ensures))
