use Rattle.std.proofs.Common.{refl, inr}
use Rattle.explain_graph.proofs.RefusalFacts.{meeting_of, advice_of}
use Rattle.explain_graph.proofs.reasons.explain_conflict.Goals as goal

pub returns : goal.returns
returns c =
    let e = c.in_ok-race.ensures in
    record {
      first = refl;
      second = refl;
      shared = e.shared;
      forward = e.forward;
      backward = e.backward;
      meeting = meeting_of c.args.graph.now c.args.first c.args.second c.in_ok-race.race.meeting e.meeting e.none;
      commutes = c.modes_commute-commutes.ensures;
      first_sections = record { sound = c.in_ok-sections_of.ensures.sound; complete = c.in_ok-sections_of.ensures.complete };
      second_sections = record { sound = c.in_ok-sections_of-2.ensures.sound; complete = c.in_ok-sections_of-2.ensures.complete };
      not_exempt = λ x. c.requires.refused.5.here (λ before conflict. inr (inr x));
      advice = advice_of c.args.graph.now c.args.first c.args.second c.in_ok-sections_of.field-0.items c.in_ok-sections_of-2.field-0.items c.as_slice.result.now c.as_slice-2.result.now c.in_ok-advice.advice c.as_slice.ensures.value c.as_slice-2.ensures.value c.in_ok-advice.ensures.found c.in_ok-advice.ensures.none;
      topmost = c.in_ok-topmost.ensures;
    }
