use Rattle.std.proofs.Common.{◌≡◌, ◌⊎◌, [], length, sym, ◌∙◌, ap, subst}
use Rattle.event_table.specs.EventMap.{EventMap, answer}
use Rattle.run_state.specs.Run.{stage_at, time_at, issued, out}
use Rattle.run_words.specs.Words.{KnowsHandles}
use Rattle.closed_run.proofs.core_of.Goals as goal

pub of_parts-requires-clause-shown : goal.of_parts-requires-clause-shown
of_parts-requires-clause-shown c = let p = c.close-parts.ensures in (p.run, p.handled, p.shown)

pub of_parts-requires-clause-room : goal.of_parts-requires-clause-room
of_parts-requires-clause-room c = c.close-parts.ensures.room

pub of_parts-requires-clause-enough : goal.of_parts-requires-clause-enough
of_parts-requires-clause-enough c = c.close-parts.ensures.enough

pub of_parts-requires-clause-most : goal.of_parts-requires-clause-most
of_parts-requires-clause-most c = c.close-parts.ensures.most

pub returns : goal.returns
returns c =
    let p = c.close-parts.ensures in
    let is = c.of_parts.ensures.state p.run p.handled p.shown in
    record {
      graph = is.graph ∙ p.graph;
      unhosted = is.unhosted;
      slots = ap (λ (t : EventMap). length t.slots) is.tabled ∙ p.slots;
      nothing_out = λ i. ap (λ s. out s i) is.stages ∙ p.nothing_out i;
      issued = λ i. ((λ knows. ap (λ s. issued s i) is.stages ∙ (p.issued i).0 knows), (λ h. (p.issued i).1 (ap (λ s. issued s i) (sym is.stages) ∙ h)));
      ended = λ i x. ((λ knows. ap (λ s. stage_at s i) is.stages ∙ (p.ended i x).0 knows), (λ h. (p.ended i x).1 (ap (λ s. stage_at s i) (sym is.stages) ∙ h)));
      times = λ i t. ((λ knows. ap (λ ts. time_at ts i) is.times ∙ (p.times i t).0 knows), (λ h. (p.times i t).1 (ap (λ ts. time_at ts i) (sym is.times) ∙ h)));
      handles = λ hs knows. (let begins = p.handles hs knows in (begins.0, is.handled ∙ begins.1));
      all_handles = subst (λ hs. (hs ≡ []) ⊎ KnowsHandles c.args.seat hs) (sym is.handled) p.all_handles;
      fates = λ h f knows. ap (λ t. answer t h) is.tabled ∙ p.fates h f knows;
    }
