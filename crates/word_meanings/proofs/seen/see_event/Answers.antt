use Rattle.std.proofs.Common.{ℕ, refl, sym, ◌∙◌, ap}
use Rattle.std.specs.Prelude.{Option, not, is_some, unwrap_or, bytes_eq}
use Rattle.graph_terms.specs.declared.verb.Line.{Line}
use Rattle.basics.proofs.TestedLists.{position_any}
use Rattle.word_meanings.proofs.SeenWords.{turned}
use Rattle.word_meanings.proofs.seen.see_event.Goals as goal

pub returns : goal.returns
returns c =
    let found = c.look_up-misnamed.ensures.found in
    record {
      misnamed = c.look_up-misnamed.ensures.misnamed;
      twice = refl;
      unknown = turned _ _ c.is_none.ensures ∙ ap not (sym found.used);
      unlike = turned _ _ c.is_none-2.ensures
          ∙ ap not (sym (position_any (λ (x : Line). bytes_eq x.name c.args.word.now) (c.args.graph.now).lines ∙ ap (λ (q : Option ℕ). is_some q) (found.line ∙ sym c.as_line-line.ensures)));
      misnumbered = refl;
      number = c.unwrap_or.ensures ∙ ap (λ (q : Option ℕ). unwrap_or q 0) (c.as_line-line.ensures ∙ sym found.line);
      value = refl;
    }
