-- What the reader of a line gives to the loop.
use Rattle.std.proofs.Common.{◌≡◌, ℕ, ◌+◌, true, false, ◌⊎◌, inl, inr, List, refl, sym, ◌∙◌, ap, subst}
use Rattle.std.specs.Prelude.{codes, bytes_eq}
use Rattle.graph_terms.specs.declared.decl.Decl.{Decl}
use Rattle.graph_terms.specs.declared.verb.Line.{Line}
use Rattle.graph_terms.specs.Graph.{GraphValue}
use Rattle.graph_words.specs.Words.{pieces}
use Rattle.graph_words.specs.Draft.{draft}
use Rattle.graph_reader.specs.FirstFault.{has_newline, first_line, words_fault}
use Rattle.graph_reader.specs.Reading.{IsTaken, with_value, after_line}
use Rattle.graph_reader.proofs.LineSteps.{with_item}
use Rattle.graph_reader.proofs.ReadSoFar.{ReadSoFar, read_line}

same_graph : (g : GraphValue) (i : Decl ⊎ Line) → with_item g i ≡ with_value g i
same_graph g (inl d) = refl
same_graph g (inr l) = refl

pub item_read : (bytes : List ℕ) (g new : GraphValue) (rest line after : List ℕ) (number : ℕ) → ReadSoFar bytes g rest number → has_newline rest ≡ true → line ≡ first_line rest → after ≡ after_line rest →
    bytes_eq (first_line rest) (codes "end") ≡ false → IsTaken g (pieces 32 line) new → ReadSoFar bytes new after (number + 1)
item_read bytes g new rest line after number r n e f open_line h =
    let k : ReadSoFar bytes (with_item g h.1.item) (after_line rest) (number + 1) = read_line bytes g rest number r h.1.item n open_line (ap (λ x. words_fault g (pieces 32 x)) (sym e) ∙ h.0) h.1 (ap (λ x. draft g (pieces 32 x)) (sym e) ∙ h.2) refl in
    subst (λ h. ReadSoFar bytes h after (number + 1)) (same_graph g h.1.item ∙ sym h.3) (subst (λ x. ReadSoFar bytes (with_item g h.1.item) x (number + 1)) (sym f) k)
