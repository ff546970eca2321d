-- What is told as a line of the text is that line.
use Rattle.std.proofs.Common.{◌≡◌, ℕ, ◌-◌, List, [], sym, ◌∙◌, ap}
use Rattle.std.specs.Prelude.{Some, slice_get}
use Rattle.std.specs.List.{join_with_byte}
use Rattle.std.proofs.lemmas.Option.{get_or_from_slice_get}
use Rattle.graph_terms.specs.declared.verb.Line.{Line}
use Rattle.graph_terms.specs.Graph.{GraphValue}
use Rattle.graph_terms.specs.Spelling.{line_words}
use Rattle.graph_words.specs.Words.{pieces}
use Rattle.graph_reader.specs.Laws.{StandsAt, OperationsStand, LinesStand, refused_line}
use Rattle.graph_reader.proofs.TextLines.{lines_stand}
use Rattle.explain_text.specs.Lines.{line_number, line_of}
use Rattle.explain_text.specs.Laws.{whole, TellsLine, TellsLines, TellsOwnLines}

tells_line : (bytes : List ℕ) (g : GraphValue) (i : ℕ) (l : Line) → StandsAt bytes g i l → TellsLine bytes g i l
tells_line bytes g i l s =
    let at : slice_get (pieces 10 bytes) (line_number g (whole bytes) i - 1) ≡ Some (join_with_byte 32 (line_words g l)) = s.line in
    let line : line_of g (whole bytes) i ≡ join_with_byte 32 (line_words g l) = get_or_from_slice_get (pieces 10 bytes) (line_number g (whole bytes) i - 1) (join_with_byte 32 (line_words g l)) [] at in
    record {
      number = at ∙ ap (λ x. Some x) (sym line);
      line = line;
      words = ap (pieces 32) line ∙ s.words;
    }

tells_lines : (bytes : List ℕ) (g : GraphValue) → OperationsStand bytes g → TellsLines bytes g
tells_lines bytes g s i l at = tells_line bytes g i l (s i l at)

pub tells_own_lines : (bytes : List ℕ) → TellsOwnLines bytes
tells_own_lines bytes =
    let stand : LinesStand bytes = lines_stand bytes in
    record {
      of_text = λ g t. tells_lines bytes g (stand.of_text g t);
      above_line = λ n w f. tells_lines bytes f.before (stand.above_line n w f);
      above_rest = λ n w f. tells_lines bytes f.before (stand.above_rest n w f);
      refused = λ n w f. get_or_from_slice_get (pieces 10 bytes) (n - 1) (refused_line bytes n w f) [] (stand.refused n w f);
    }
