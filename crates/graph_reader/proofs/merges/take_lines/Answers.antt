use Rattle.std.proofs.Common.{◌≡◌, Bool, List, ℕ, Bor, inr, [], map, refl, sym, ◌∙◌, ap}
use Rattle.graph_terms.specs.declared.verb.Line.{Line}
use Rattle.graph_terms.specs.Fits.{line_fault}
use Rattle.graph_words.specs.Draft.{merge_with}
use Rattle.graph_reader.specs.Merges.{merge_verb, merge_line}
use Rattle.graph_reader.proofs.MergeFaults.{merge_refused, lines_twice, lines_fault}
use Rattle.graph_reader.proofs.TakenLines.{offered, line_taken}
use Rattle.graph_reader.proofs.merges.take_lines.Goals as goal

abbrev line_with : List ℕ → Bool → List ℕ → Line
line_with name ignores numbers = record { name = name; verb = merge_verb ignores numbers; on = [] }

pub returns-in-Ok-true : goal.returns-in-Ok-true
returns-in-Ok-true c =
    let ws = (map (λ (w : Bor (List ℕ)). w.now) c.args.words.now) in
    (merge_refused c.args.graph.now c.args.name (merge_verb c.args.ignores) ws _ c.requires.named (lines_twice c.args.graph.now c.args.name ws c.decls.ensures.is_graph c.requires.lines (c.in-Ok-true.ensures c.in-Ok-true.field-0-test)), refl)

pub offer-requires : goal.offer-requires
offer-requires c =
    let ws = (map (λ (w : Bor (List ℕ)). w.now) c.args.words.now) in
    let same : c.in-Ok.line ≡ merge_line c.args.graph.now c.args.ignores c.args.name ws = c.in-Ok.ensures ∙ ap (line_with c.args.name c.args.ignores) c.requires.numbers in
    line_taken c.args.graph.now (merge_with c.args.graph.now c.args.name (merge_verb c.args.ignores) ws) c.in-Ok.line c.requires.takable
    (lines_fault c.args.graph.now c.args.name ws c.decls.ensures.is_graph c.requires.lines c.args.ignores c.requires.named ∙ ap (line_fault c.args.graph.now) (sym same)) (ap inr (sym same))

pub returns-in-Ok : goal.returns-in-Ok
returns-in-Ok c =
    let ws = (map (λ (w : Bor (List ℕ)). w.now) c.args.words.now) in
    let same : c.in-Ok.line ≡ merge_line c.args.graph.now c.args.ignores c.args.name ws = c.in-Ok.ensures ∙ ap (line_with c.args.name c.args.ignores) c.requires.numbers in
    offered c.args.graph.now c.offer.new.graph (merge_with c.args.graph.now c.args.name (merge_verb c.args.ignores) ws) c.in-Ok.line c.offer.result
    (lines_fault c.args.graph.now c.args.name ws c.decls.ensures.is_graph c.requires.lines c.args.ignores c.requires.named ∙ ap (line_fault c.args.graph.now) (sym same)) (ap inr (sym same)) c.offer.ensures
