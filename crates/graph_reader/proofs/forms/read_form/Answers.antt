use Rattle.std.proofs.Common.{◌≡◌, arith, length, List, ℕ, Bor, map, subst, ◌∙◌, ap}
use Rattle.std.specs.Prelude.{Some, Ok}
use Rattle.graph_terms.specs.declared.verb.Line.{Line}
use Rattle.graph_terms.specs.declared.verb.Verb.{Verb}
use Rattle.graph_terms.specs.Table.{verb_of}
use Rattle.graph_terms.specs.Name.{is_name_in}
use Rattle.graph_reader.specs.FirstFault.{draft_fault}
use Rattle.graph_reader.specs.Kinds.{kind_draft, kind_verb, IsFormFault}
use Rattle.graph_reader.specs.Reading.{IsLineRead}
use Rattle.std.proofs.lemmas.Bool.{leb-false}
use Rattle.std.proofs.lemmas.List.{length-map}
use Rattle.graph_words.specs.Draft.{form_of, on_events, line_number}
use Rattle.graph_reader.proofs.FormFaults.{refused_word, read_as, few_events}
use Rattle.graph_reader.proofs.forms.read_form.Goals as goal

abbrev line_with : List ℕ → Verb → List ℕ → Line
line_with name verb on = record { name = name; verb = verb; on = on }

pub returns-in-Ok-Some : goal.returns-in-Ok-Some
returns-in-Ok-Some c =
    let ws = map (λ (w : Bor (List ℕ)). w.now) c.args.words.now in
    subst (λ n. draft_fault c.args.graph.now (kind_draft c.args.graph.now c.args.kind n ws) ≡ Some c.in-Ok-Some.why) c.in-Some.ensures.0
    (refused_word c.args.graph.now c.args.kind c.in-Some.name ws c.in-Ok-Some.why (ap (is_name_in (c.args.graph.now).format) c.in-Some.ensures.0 ∙ c.in-Some.ensures.1)
    (subst (IsFormFault c.args.graph.now c.args.kind c.in-Some.name ws) c.in-Ok-Some.field-0-is c.in-Ok-Some.ensures))

pub returns : goal.returns
returns c =
    let ws = map (λ (w : Bor (List ℕ)). w.now) c.args.words.now in
    let seen = c.in-Ok.ensures in
    let verb : c.of.result ≡ kind_verb c.args.graph.now c.args.kind ws = c.of.ensures ∙ ap (verb_of c.args.kind) seen.parts in
    let line : Line = line_with c.in-Some.name c.of.result c.in-Ok.field-0.on in
    subst (λ n. IsLineRead c.args.graph.now (kind_draft c.args.graph.now c.args.kind n ws) (Ok line)) c.in-Some.ensures.0
    (read_as c.args.graph.now c.args.kind c.in-Some.name ws line (ap (is_name_in (c.args.graph.now).format) c.in-Some.ensures.0 ∙ c.in-Some.ensures.1)
    (subst (IsFormFault c.args.graph.now c.args.kind c.in-Some.name ws) c.in-Ok-None.field-0-is c.in-Ok-None.ensures)
    (ap (λ v. line_with c.in-Some.name v c.in-Ok.field-0.on) verb ∙ ap (line_with c.in-Some.name (kind_verb c.args.graph.now c.args.kind ws)) seen.on))

pub form_fault-requires-clause-several : goal.form_fault-requires-clause-several
form_fault-requires-clause-several c e =
    let ws = map (λ (w : Bor (List ℕ)). w.now) c.args.words.now in
    let es = on_events (c.args.graph.now).format (form_of c.args.kind) ws in
    let many : length c.in-Ok.field-0.on ≡ length es = ap length c.in-Ok.ensures.on ∙ length-map es (line_number c.args.graph.now) in
    few_events es (omega (arith, many, c.len.ensures, leb-false 2 c.len.result e))
