use Rattle.std.proofs.Common.{◌≡◌, List, ℕ, map, sym, ◌∙◌, ap, inr, subst}
use Rattle.std.specs.Prelude.{Some, unwrap_or}
use Rattle.graph_terms.specs.declared.verb.Access.{Access}
use Rattle.graph_terms.specs.declared.verb.Line.{Line}
use Rattle.graph_terms.specs.declared.verb.Verb.TheVariants.{Call}
use Rattle.graph_terms.specs.Graph.{GraphValue}
use Rattle.graph_terms.specs.Name.{is_name_in}
use Rattle.graph_terms.specs.Fits.{repeats, is_used, line_fault}
use Rattle.std.specs.Str.{bytes_eq}
use Rattle.graph_words.specs.Words.{value_of}
use Rattle.graph_words.specs.Calls.{CallWords, in_parts}
use Rattle.graph_words.specs.Draft.{line_number, access_spelled, call_with}
use Rattle.graph_reader.specs.Calls.{IsSeenFault}
use Rattle.graph_reader.specs.FirstFault.{draft_fault}
use Rattle.graph_reader.specs.Reading.{IsLineRead}
use Rattle.graph_reader.proofs.CallFaults.{call_refused, call_left, call_events_named, call_line}
use Rattle.graph_reader.proofs.calls.read_call.Goals as goal

abbrev line_of : List ℕ → List ℕ → List ℕ → List Access → List ℕ → Line
line_of name word values accesses on = record { name = name; verb = Call (record { word = word; values = values; accesses = accesses }); on = on }

abbrev values_of : CallWords → List ℕ
values_of c = map (λ w. unwrap_or (value_of w) 0) c.values

abbrev accesses_of : GraphValue → CallWords → List Access
accesses_of g c = map (access_spelled g) c.accesses

pub call_fault-requires : goal.call_fault-requires
call_fault-requires c = λ h. call_events_named c.args.graph.now c.in-Some.name (in_parts c.args.words.now) c.in-Ok.field-0.faults c.in-Ok.ensures.faults h

pub returns-in-Ok-Some : goal.returns-in-Ok-Some
returns-in-Ok-Some c =
    let parts = in_parts c.args.words.now in
    subst (λ n. draft_fault c.args.graph.now (call_with c.args.graph.now n parts) ≡ Some c.in-Ok-Some.why) c.in-Some.ensures.0
    (call_refused c.args.graph.now c.in-Some.name parts c.in-Ok.field-0.faults c.in-Ok.ensures.faults c.in-Ok-Some.why (ap (is_name_in (c.args.graph.now).format) c.in-Some.ensures.0 ∙ c.in-Some.ensures.1)
    (subst (IsSeenFault (is_used c.args.graph.now c.in-Some.name) c.in-Ok.field-0.faults (repeats bytes_eq parts.events)) c.in-Ok-Some.field-0-is c.in-Ok-Some.ensures))

pub returns-in-Ok-None : goal.returns-in-Ok-None
returns-in-Ok-None c =
    let parts = in_parts c.args.words.now in
    let g : GraphValue = c.args.graph.now in
    let n : List ℕ = c.in-Some.name in
    let seen = c.in-Ok.field-0 in
    let same : line_of n c.in-Some-name_in.word seen.values seen.accesses seen.on ≡ line_of n parts.word (values_of parts) (accesses_of g parts) (map (line_number g) parts.events) =
    ap (λ w. line_of n w seen.values seen.accesses seen.on) c.in-Some-name_in.ensures.0
    ∙ (ap (λ vs. line_of n parts.word vs seen.accesses seen.on) c.in-Ok.ensures.values
    ∙ (ap (λ xs. line_of n parts.word (values_of parts) xs seen.on) c.in-Ok.ensures.accesses ∙ ap (λ es. line_of n parts.word (values_of parts) (accesses_of g parts) es) c.in-Ok.ensures.on)) in
    let left : draft_fault g (call_with g n parts) ≡ line_fault g (line_of n parts.word (values_of parts) (accesses_of g parts) (map (line_number g) parts.events)) =
    call_left g n parts seen.faults c.in-Ok.ensures.faults (ap (is_name_in g.format) c.in-Some.ensures.0 ∙ c.in-Some.ensures.1)
    (subst (IsSeenFault (is_used g n) seen.faults (repeats bytes_eq parts.events)) c.in-Ok-None.field-0-is c.in-Ok-None.ensures) in
    subst (λ m. IsLineRead g (call_with g m parts) c.line_of_call.result) c.in-Some.ensures.0
    (call_line g (call_with g n parts) c.line_of_call.result (line_of n c.in-Some-name_in.word seen.values seen.accesses seen.on) (left ∙ ap (line_fault g) (sym same)) (ap inr (sym same)) c.line_of_call.ensures)
