use Rattle.std.proofs.Common.{◌≡◌, ℕ, ◌+◌, ◌≤◌, List, ◌++◌, length, length-take, length-drop, ap, sym, ◌∙◌, subst, arith}
use Rattle.std.specs.Prelude.{◌==◌}
use Rattle.std.proofs.lemmas.List.Sums.{count_by-le-length}
use Rattle.std.proofs.lemmas.Result.{IfOk-weaker, IfErr-weaker}
use Rattle.graph_words.specs.Text.{GraphText}
use Rattle.realm_audit.specs.Parts.{newlines, before_end, graph_bytes, trace_bytes}
use Rattle.session_text.specs.Session.{graph_line}
use Rattle.session_text.specs.Fits.{graph_reason}
use Rattle.session_text.specs.SoFar.{entries_in, HasRead, IsRefusedBehind}
use Rattle.session_text.proofs.Steps.{refused_inside}
use Rattle.session_text.proofs.so_far.SoFar.take_graph.Goals as goal

-- the first part is not longer than the whole
short_front : (front bytes : List ℕ) → front ≡ graph_bytes bytes → length front ≤ length bytes
short_front front bytes e = let n : length front ≡ length (graph_bytes bytes) = ap length e in omega (arith, length-take (before_end bytes + 4) bytes)

pub newlines-requires : goal.newlines-requires
newlines-requires c =
    let short : length c.parts.result.0.now ≤ length c.args.bytes.now = short_front c.parts.result.0.now c.args.bytes.now c.parts.ensures.graph in
    record { few = omega (arith, short, c.requires.few) }

pub take_last-requires-clause-few : goal.take_last-requires-clause-few
take_last-requires-clause-few c =
    let front = c.parts.result.0.now in
    let short : length front ≤ length c.args.bytes.now = short_front front c.args.bytes.now c.parts.ensures.graph in
    let few : newlines front ≤ length front = count_by-le-length (λ b. b == 10) front in
    let is : c.newlines.result ≡ newlines front = c.newlines.ensures in
    omega (arith, short, few, is, c.requires.few)

pub take_last-requires-clause-named : goal.take_last-requires-clause-named
take_last-requires-clause-named c = ap (graph_reason (entries_in c.args.self.now)) c.in-Ok.ensures.name ∙ c.requires.named

pub returns-in-Ok-clause-taken : goal.returns-in-Ok-clause-taken
returns-in-Ok-clause-taken c = IfOk-weaker c.take_last.result _ _ (λ x taken bytes r.
    taken bytes c.args.bytes.now (subst (λ n. HasRead bytes c.args.self.now (graph_line n ++ c.args.bytes.now) c.args.number) (sym c.in-Ok.ensures.name) r)
    (subst (λ b. GraphText b c.in-Ok.last.entry.graph) c.parts.ensures.graph c.in-Ok.ensures.text) (c.newlines.ensures ∙ ap newlines c.parts.ensures.graph) c.parts.ensures.trace) c.take_last.ensures.taken

pub returns-in-Ok-clause-shorter : goal.returns-in-Ok-clause-shorter
returns-in-Ok-clause-shorter c =
    let b = c.args.bytes.now in
    let left : length (trace_bytes b) ≤ length b = omega (arith, length-drop (before_end b + 4) b) in
    IfOk-weaker c.take_last.result _ _ (λ x rest. subst (λ xs. length xs ≤ length b) (sym (rest ∙ c.parts.ensures.trace)) left) c.take_last.ensures.rest

pub returns-in-Ok-clause-refused : goal.returns-in-Ok-clause-refused
returns-in-Ok-clause-refused c = IfErr-weaker c.take_last.result _ _ (λ e refused bytes r.
    refused bytes c.args.bytes.now (subst (λ n. HasRead bytes c.args.self.now (graph_line n ++ c.args.bytes.now) c.args.number) (sym c.in-Ok.ensures.name) r)
    (subst (λ b. GraphText b c.in-Ok.last.entry.graph) c.parts.ensures.graph c.in-Ok.ensures.text) (c.newlines.ensures ∙ ap newlines c.parts.ensures.graph)) c.take_last.ensures.refused

pub returns-in-Err-clause-refused : goal.returns-in-Err-clause-refused
returns-in-Err-clause-refused c = λ bytes r.
    refused_inside bytes c.args.bytes.now c.args.self.now c.args.name c.args.number c.in-Err.refusal r c.requires.named (subst (λ b. IsRefusedBehind b c.args.number c.in-Err.refusal) c.parts.ensures.graph c.in-Err.ensures.refused)
