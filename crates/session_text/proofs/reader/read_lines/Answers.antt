use Rattle.std.proofs.Common.{◌≡◌, ℕ, ◌+◌, ◌<◌, Bool, true, List, [], length, refl, ap, sym, ◌∙◌, arith}
use Rattle.std.specs.Prelude.{codes, bytes_eq}
use Rattle.std.proofs.lemmas.Result.{on_ok_weaker, IfErr-weaker, err_from_is_err_and}
use Rattle.graph_terms.specs.declared.why.Why.TheVariants as why
use Rattle.graph_reader.specs.FirstFault.{first_line}
use Rattle.graph_reader.specs.Reading.{after_line}
use Rattle.graph_words.specs.Words.{pieces}
use Rattle.graph_reader.proofs.Public.{fewer_bytes}
use Rattle.session_text.specs.SoFar.{entries_in}
use Rattle.session_text.proofs.Steps.{few_lines, read_all, refused_rest, missing_line, is_refusal, line_at, begin_read}
use Rattle.realm_audit.proofs.Fronts.{stripped}
use Rattle.session_text.proofs.reader.read_lines.Goals as goal

-- what the comparison with `close` says of the first line
is_close : (line first : List ℕ) (b : Bool) → b ≡ bytes_eq line (codes "close") → line ≡ first → bytes_eq first (codes "close") ≡ b
is_close line first b h e = ap (λ x. bytes_eq x (codes "close")) (sym e) ∙ sym h

pub loop-line-init : goal.loop-line-init
loop-line-init c = begin_read c.args.bytes.now c.in-Some.rest.now c.args.so_far.now c.requires.none c.requires.is_so_far
    (stripped c.args.bytes.now c.as_slice.result.now (codes "realm-session 1\n") c.in-Some.rest c.as_slice.ensures c.in-Some.ensures.cases)

pub close-requires : goal.close-requires
close-requires c = let n = few_lines c.args.bytes.now c.loop-line.rest.now c.loop-line.so_far c.loop-line.number c.loop-line.invariant in omega (arith, n, c.requires.short)

pub returns-then-eq-clause-text : goal.returns-then-eq-clause-text
returns-then-eq-clause-text c =
    let d = c.in-Some-cut.ensures in
    let s = c.loop-line.so_far in
    let h : bytes_eq (first_line c.loop-line.rest.now) (codes "close") ≡ true = is_close c.in-Some-cut.line.now (first_line c.loop-line.rest.now) true (c.if-eq.ensures ∙ ap (bytes_eq c.in-Some-cut.line.now) c.as_slice-in-Some-cut.ensures) d.front_is in
    on_ok_weaker c.close.result (λ (none : c.in-Some-cut.after.now ≡ []). read_all c.args.bytes.now c.loop-line.rest.now s (entries_in s) c.loop-line.number c.loop-line.invariant c.requires.short d.there h (sym d.back_is ∙ none) refl) c.close.ensures.closed

pub returns-then-eq-clause-refusal : goal.returns-then-eq-clause-refusal
returns-then-eq-clause-refusal c =
    let d = c.in-Some-cut.ensures in
    let s = c.loop-line.so_far in
    let h : bytes_eq (first_line c.loop-line.rest.now) (codes "close") ≡ true = is_close c.in-Some-cut.line.now (first_line c.loop-line.rest.now) true (c.if-eq.ensures ∙ ap (bytes_eq c.in-Some-cut.line.now) c.as_slice-in-Some-cut.ensures) d.front_is in
    IfErr-weaker c.close.result _ _ (λ e p. is_refusal c.args.bytes.now e (c.loop-line.number + 1) why.Rest p.1 (refused_rest c.args.bytes.now c.loop-line.rest.now s c.loop-line.number c.loop-line.invariant d.there h (λ none. p.0 (d.back_is ∙ none)))) c.close.ensures.rest

pub read_line-requires-clause-so_far : goal.read_line-requires-clause-so_far
read_line-requires-clause-so_far c = c.loop-line.invariant.is_so_far

pub read_line-requires-clause-few : goal.read_line-requires-clause-few
read_line-requires-clause-few c =
    let d = c.in-Some-cut.ensures in
    let n = few_lines c.args.bytes.now c.loop-line.rest.now c.loop-line.so_far c.loop-line.number c.loop-line.invariant in
    let l : length (after_line c.loop-line.rest.now) < length c.loop-line.rest.now = fewer_bytes c.loop-line.rest.now d.there in
    let e : length c.in-Some-cut.after.now ≡ length (after_line c.loop-line.rest.now) = ap length d.back_is in
    omega (arith, n, l, e, c.requires.short)

pub returns-in_err-next-clause-refusal : goal.returns-in_err-next-clause-refusal
returns-in_err-next-clause-refusal c =
    let p = err_from_is_err_and c.from_residual.result c.from_residual.ensures.1 in
    let refused = c.in_err-next.ensures.refused c.args.bytes.now c.loop-line.rest.now c.loop-line.invariant (line_at c.loop-line.rest.now c.in-Some-cut.line.now c.in-Some-cut.after.now (pieces 32 c.in-Some-cut.line.now) c.in-Some-cut.ensures
    (ap (bytes_eq c.in-Some-cut.line.now) (sym c.as_slice-in-Some-cut.ensures) ∙ sym c.if-eq.ensures) refl) in
    rw (p.1, p.2) refused

pub loop-line-smaller : goal.loop-line-smaller
loop-line-smaller c =
    let d = c.in-Some-cut.ensures in
    let l : length (after_line c.loop-line.rest.now) < length c.loop-line.rest.now = fewer_bytes c.loop-line.rest.now d.there in
    let e : length c.in-Some-cut.after.now ≡ length (after_line c.loop-line.rest.now) = ap length d.back_is in
    omega (arith, l, e, c.in_ok-next.ensures.shorter)

pub loop-line-preserved : goal.loop-line-preserved
loop-line-preserved c = c.in_ok-next.ensures.taken c.args.bytes.now c.loop-line.rest.now c.loop-line.invariant (line_at c.loop-line.rest.now c.in-Some-cut.line.now c.in-Some-cut.after.now (pieces 32 c.in-Some-cut.line.now) c.in-Some-cut.ensures
    (ap (bytes_eq c.in-Some-cut.line.now) (sym c.as_slice-in-Some-cut.ensures) ∙ sym c.if-eq.ensures) refl)

pub returns-clause-refusal : goal.returns-clause-refusal
returns-clause-refusal c = is_refusal c.args.bytes.now c.refused-2.result c.loop-line.number why.Missing c.refused-2.ensures (missing_line c.args.bytes.now c.loop-line.rest.now c.loop-line.so_far c.loop-line.number c.loop-line.invariant c.in_default-cut.ensures)
