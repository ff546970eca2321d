use Rattle.std.proofs.Common.{◌≡◌, ◌<◌, ℕ, true, false, List, length, refl, sym, ◌∙◌, ap, arith}
use Rattle.std.specs.Prelude.{◌≢◌, slice_set}
use Rattle.std.proofs.lemmas.Bool.{true≢false}
use Rattle.std.proofs.lemmas.List.{length-set}
use Rattle.basics.proofs.ListFacts.{got_contains}
use Rattle.graph_terms.specs.declared.verb.Mode.{Mode}
use Rattle.graph_terms.specs.declared.verb.Mode.TheVariants.{Read, Write, Sum, Least, Most}
use Rattle.graph_terms.specs.declared.verb.Access.{Access}
use Rattle.graph_terms.specs.Graph.{GraphValue, columns}
use Rattle.graph_terms.specs.Access.{accesses, is_read}
use Rattle.run_lists.proofs.TakerFacts.{takers_start, taker_one, taker_read, taker_skip, takers_all}
use Rattle.run_lists.proofs.columns.note_taker.Goals as goal
use Rattle.run_lists.proofs.columns.note_taker.Goals.{in-Read, in_default-matches, in-Some+then-not-matches, in-Some+else-not-matches, in_default}

not_read : (m : Mode) → m ≢ Read → is_read m ≡ false
not_read Read other = absurd (other refl)
not_read Write other = refl
not_read Sum other = refl
not_read Least other = refl
not_read Most other = refl

long : (g : GraphValue) (takers after : List ℕ) (c i : ℕ) → after ≡ slice_set takers c i → length takers ≡ length (columns g) → length after ≡ length (columns g)
long g takers after c i w e = ap length w ∙ (length-set takers c i ∙ e)

pub index_mut-requires : goal.index_mut-requires
index_mut-requires c =
    let a = c.in-Some.access in
    let in_line = got_contains (accesses c.args.graph.now c.args.line) c.loop-k.k a (sym c.in-Some.ensures) in
    let known : a.column < length (columns c.args.graph.now) = (c.accesses_fit.ensures c.args.graph.now c.args.line a c.lines.ensures.is_graph in_line).column in
    let each : length c.loop-k.takers.items ≡ length (columns c.args.graph.now) = c.loop-k.invariant.each in
    omega (arith, known, each, c.loop-k.takers.ok.0)

pub loop-k-init : goal.loop-k-init
loop-k-init c = record { each = c.requires.each; so_far = takers_start c.args.takers.now.items c.args.line (accesses c.args.graph.now c.args.line) }

pub loop-k-preserved : goal.loop-k-preserved
loop-k-preserved c =
    let g = c.args.graph.now in
    let i = c.args.line in
    let k = c.loop-k.k in
    let old = c.args.takers.now.items in
    let before = c.loop-k.takers.items in
    let after = c.match-access.takers.items in
    let s = c.loop-k.invariant in
    elim c.match-access.branch [
      | in-Some+then-not-matches w ↦ (
          let a = w.in-Some.access in
          let set : after ≡ slice_set before a.column i = ap (λ v. v.items) w.takers-is in
          let changes : is_read a.mode ≡ false = elim w.match-matches.branch [
            | in-Read r ↦ absurd (true≢false (sym r.matches-is ∙ w.if-not-matches.true))
            | in_default-matches r ↦ not_read a.mode r.in_default-matches.not-Read
          ] in
          record {
            each = long g before after a.column i set s.each;
            so_far = taker_one g i k a old before after s.so_far (sym w.in-Some.ensures) changes set;
          })
      | in-Some+else-not-matches w ↦ (
          let a = w.in-Some.access in
          let same : after ≡ before = ap (λ v. v.items) w.takers-is in
          let reads : is_read a.mode ≡ true = elim w.match-matches.branch [
            | in-Read r ↦ ap is_read r.in-Read.is
            | in_default-matches r ↦ absurd (true≢false (sym w.if-not-matches.false ∙ r.matches-is))
          ] in
          record {
            each = ap length same ∙ s.each;
            so_far = same ∙ taker_read g i k a old before s.so_far (sym w.in-Some.ensures) reads;
          })
      | in_default w ↦ (
          let same : after ≡ before = ap (λ v. v.items) w.takers-is in
          record {
            each = ap length same ∙ s.each;
            so_far = same ∙ taker_skip g i k old before s.so_far (sym w.in_default.ensures);
          })
    ]

pub returns : goal.returns
returns c = takers_all c.args.graph.now c.args.line c.loop-k.k c.args.takers.now.items c.loop-k.takers.items c.loop-k.invariant.so_far c.loop-k-test.false
