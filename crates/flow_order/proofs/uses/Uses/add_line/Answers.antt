use Rattle.std.proofs.Common.{◌≡◌, ◌<◌, ◌≤◌, length, sym, refl, subst, arith}
use Rattle.std.specs.Prelude.{Some, slice_get}
use Rattle.std.proofs.lemmas.Option.{slice_get_within}
use Rattle.basics.proofs.ListFacts.{got_contains}
use Rattle.graph_terms.specs.Graph.{columns}
use Rattle.graph_terms.specs.Access.{accesses}
use Rattle.flow_order.specs.Uses.{PutsUse}
use Rattle.flow_order.proofs.AskSteps.{uses_next, uses_whole}
use Rattle.basics.proofs.ListParts.{got_beyond}
use Rattle.flow_order.proofs.uses.Uses.add_line.Goals as goal

pub index_mut-requires : goal.index_mut-requires
index_mut-requires c =
    let fits : c.in-Some.access.column < length (columns c.args.flow.now) = (c.accesses_fit.ensures c.args.flow.now c.args.line c.in-Some.access c.lines.ensures.is_graph (got_contains (accesses c.args.flow.now c.args.line) c.loop-k.k c.in-Some.access (sym c.in-Some.ensures))).column in
    let count : length c.loop-k.self.columns.items ≡ length (columns c.args.flow.now) = c.loop-k.invariant.uses.count in
    omega arith

pub loop-k-preserved : goal.loop-k-preserved
loop-k-preserved c =
    let at : slice_get (accesses c.args.flow.now c.args.line) c.loop-k.k ≡ Some c.in-Some.access = sym c.in-Some.ensures in
    let within : c.loop-k.k < length (accesses c.args.flow.now c.args.line) = slice_get_within (accesses c.args.flow.now c.args.line) c.loop-k.k c.in-Some.access at in
    let fits : c.in-Some.access.column < length (columns c.args.flow.now) = (c.accesses_fit.ensures c.args.flow.now c.args.line c.in-Some.access c.lines.ensures.is_graph (got_contains (accesses c.args.flow.now c.args.line) c.loop-k.k c.in-Some.access at)).column in
    let count : length c.loop-k.self.columns.items ≡ length (columns c.args.flow.now) = c.loop-k.invariant.uses.count in
    record {
      few = omega arith;
      uses = uses_next c.args.flow.now c.args.commute c.points_are_listed.ensures c.accesses_fit.ensures c.lines.ensures.is_graph c.args.line c.loop-k.k c.in-Some.access c.args.reaching.now c.loop-k.self.columns.items _ c.index_mut.result.now c.add.new.self
          c.requires.reaching at (omega arith) c.index_mut.ensures.value (subst (λ s. PutsUse c.args.commute c.index_mut.result.now.classes.items c.in-Some.access s c.args.line c.args.reaching.now c.add.new.self.classes.items) c.space-space.ensures c.in_ok-add.ensures) refl c.loop-k.invariant.uses;
    }

pub returns-after-loop-k : goal.returns-after-loop-k
returns-after-loop-k c =
    let few : length (accesses c.args.flow.now c.args.line) ≤ 3 = c.accesses_are_few.ensures c.args.flow.now c.args.line in
    uses_whole c.args.flow.now c.args.commute c.args.line c.loop-k.k c.loop-k.self.columns.items (let t = c.loop-k-test.false in omega (arith, t)) c.loop-k.invariant.uses

pub returns-in_default : goal.returns-in_default
returns-in_default c = uses_whole c.args.flow.now c.args.commute c.args.line c.loop-k.k c.loop-k.self.columns.items (got_beyond (accesses c.args.flow.now c.args.line) c.loop-k.k (sym c.in_default.ensures)) c.loop-k.invariant.uses

pub space-space-requires : goal.space-space-requires
space-space-requires c =
    (c.accesses_fit.ensures c.args.flow.now c.args.line c.in-Some.access c.lines.ensures.is_graph (got_contains (accesses c.args.flow.now c.args.line) c.loop-k.k c.in-Some.access (sym c.in-Some.ensures))).space
