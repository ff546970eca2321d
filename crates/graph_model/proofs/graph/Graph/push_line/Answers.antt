use Rattle.std.proofs.Common.{◌≡◌, ◌+◌, cond, ℕ, [], ◌∷◌, ◌++◌, List, None, Some, sym, subst, ap, ◌∙◌, length, arith}
use Rattle.std.specs.Prelude.{Option, map, IsTrue}
use Rattle.std.proofs.lemmas.List.{map-append}
use Rattle.std.specs.Str.{bytes_eq}
use Rattle.graph_indexes.specs.declared.side.Side.{Side}
use Rattle.graph_indexes.specs.declared.side.Side.TheVariants.{From, To}
use Rattle.graph_terms.specs.declared.found.Found.TheVariants as found
use Rattle.graph_terms.specs.declared.verb.Access.{Access}
use Rattle.graph_terms.specs.declared.verb.Line.{Line}
use Rattle.graph_terms.specs.Access.{kept_accesses}
use Rattle.graph_terms.specs.Name.{is_name_in}
use Rattle.graph_terms.specs.Graph.{GraphValue}
use Rattle.graph_terms.specs.Edges.{line_edges}
use Rattle.graph_indexes.specs.Names.{AreNamesOf, named}
use Rattle.graph_indexes.specs.Tables.{IsWithinLimits}
use Rattle.graph_indexes.specs.Rows.{EndsBelow, NamesBelow, AddsRow, AreRowsOf}
use Rattle.graph_indexes.specs.Counts.{counts_of}
use Rattle.graph_terms.specs.Fits.{IsGraph, line_fault, with_line}
use Rattle.graph_terms.proofs.Public.{push_line}
use Rattle.graph_model.proofs.Naming.{names_back, names_line, names_same, unused_line_name}
use Rattle.graph_model.proofs.TableLaws.{limits_line}
use Rattle.graph_model.proofs.RowLaws.{rows_push, from_below, to_below, names_below}
use Rattle.graph_model.proofs.RowReads.{few_marked}
use Rattle.graph_model.proofs.graph.Graph.push_line.Goals as goal
use Rattle.graph_model.proofs.graph.Graph.push_line.Goals.{After-deref-2}

-- the graph before, which the line fits and whose edges are given
abbrev before : After-deref-2 → GraphValue
before c = record { format = c.self.inside.format; decls = c.self.inside.decls.items; lines = c.self.inside.lines.items }

fits : (c : After-deref-2) → line_fault (before c) c.args.line ≡ None
fits c = subst (λ h. line_fault h c.args.line ≡ None) (sym c.self.view_is) c.requires.fits

own_name : (c : After-deref-2) → IsTrue (is_name_in (before c).format c.args.line.name)
own_name c = subst (λ (h : GraphValue). IsTrue (is_name_in h.format c.args.line.name)) (sym c.self.view_is) c.requires.named

given : (c : After-deref-2) → c.deref-2.result.now ≡ line_edges (before c).lines c.args.line
given c = c.deref-2.ensures.value ∙ (c.in_ok-list_edges.ensures ∙ ap (λ (ls : List Line). line_edges ls c.args.line) c.deref.ensures.value)

ends_below : (side : Side) (c : After-deref-2) → EndsBelow side (line_edges (before c).lines c.args.line) (length (before c).lines + 1) → EndsBelow side c.deref-2.result.now (length c.self.inside.rows.marks + 1)
ends_below side c below = subst (λ n. EndsBelow side c.deref-2.result.now (n + 1)) (sym c.self.invariant.rows.mark_count) (subst (λ es. EndsBelow side es (length (before c).lines + 1)) (sym (given c)) below)

pub add-requires-clause-from_below : goal.add-requires-clause-from_below
add-requires-clause-from_below c = let a = (goal.at.add-requires-clause-from_below c).After-deref-2 in ends_below From a (from_below (before a) c.args.line (fits a))

pub add-requires-clause-to_below : goal.add-requires-clause-to_below
add-requires-clause-to_below c = let a = (goal.at.add-requires-clause-to_below c).After-deref-2 in ends_below To a (to_below (before a) c.args.line (fits a))

pub add-requires-clause-named : goal.add-requires-clause-named
add-requires-clause-named c =
    let a = (goal.at.add-requires-clause-named c).After-deref-2 in
    subst (λ n. NamesBelow n c.args.line.verb) (sym c.self.invariant.rows.mark_count) (names_below (before a) c.args.line (fits a))

pub add-requires-clause-few : goal.add-requires-clause-few
add-requires-clause-few c =
    let a = (goal.at.add-requires-clause-few c).After-deref-2 in
    few_marked (before a) c.self.inside.rows c.args.line c.self.invariant.fits c.self.invariant.rows c.self.invariant.limits.few_lines (fits a)

pub invariant_of-self-2 : goal.invariant_of-self-2
invariant_of-self-2 c =
    let at = (goal.at.invariant_of-self-2 c).After-deref-2 in
    let g : GraphValue = before at in
    let l : Line = c.args.line in
    let pushed : c.push_within.new.items.items ≡ g.lines ++ l ∷ [] = c.push_within.ensures.items ∙ ap (λ (ls : List Line). ls ++ l ∷ []) c.reserve.ensures.items in
    let added : AddsRow c.self.inside.rows c.add.new.self l.verb (line_edges g.lines l) = subst (λ es. AddsRow c.self.inside.rows c.add.new.self l.verb es) (given at) c.in_default.ensures.ok in
    let place : c.len.result ≡ length g.lines = omega arith in
    let named_so : (q : List ℕ) → named c.insert.new.self q ≡ cond (bytes_eq l.name q) (Some (found.Line (length g.lines))) (named c.self.inside.names q) =
    λ q. c.in_ok-insert.ensures.ok q ∙ ap (λ n. cond (bytes_eq l.name q) (Some (found.Line n)) (named c.self.inside.names q)) place in
    let kept : Line → List (Option Access) = λ x. kept_accesses x.verb in
    record {
      accesses = c.push_within-2.ensures.items
          ∙ (ap (λ xs. xs ++ c.args.accesses ∷ []) c.reserve-2.ensures.items
          ∙ (ap (λ x. c.self.inside.accesses.items ++ x ∷ []) c.requires.accesses
          ∙ (ap (λ xs. xs ++ kept l ∷ []) c.self.invariant.accesses ∙ (sym (map-append kept g.lines (l ∷ [])) ∙ ap (map kept) (sym pushed)))));
      fits = subst (λ (ls : List Line). IsGraph (record { format = g.format; decls = g.decls; lines = ls })) (sym pushed) (push_line g l c.self.invariant.fits c.requires.is_line (own_name at) (fits at));
      tables = c.self.invariant.tables;
      limits = subst (λ (ls : List Line). IsWithinLimits (record { format = g.format; decls = g.decls; lines = ls })) (sym pushed) (limits_line g l (fits at));
      names = subst (λ (ls : List Line). AreNamesOf (record { format = g.format; decls = g.decls; lines = ls }) c.insert.new.self) (sym pushed) (names_line g l c.self.inside.names c.insert.new.self c.self.invariant.names (unused_line_name g l (fits at)) named_so);
      rows = subst (λ (ls : List Line). AreRowsOf (record { format = g.format; decls = g.decls; lines = ls }) c.add.new.self) (sym pushed) (rows_push g l c.self.inside.rows c.add.new.self c.self.invariant.rows added);
      counts = c.requires.counts ∙ (ap (λ h. counts_of (with_line h l)) (sym c.self.view_is) ∙ ap (λ ls. counts_of (record { format = g.format; decls = g.decls; lines = ls })) (sym pushed));
    }

pub invariant_of-self-in-Err : goal.invariant_of-self-in-Err
invariant_of-self-in-Err c =
    let at = (goal.at.invariant_of-self-in-Err c).After-deref-2 in
    let g : GraphValue = before at in
    let same : c.reserve.new.items.items ≡ g.lines = c.reserve.ensures.items in
    let back : AreNamesOf g c.remove.new.self =
    names_back g c.args.line.name (found.Line c.len.result) c.self.inside.names c.insert.new.self c.remove.new.self c.self.invariant.names (unused_line_name g c.args.line (fits at)) (λ q. c.in_ok-insert.ensures.ok q) (λ q. c.remove.ensures q) in
    record {
      fits = subst (λ (ls : List Line). IsGraph (record { format = g.format; decls = g.decls; lines = ls })) (sym same) c.self.invariant.fits;
      accesses = c.reserve-2.ensures.items ∙ (c.self.invariant.accesses ∙ ap (map (λ (x : Line). kept_accesses x.verb)) (sym same));
      tables = c.self.invariant.tables;
      limits = subst (λ (ls : List Line). IsWithinLimits (record { format = g.format; decls = g.decls; lines = ls })) (sym same) c.self.invariant.limits;
      names = subst (λ (ls : List Line). AreNamesOf (record { format = g.format; decls = g.decls; lines = ls }) c.remove.new.self) (sym same) back;
      rows = subst (λ (ls : List Line). AreRowsOf (record { format = g.format; decls = g.decls; lines = ls }) c.add.new.self) (sym same) (subst (AreRowsOf g) (sym c.in-Err.ensures.err) c.self.invariant.rows);
      counts = c.self.invariant.counts ∙ ap (λ ls. counts_of (record { format = g.format; decls = g.decls; lines = ls })) (sym same);
    }

pub invariant_of-self-in_err-insert : goal.invariant_of-self-in_err-insert
invariant_of-self-in_err-insert c =
    let g : GraphValue = record { format = c.self.inside.format; decls = c.self.inside.decls.items; lines = c.self.inside.lines.items } in
    let same : c.reserve.new.items.items ≡ g.lines = c.reserve.ensures.items in
    let kept : AreNamesOf g c.insert.new.self = names_same g c.self.inside.names c.insert.new.self c.self.invariant.names (λ q. c.in_err-insert.ensures.err q) in
    record {
      fits = subst (λ (ls : List Line). IsGraph (record { format = g.format; decls = g.decls; lines = ls })) (sym same) c.self.invariant.fits;
      accesses = c.reserve-2.ensures.items ∙ (c.self.invariant.accesses ∙ ap (map (λ (x : Line). kept_accesses x.verb)) (sym same));
      tables = c.self.invariant.tables;
      limits = subst (λ (ls : List Line). IsWithinLimits (record { format = g.format; decls = g.decls; lines = ls })) (sym same) c.self.invariant.limits;
      names = subst (λ (ls : List Line). AreNamesOf (record { format = g.format; decls = g.decls; lines = ls }) c.insert.new.self) (sym same) kept;
      rows = subst (λ (ls : List Line). AreRowsOf (record { format = g.format; decls = g.decls; lines = ls }) c.self.inside.rows) (sym same) c.self.invariant.rows;
      counts = c.self.invariant.counts ∙ ap (λ ls. counts_of (record { format = g.format; decls = g.decls; lines = ls })) (sym same);
    }
