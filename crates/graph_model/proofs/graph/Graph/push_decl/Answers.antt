use Rattle.std.proofs.Common.{◌≡◌, false, cond, ℕ, [], ◌∷◌, ◌++◌, List, None, Some, sym, subst, ap, ◌∙◌, length, arith}
use Rattle.std.specs.Str.{bytes_eq}
use Rattle.graph_terms.specs.declared.decl.Decl.{Decl}
use Rattle.graph_terms.specs.Graph.{GraphValue, decl_name}
use Rattle.graph_indexes.specs.Names.{AreNamesOf, named}
use Rattle.graph_terms.specs.Names.{found_decl}
use Rattle.graph_indexes.specs.Tables.{tables_of, tables_with, IsWithinLimits}
use Rattle.graph_indexes.specs.Rows.{AreRowsOf}
use Rattle.graph_indexes.specs.Counts.{counts_of}
use Rattle.graph_terms.specs.Fits.{IsGraph, is_decl_named, decl_fault, is_used, with_decl}
use Rattle.std.specs.Prelude.{IsTrue}
use Rattle.graph_terms.proofs.Public.{push_decl}
use Rattle.graph_model.proofs.Naming.{names_back, names_decl, unused_decl_name}
use Rattle.graph_model.proofs.TableLaws.{limits_decl, tables_push}
use Rattle.graph_model.proofs.RowLaws.{rows_decl}
use Rattle.graph_model.proofs.graph.Graph.push_decl.Goals as goal

pub invariant_of-self-2 : goal.invariant_of-self-2
invariant_of-self-2 c =
    let g : GraphValue = record { format = c.self.inside.format; decls = c.self.inside.decls.items; lines = c.self.inside.lines.items } in
    let d : Decl = c.args.decl in
    let fits : decl_fault g d ≡ None = subst (λ h. decl_fault h d ≡ None) (sym c.self.view_is) c.requires.fits in
    let own_names : IsTrue (is_decl_named g.format d) = subst (λ (h : GraphValue). IsTrue (is_decl_named h.format d)) (sym c.self.view_is) c.requires.named in
    let first : g.lines ≡ [] = subst (λ (h : GraphValue). h.lines ≡ []) (sym c.self.view_is) c.requires.first in
    let pushed : c.push_within.new.items.items ≡ g.decls ++ d ∷ [] = c.push_within.ensures.items ∙ ap (λ (ds : List Decl). ds ++ d ∷ []) c.reserve.ensures.items in
    let place : c.len-place.result ≡ length g.decls = omega arith in
    let added : c.add.new.self ≡ tables_with (tables_of g.decls) d (length g.decls) =
    c.in_default.ensures.ok ∙ (ap (λ t. tables_with t d c.len-place.result) c.self.invariant.tables ∙ ap (λ n. tables_with (tables_of g.decls) d n) place) in
    let name : c.name.result.now ≡ decl_name d = c.name.ensures in
    let what : c.found_decl-found.result ≡ found_decl g d = c.found_decl-found.ensures ∙ ap (λ h. found_decl h d) (sym c.self.view_is) in
    let named_so : (q : List ℕ) → named c.insert.new.self q ≡ cond (bytes_eq (decl_name d) q) (Some (found_decl g d)) (named c.self.inside.names q) =
    λ q. c.in_ok-insert.ensures.ok q ∙ (ap (λ n. cond (bytes_eq n q) (Some c.found_decl-found.result) (named c.self.inside.names q)) name ∙ ap (λ f. cond (bytes_eq (decl_name d) q) (Some f) (named c.self.inside.names q)) what) in
    record {
      fits = subst (λ (ds : List Decl). IsGraph (record { format = g.format; decls = ds; lines = g.lines })) (sym pushed) (push_decl g d c.self.invariant.fits c.requires.is_decl own_names first fits);
      accesses = c.self.invariant.accesses;
      tables = added ∙ (sym (tables_push g.decls d) ∙ ap tables_of (sym pushed));
      limits = subst (λ (ds : List Decl). IsWithinLimits (record { format = g.format; decls = ds; lines = g.lines })) (sym pushed) (limits_decl g d fits);
      names = subst (λ (ds : List Decl). AreNamesOf (record { format = g.format; decls = ds; lines = g.lines }) c.insert.new.self) (sym pushed) (names_decl g d c.self.inside.names c.insert.new.self c.self.invariant.names (unused_decl_name g d fits) named_so);
      rows = subst (λ (ds : List Decl). AreRowsOf (record { format = g.format; decls = ds; lines = g.lines }) c.self.inside.rows) (sym pushed) (rows_decl g d c.self.inside.rows c.self.invariant.rows);
      counts = c.requires.counts ∙ (ap (λ h. counts_of (with_decl h d)) (sym c.self.view_is) ∙ ap (λ ds. counts_of (record { format = g.format; decls = ds; lines = g.lines })) (sym pushed));
    }

pub invariant_of-self-in-Err : goal.invariant_of-self-in-Err
invariant_of-self-in-Err c =
    let g : GraphValue = record { format = c.self.inside.format; decls = c.self.inside.decls.items; lines = c.self.inside.lines.items } in
    let d : Decl = c.args.decl in
    let same : c.reserve.new.items.items ≡ g.decls = c.reserve.ensures.items in
    let fits : decl_fault g d ≡ None = subst (λ h. decl_fault h d ≡ None) (sym c.self.view_is) c.requires.fits in
    let unused : is_used g c.name.result.now ≡ false = ap (is_used g) c.name.ensures ∙ unused_decl_name g d fits in
    let back : AreNamesOf g c.remove.new.self =
    names_back g c.name.result.now c.found_decl-found.result c.self.inside.names c.insert.new.self c.remove.new.self c.self.invariant.names unused (λ q. c.in_ok-insert.ensures.ok q) (λ q. c.remove.ensures q) in
    record {
      fits = subst (λ (ds : List Decl). IsGraph (record { format = g.format; decls = ds; lines = g.lines })) (sym same) c.self.invariant.fits;
      accesses = c.self.invariant.accesses;
      tables = c.in-Err.ensures.err ∙ (c.self.invariant.tables ∙ ap tables_of (sym same));
      limits = subst (λ (ds : List Decl). IsWithinLimits (record { format = g.format; decls = ds; lines = g.lines })) (sym same) c.self.invariant.limits;
      names = subst (λ (ds : List Decl). AreNamesOf (record { format = g.format; decls = ds; lines = g.lines }) c.remove.new.self) (sym same) back;
      rows = subst (λ (ds : List Decl). AreRowsOf (record { format = g.format; decls = ds; lines = g.lines }) c.self.inside.rows) (sym same) c.self.invariant.rows;
      counts = c.self.invariant.counts ∙ ap (λ ds. counts_of (record { format = g.format; decls = ds; lines = g.lines })) (sym same);
    }
