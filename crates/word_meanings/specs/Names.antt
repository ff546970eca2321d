-- The names of a graph.
use Rattle.std.specs.Prelude.{◌≡◌, true, false, bytes_eq}
use Rattle.std.specs.List.{AllByRecursion}
use Rattle.graph_terms.specs.declared.format.Format.{Format}
use Rattle.graph_terms.specs.declared.decl.Decl.{Decl}
use Rattle.graph_terms.specs.declared.verb.Line.{Line}
use Rattle.graph_terms.specs.Name.{is_name_in}
use Rattle.graph_terms.specs.Graph.{GraphValue}
use Rattle.graph_terms.specs.Fits.{repeats, names, decl_repeats, is_decl_named}

-- a declaration with names of a format, no field twice
abbrev pub IsNamedDecl : Format → Decl → Type 0
IsNamedDecl fm d = (is_decl_named fm d ≡ true) × (decl_repeats d ≡ false)

-- each name is one of the format, and none stands twice
pub record IsNamed (g : GraphValue) : Type 0 where
  pub apart : repeats bytes_eq (names g) ≡ false
  pub decls : AllByRecursion (IsNamedDecl g.format) g.decls
  pub lines : AllByRecursion (λ (l : Line). is_name_in g.format l.name ≡ true) g.lines
