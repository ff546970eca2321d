-- What a line and a declaration have where no reason refuses them.
use Rattle.std.specs.Prelude.{◌<◌, length, ◌≡◌, false, map, nat_eq, IsTrue}
use Rattle.graph_terms.specs.declared.verb.Access.{Access}
use Rattle.graph_terms.specs.Graph.{GraphValue, named_spaces, columns, data_columns, decl_name}
use Rattle.std.specs.List.{AllByRecursion}
use Rattle.graph_terms.specs.declared.verb.Verb.{Verb}
use Rattle.graph_terms.specs.Access.{verb_accesses, call_accesses}
use Rattle.graph_terms.specs.Fits.{repeats, verb_repeats, named_lines, verb_unknown, verb_unlike, format_lacks, verb_misnumbered, IsVerb, is_called, is_used, on_unlike, decl_repeats, decl_unknown, decl_lacks, decl_misnumbered}
use Rattle.graph_terms.specs.declared.verb.Line.{Line}
use Rattle.graph_terms.specs.declared.decl.Decl.{Decl}

abbrev pub IsKnownAccess : GraphValue → Access → Type 0
IsKnownAccess g a = (a.column < length (columns g)) × (a.space < length (named_spaces g))

abbrev pub IsKnownData : GraphValue → Access → Type 0
IsKnownData g a = (a.column < length (data_columns g)) × (a.space < length (named_spaces g))

-- what a verb has where no reason refuses its line
pub record IsKnownVerb (g : GraphValue) (v : Verb) : Type 0 where
  pub accesses : AllByRecursion (IsKnownAccess g) (verb_accesses v)
  pub data_accesses : AllByRecursion (IsKnownData g) (call_accesses v)
  pub events : AllByRecursion (λ i. i < length g.lines) (named_lines v)
  pub once : verb_repeats g v ≡ false
  pub columns_once : repeats nat_eq (map (λ (a : Access). a.column) (verb_accesses v)) ≡ false
  pub known : verb_unknown g v ≡ false
  pub alike : verb_unlike g v ≡ false
  pub counted : verb_misnumbered g.format v ≡ false
  pub there : format_lacks g.format v ≡ false
  pub values : IsVerb v
  pub called : IsTrue (is_called v)

-- what a line has where no reason refuses it
pub record IsKnownLine (g : GraphValue) (l : Line) : Type 0 where
  pub verb : IsKnownVerb g l.verb
  pub new : is_used g l.name ≡ false
  pub on_below : AllByRecursion (λ i. i < length g.lines) l.on
  pub on_once : repeats nat_eq l.on ≡ false
  pub takes_on : on_unlike g.format l.verb l.on ≡ false

-- what a declaration has where no reason refuses it
pub record IsKnownDecl (g : GraphValue) (d : Decl) : Type 0 where
  pub new : is_used g (decl_name d) ≡ false
  pub once : decl_repeats d ≡ false
  pub known : decl_unknown g d ≡ false
  pub there : decl_lacks g.format d ≡ false
  pub counted : decl_misnumbered g.format d ≡ false
