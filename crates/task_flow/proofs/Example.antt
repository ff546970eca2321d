-- The graph of a small flow, computed.
use Rattle.std.proofs.Common.{◌≡◌, ℕ, true, false, List, [], ◌∷◌, refl}
use Rattle.std.specs.Prelude.{codes}
use Rattle.index_spaces.specs.declared.Op.TheVariants as op
use Rattle.graph_terms.specs.declared.decl.Decl.TheVariants.{Space, Inst, Lock}
use Rattle.graph_terms.specs.declared.format.Format.TheVariants.{One, Three}
use Rattle.graph_terms.specs.declared.verb.Line.{Line}
use Rattle.graph_terms.specs.declared.verb.Verb.{Verb}
use Rattle.graph_terms.specs.declared.verb.Verb.TheVariants as verb
use Rattle.graph_terms.specs.declared.table.Kernel.TheVariants as kernel
use Rattle.graph_terms.specs.Graph.{GraphValue, written_in}
use Rattle.task_flow.specs.Construction.{new_name, first_number, number_from, is_contended, reservations, written}

abbrev own : List ℕ → Verb → Line
own n v = record { name = n; «verb» = v; «on» = [] }

abbrev waiting : List ℕ → Verb → ℕ → Line
waiting n v e = record { name = n; «verb» = v; «on» = e ∷ [] }

-- two fills, two sums into the second column, and a copy of it
abbrev small : GraphValue
small = record {
  format = One;
  decls = Space (codes "s") ((0, 3) ∷ []) ∷ Inst (codes "a") 0 (codes "x" ∷ codes "y" ∷ codes "z" ∷ []) ∷ [];
  lines = own (codes "f") (verb.Fill 0 0 1) ∷ own (codes "g") (verb.Fill 1 0 2) ∷ own (codes "h") (verb.Reduce op.Sum 0 1 0)
      ∷ own (codes "i") (verb.Task (kernel.Axpy 0 1 0 3)) ∷ own (codes "c") (verb.Copy 1 2 0) ∷ [];
}

in_order : written small false ≡ record {
  format = One;
  decls = Space (codes "s") ((0, 3) ∷ []) ∷ Inst (codes "a") 0 (codes "x" ∷ codes "y" ∷ codes "z" ∷ []) ∷ [];
  lines = own (codes "f") (verb.Fill 0 0 1) ∷ own (codes "g") (verb.Fill 1 0 2)
      ∷ own (new_name 100002) (verb.Merge (1 ∷ 0 ∷ [])) ∷ waiting (codes "h") (verb.Reduce op.Sum 0 1 0) 2
      ∷ waiting (codes "i") (verb.Task (kernel.Axpy 0 1 0 3)) 3 ∷ waiting (codes "c") (verb.Copy 1 2 0) 4 ∷ [];
}
unfolding written reservations is_contended number_from first_number
in_order = refl

-- the sums in sections, where they commute
in_sections : written small true ≡ record {
  format = One;
  decls = Space (codes "s") ((0, 3) ∷ []) ∷ Inst (codes "a") 0 (codes "x" ∷ codes "y" ∷ codes "z" ∷ []) ∷ Lock (new_name 108192) ∷ [];
  lines = own (codes "f") (verb.Fill 0 0 1) ∷ own (codes "g") (verb.Fill 1 0 2)
      ∷ own (new_name 100002) (verb.Merge (1 ∷ 0 ∷ []))
      ∷ waiting (new_name 100003) (verb.Acquire 0 false) 2 ∷ waiting (codes "h") (verb.Reduce op.Sum 0 1 0) 3
      ∷ own (new_name 100005) (verb.MergeIgnore (4 ∷ [])) ∷ waiting (new_name 100006) (verb.Release 3) 5
      ∷ waiting (new_name 100007) (verb.Acquire 0 false) 2 ∷ waiting (codes "i") (verb.Task (kernel.Axpy 0 1 0 3)) 7
      ∷ own (new_name 100009) (verb.MergeIgnore (8 ∷ [])) ∷ waiting (new_name 100010) (verb.Release 7) 9
      ∷ own (new_name 100011) (verb.Merge (8 ∷ 4 ∷ [])) ∷ waiting (codes "c") (verb.Copy 1 2 0) 11 ∷ [];
}
unfolding written reservations is_contended number_from first_number
in_sections = refl

-- in format 3 without merges
without_merges : written (written_in Three small) false ≡ record {
  format = Three;
  decls = Space (codes "s") ((0, 3) ∷ []) ∷ Inst (codes "a") 0 (codes "x" ∷ codes "y" ∷ codes "z" ∷ []) ∷ [];
  lines = own (codes "f") (verb.Fill 0 0 1) ∷ own (codes "g") (verb.Fill 1 0 2)
      ∷ record { name = codes "h"; «verb» = verb.Reduce op.Sum 0 1 0; «on» = 1 ∷ 0 ∷ [] }
      ∷ waiting (codes "i") (verb.Task (kernel.Axpy 0 1 0 3)) 2 ∷ waiting (codes "c") (verb.Copy 1 2 0) 3 ∷ [];
}
unfolding written reservations is_contended number_from first_number
without_merges = refl
