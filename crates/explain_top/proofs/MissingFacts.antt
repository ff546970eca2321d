-- Names that no line gives.
use Rattle.std.proofs.Common.{◌≡◌, ℕ, ◌+◌, ◌<◌, Bool, true, Bor, List, length, take, refl, inl, inr, sym, ◌∙◌, subst}
use Rattle.std.specs.Prelude.{nat_lt, Contains, Option, Some, None}
use Rattle.std.proofs.lemmas.Bool.{ltb-true}
use Rattle.std.proofs.lemmas.Option.{none-some}
use Rattle.std.specs.List.{slice_index_or}
use Rattle.std.proofs.lemmas.List.{take_more}
use Rattle.std.proofs.lemmas.List.Elements.{Contains-push_cases}
use Rattle.told_names.specs.declared.naming.NamedWord.{NamedWord}
use Rattle.graph_terms.specs.Graph.{GraphValue}
use Rattle.explain_text.specs.Lines.{line_number}
use Rattle.explain_text.specs.TextLines.{TextLines}
use Rattle.explain_top.specs.Missing.{IsSettled, IsEndSettled, IsTold}

-- one more name of some
pub settled_more : (more : List (List ℕ)) (xs : List NamedWord) (k : ℕ) (d : NamedWord) → k < length xs → IsSettled more (slice_index_or xs k d) → ((x : NamedWord) → Contains (take k xs) x → IsSettled more x) → (x : NamedWord) → Contains (take (k + 1) xs) x → IsSettled more x
settled_more more xs k d below here each x c = elim (Contains-push_cases (take k xs) (slice_index_or xs k d) x (subst (λ zs. Contains zs x) (take_more xs k d below) c)) [ inl b ↦ each x b | inr e ↦ subst (IsSettled more) e here ]

-- where lines are left, none of them is missing
pub none_missing : (rest : Bor (List ℕ)) (m : ℕ) → IsTold (Some rest) m → m ≡ 0
none_missing rest m (inl e) = absurd (none-some rest (sym e))
none_missing rest m (inr e) = e

-- a line that is not the last of those that are told
pub end_settled : (g : GraphValue) (ls : TextLines) (o : Option ℕ) (i : ℕ) (b : Bool) → o ≡ Some i → b ≡ nat_lt (line_number g ls i) (length ls.lines) → b ≡ true → IsEndSettled g ls o
end_settled g ls o i b is told holds = subst (IsEndSettled g ls) (sym is) (ltb-true (line_number g ls i) (length ls.lines) (sym told ∙ holds))
