use Rattle.std.proofs.Common.{◌≡◌, ℕ, ◌+◌, ◌-◌, ◌≤◌, true, List, [], ◌∷◌, ◌++◌, length, take, drop, replicate, sym, ◌∙◌, ap, subst, arith, length-append}
use Rattle.std.proofs.lemmas.Bool.{false≢true, and_parts, leb-true}
use Rattle.std.proofs.lemmas.List.{drop-replicate}
use Rattle.std.proofs.Math.Seq.{take-append_seam}
use Rattle.graph_terms.specs.declared.format.Format.TheVariants.{Three}
use Rattle.graph_terms.specs.Name.{is_name_in, padded, IsPadded}
use Rattle.graph_terms.proofs.FormatLaws.{later_names, three_is_last}
use Rattle.graph_terms.proofs.NameCopy.{named_by_parts}
use Rattle.graph_terms.proofs.name.Name.in_format.Goals as goal

-- a name has at most 63 bytes
short : (d : List ℕ) → is_name_in Three d ≡ true → length d ≤ 63
short [] h = absurd (false≢true h)
short (c ∷ cs) h = leb-true (length (c ∷ cs)) 63 (and_parts _ _ (and_parts _ _ h).0).0

-- a name with zeros behind it
pad : (d : List ℕ) → is_name_in Three d ≡ true → IsPadded (length d) (padded d)
pad d h =
    let front : take (length d) (padded d) ≡ d = take-append_seam d (replicate (63 - length d) 0) in
    record {
      short = (let l : length (padded d) ≡ length d + length (replicate (63 - length d) 0) = length-append d (replicate (63 - length d) 0) in omega arith);
      named = ap (is_name_in Three) front ∙ h;
      rest = ap padded (sym front);
    }

pub invariant_of-result : goal.invariant_of-result
invariant_of-result c =
    let d : List ℕ = c.args.bytes.now in
    let named : is_name_in c.args.format d ≡ true = named_by_parts c.args.format d (sym c.begins_name.ensures ∙ c.if-not-begins_name.false) (sym c.copy_parts.ensures.all ∙ c.if-not-copy_parts.false) in
    let behind : drop (length d) (replicate 63 0) ≡ replicate (63 - length d) 0 = drop-replicate (length d) 63 0 in
    let copied : c.copy_parts.new.copy ≡ padded d = c.copy_parts.ensures.copied c.if-not-copy_parts.false ∙ ap (λ xs. d ++ xs) behind in
    record {
      padded = subst (λ xs. IsPadded (length d) xs) (sym copied) (pad d (later_names c.args.format Three (three_is_last c.args.format) d named));
    }
