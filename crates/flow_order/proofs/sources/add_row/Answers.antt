use Rattle.std.proofs.Common.{◌≡◌, ◌+◌, ◌||◌, [], ◌∷◌, length, length-append, sym, ◌∙◌, ap, subst, rules}
use Rattle.std.specs.Prelude.{Contains, flat_map}
use Rattle.std.proofs.lemmas.List.Elements.{Contains-append_left}
use Rattle.graph_terms.specs.Access.{accesses}
use Rattle.flow_order.specs.Bits.{word_bit}
use Rattle.flow_order.specs.Meaning.{Chain}
use Rattle.flow_order.specs.SourceParts.{Parts, is_reached, sources_after}
use Rattle.flow_order.specs.Uses.{AreUses, uses_before}
use Rattle.flow_order.proofs.SourceSteps.{large_below, source_below, rows_more, row_of_parts, row_chains}
use Rattle.flow_order.proofs.sources.add_row.Goals as goal

pub mask_of-requires-clause-kept : goal.mask_of-requires-clause-kept
mask_of-requires-clause-kept c =
    let f = c.args.flow.now in
    let n = length c.args.rows.now.rows.items in
    λ i d. large_below f c.args.commute n (accesses f n) i (subst (λ xs. Contains (flat_map (λ p. p) xs) i) (c.as_slice.ensures.value ∙ (ap (λ (p : Parts). p.large) c.parts.view_is ∙ ap (λ (p : Parts). p.large) c.requires.parts)) d)

pub reach_all-requires-clause-part : goal.reach_all-requires-clause-part
reach_all-requires-clause-part c =
    let f = c.args.flow.now in
    let n = length c.args.rows.now.rows.items in
    λ i d. source_below f c.args.commute n i (Contains-append_left _ _ i (subst (λ xs. Contains xs i) (ap (λ (p : Parts). p.small) c.parts.view_is ∙ ap (λ (p : Parts). p.small) c.requires.parts) d))

pub add_line-requires-clause-reaching : goal.add_line-requires-clause-reaching
add_line-requires-clause-reaching c =
    let f = c.args.flow.now in
    let n = length c.args.rows.now.rows.items in
    let p = c.args.parts.now in
    let same : c.len-line.result ≡ n = search rules in
    λ i set'. subst (λ m. Chain f c.args.commute i m) (sym same) (row_chains f c.args.commute n i (word_bit c.reach_all.new.mask i) (row_of_parts f c.args.commute n p i (word_bit c.in_ok-mask.mask i) (word_bit c.reach_all.new.mask i) c.requires.parts
    (c.in_ok-mask.ensures.bits i ∙ ap (λ xs. is_reached (sources_after f c.args.commute n) (flat_map (λ q. q) xs) i) (c.as_slice.ensures.value ∙ ap (λ (q : Parts). q.large) c.parts.view_is))
    (c.reach_all.ensures.bits i ∙ ap (λ xs. word_bit c.in_ok-mask.mask i || is_reached (sources_after f c.args.commute n) xs i) (ap (λ (q : Parts). q.small) c.parts.view_is))) set')

pub returns-clause-rows : goal.returns-clause-rows
returns-clause-rows c =
    let f = c.args.flow.now in
    let n = length c.args.rows.now.rows.items in
    let p = c.args.parts.now in
    let count : length c.push.new.items.items ≡ length c.args.rows.now.rows.items + 1 = ap length c.in_ok-push.ensures.ok ∙ length-append c.args.rows.now.rows.items (c.in_ok-row.row ∷ []) in
    let same : c.len-line.result ≡ length c.args.rows.now.rows.items = search rules in
    record {
      rows = rows_more f c.args.commute c.args.rows.now.rows.items c.push.new.items.items c.in_ok-row.row c.requires.rows.rows c.requires.next c.in_ok-push.ensures.ok (c.in_ok-row.ensures.size ∙ (c.reach_all.ensures.size ∙ c.in_ok-mask.ensures.size))
          (λ i. c.in_ok-row.ensures.bits i ∙ row_of_parts f c.args.commute n p i (word_bit c.in_ok-mask.mask i) (word_bit c.reach_all.new.mask i) c.requires.parts
          (c.in_ok-mask.ensures.bits i ∙ ap (λ xs. is_reached (sources_after f c.args.commute n) (flat_map (λ q. q) xs) i) (c.as_slice.ensures.value ∙ ap (λ (p : Parts). p.large) c.parts.view_is))
          (c.reach_all.ensures.bits i ∙ ap (λ xs. word_bit c.in_ok-mask.mask i || is_reached (sources_after f c.args.commute n) xs i) (ap (λ (p : Parts). p.small) c.parts.view_is)));
      uses = subst (λ m. AreUses f c.args.commute (uses_before f m) c.add_line.new.self.columns.items) (ap (λ m. m + 1) same ∙ sym count) c.in_ok-add_line.ensures;
    }
