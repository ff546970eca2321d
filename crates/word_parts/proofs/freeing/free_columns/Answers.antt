use Rattle.std.proofs.Common.{arith, ◌≡◌, ◌+◌, ◌<◌, ℕ, length, Option, refl, sym, ◌∙◌, ap, subst}
use Rattle.std.specs.Prelude.{slice_get}
use Rattle.std.proofs.lemmas.Option.{get_or_from_slice_get}
use Rattle.graph_terms.specs.Graph.{columns}
use Rattle.index_spaces.specs.Shares.{ShareValue}
use Rattle.word_steps.specs.declared.content.Content.{Content}
use Rattle.word_steps.specs.Layout.{size_of, column_slot}
use Rattle.word_steps.specs.Lending.{AreWhole, home_for}
use Rattle.word_parts.specs.Preparing.{IsLoose}
use Rattle.share_words.specs.Shares.{share_count}
use Rattle.word_parts.proofs.Freed.{home_apart, lies_beside, got_within}
use Rattle.word_steps.proofs.Public.{whole_for}
use Rattle.word_parts.proofs.PrepareFacts.{loose_set}
use Rattle.basics.proofs.ListFacts.{set_get_other}
use Rattle.word_parts.proofs.freeing.free_columns.Goals as goal

pub loop-c-init : goal.loop-c-init
loop-c-init c = record { lie = λ k high near. c.requires.lie k near; loose = c.requires.loose }

pub shares_in-all-requires-clause-there : goal.shares_in-all-requires-clause-there
shares_in-all-requires-clause-there c = c.loop-c.invariant.lie c.loop-c.c (omega arith) (omega (arith, c.loop-c-test.true, c.columns-c-end.ensures.number))

pub index_mut-requires : goal.index_mut-requires
index_mut-requires c =
    let g = c.args.graph.now in
    let k = c.loop-c.c in
    let near : k < length (columns g) = omega (arith, c.loop-c-test.true, c.columns-c-end.ensures.number) in
    let h = c.loop-c.invariant.lie k (omega arith) near in
    let here = c.shares_in-all.ensures.others (column_slot (size_of g) k) (λ j low. home_apart g k k j near near (omega (arith, low, c.planes.ensures, c.requires.shares.planes))) ∙ h.2.home in
    let low = got_within c.shares_in-all.new.slots.items (column_slot (size_of g) k) (home_for (share_count g k) h.0 h.1) here in
    omega (arith, low, c.lines-lines.ensures.number)

pub column_of-requires : goal.column_of-requires
column_of-requires c =
    let g = c.args.graph.now in
    let k = c.loop-c.c in
    let near : k < length (columns g) = omega (arith, c.loop-c-test.true, c.columns-c-end.ensures.number) in
    let h = c.loop-c.invariant.lie k (omega arith) near in
    let ys = c.shares_in-all.new.slots.items in
    let home : Content = home_for (share_count g k) h.0 h.1 in
    let here = c.shares_in-all.ensures.others (column_slot (size_of g) k) (λ j low. home_apart g k k j near near (omega (arith, low, c.planes.ensures, c.requires.shares.planes))) ∙ h.2.home in
    let at = ap (λ n. slice_get ys (n + k)) c.lines-lines.ensures.number ∙ here in
    let is : c.replace-content.result ≡ home = c.replace-content.ensures.value ∙ (c.index_mut.ensures.value ∙ get_or_from_slice_get ys (c.lines-lines.result + k) home c.index_mut.result.now at) in (
      h.1,
      subst (λ (y : Content). AreWhole y c.shares_in-all.result h.1) (sym is) (subst (λ (a : Option ShareValue). AreWhole home a h.1) (sym (c.shares_in-all.ensures.all h.0 h.1 h.2)) (whole_for (share_count g k) h.0 h.1)),
    )

pub loop-c-preserved : goal.loop-c-preserved
loop-c-preserved c =
    let g = c.args.graph.now in
    let k = c.loop-c.c in
    let near : k < length (columns g) = omega (arith, c.loop-c-test.true, c.columns-c-end.ensures.number) in
    let xs = c.loop-c.slots.items in
    let ys = c.shares_in-all.new.slots.items in
    let idx : ℕ = c.lines-lines.result + k in
    record {
      lie = λ m high low. (
          let h = c.loop-c.invariant.lie m (omega (arith, high)) low in (
            h.0,
            h.1,
            lies_beside g k m h.0 h.1 xs _ near low (λ same. omega (arith, same, high))
                (λ n ne far. set_get_other ys idx n c.replace-content.new.dest (λ same. far (omega (arith, same, c.lines-lines.ensures.number)))
                ∙ c.shares_in-all.ensures.others n (λ j l. ne j (omega (arith, l, c.planes.ensures, c.requires.shares.planes)))) h.2,
          ));
      loose = loose_set ys _ idx c.replace-content.new.dest c.shares_in-all.ensures.loose (subst IsLoose (sym c.replace-content.ensures.after) tt) refl;
    }
