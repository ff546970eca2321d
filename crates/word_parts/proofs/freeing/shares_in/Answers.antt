use Rattle.std.proofs.Common.{arith, ◌≡◌, ◌≢◌, ◌+◌, ◌*◌, ◌^◌, ◌<◌, ◌≤◌, ℕ, Option, refl, sym, ◌∙◌, ap, subst}
use Rattle.std.specs.Prelude.{Some, slice_get}
use Rattle.std.proofs.lemmas.Option.{get_or_from_slice_get}
use Rattle.index_spaces.specs.Column.{ColumnValue}
use Rattle.index_spaces.specs.Shares.{ShareValue}
use Rattle.word_steps.specs.Layout.{size_of, share_slot}
use Rattle.word_steps.specs.Lending.{MayJoin, joined, first_for, place_for}
use Rattle.word_parts.specs.Preparing.{IsLoose, LiesStill}
use Rattle.share_words.specs.Planes.{slot_in_planes}
use Rattle.share_words.specs.Shares.{share_count}
use Rattle.share_words.proofs.Public.{slots_apart, share_count_few, shares_in_planes}
use Rattle.word_steps.proofs.Public.{may_join, join_next, first_none, first_all}
use Rattle.word_parts.proofs.PrepareFacts.{loose_set}
use Rattle.basics.proofs.ListFacts.{set_get_other}
use Rattle.word_parts.proofs.Freed.{got_within}
use Rattle.word_parts.proofs.freeing.shares_in.Goals as goal

pub loop-j-init : goal.loop-j-init
loop-j-init c = record { first = λ d x h. sym (first_none (share_count c.args.graph.now c.args.c) d x 0 (omega arith)); others = λ k ne. refl; loose = c.requires.loose }

pub index_mut-requires : goal.index_mut-requires
unfolding slot_in_planes
index_mut-requires c =
    let z = size_of c.args.graph.now in
    let k = c.args.c in
    let j = c.loop-j.j in
    let within : j < z.planes = omega (arith, c.loop-j-test.true, c.requires.planes) in
    let row : j * c.columns-columns.result ≡ j * z.cols = ap (λ n. j * n) c.columns-columns.ensures.number in
    let spot : c.lines.result + c.columns-columns.result + k + j * c.columns-columns.result ≡ share_slot z k j = omega (arith, row, c.columns-columns.ensures.number, c.lines.ensures.number) in
    let far : (i : ℕ) → i < j → share_slot z k j ≢ share_slot z k i = λ i low same. (let both = slots_apart (z.lines + z.cols) z.cols k k j i c.requires.known c.requires.known same in let q = both.1 in omega (arith, q, low)) in
    let h = c.requires.there.2 in
    let low = got_within c.loop-j.slots.items (share_slot z k j) (place_for (share_count c.args.graph.now k) j c.requires.there.0 c.requires.there.1) (c.loop-j.invariant.others (share_slot z k j) far ∙ h.places j within) in
    omega (arith, low, spot)

pub joined-all-requires : goal.joined-all-requires
unfolding slot_in_planes
joined-all-requires c =
    let g = c.args.graph.now in
    let z = size_of g in
    let k = c.args.c in
    let j = c.loop-j.j in
    let i = c.loop-j.invariant in
    let xs = c.loop-j.slots.items in
    let within : j < z.planes = omega (arith, c.loop-j-test.true, c.requires.planes) in
    let row : j * c.columns-columns.result ≡ j * z.cols = ap (λ n. j * n) c.columns-columns.ensures.number in
    let spot : c.lines.result + c.columns-columns.result + k + j * c.columns-columns.result ≡ share_slot z k j = omega (arith, row, c.columns-columns.ensures.number, c.lines.ensures.number) in
    let far : (i : ℕ) → i < j → share_slot z k j ≢ share_slot z k i = λ i low same. (let both = slots_apart (z.lines + z.cols) z.cols k k j i c.requires.known c.requires.known same in let q = both.1 in omega (arith, q, low)) in
    let few : share_count g k < 2 ^ 63 = omega (arith, share_count_few g k) in
    let d = c.requires.there.0 in
    let x = c.requires.there.1 in
    let h = c.requires.there.2 in
    let at = ap (slice_get xs) spot ∙ (i.others (share_slot z k j) far ∙ h.places j within) in
    let is : c.replace-content.result ≡ place_for (share_count g k) j d x = c.replace-content.ensures.value ∙ (c.index_mut.ensures.value ∙ get_or_from_slice_get xs (c.lines.result + c.columns-columns.result + k + j * c.columns-columns.result) (place_for (share_count g k) j d x) c.index_mut.result.now at) in
    subst (MayJoin c.loop-j.all) (sym is) (subst (λ (a : Option ShareValue). MayJoin a (place_for (share_count g k) j d x)) (sym (i.first d x h)) (may_join (share_count g k) d x few j))

pub loop-j-preserved : goal.loop-j-preserved
unfolding slot_in_planes
loop-j-preserved c =
    let g = c.args.graph.now in
    let z = size_of g in
    let k = c.args.c in
    let j = c.loop-j.j in
    let i = c.loop-j.invariant in
    let xs = c.loop-j.slots.items in
    let within : j < z.planes = omega (arith, c.loop-j-test.true, c.requires.planes) in
    let row : j * c.columns-columns.result ≡ j * z.cols = ap (λ n. j * n) c.columns-columns.ensures.number in
    let idx : ℕ = c.lines.result + c.columns-columns.result + k + j * c.columns-columns.result in
    let spot : c.lines.result + c.columns-columns.result + k + j * c.columns-columns.result ≡ share_slot z k j = omega (arith, row, c.columns-columns.ensures.number, c.lines.ensures.number) in
    let far : (i : ℕ) → i < j → share_slot z k j ≢ share_slot z k i = λ i low same. (let both = slots_apart (z.lines + z.cols) z.cols k k j i c.requires.known c.requires.known same in let q = both.1 in omega (arith, q, low)) in
    let few : share_count g k < 2 ^ 63 = omega (arith, share_count_few g k) in
    record {
      first = λ d x h. (
          let at = ap (slice_get xs) spot ∙ (i.others (share_slot z k j) far ∙ h.places j within) in
          let is : c.replace-content.result ≡ place_for (share_count g k) j d x = c.replace-content.ensures.value ∙ (c.index_mut.ensures.value ∙ get_or_from_slice_get xs idx (place_for (share_count g k) j d x) c.index_mut.result.now at) in
          c.joined-all.ensures ∙ (ap (λ (a : Option ShareValue). joined a c.replace-content.result) (i.first d x h) ∙ (ap (joined (first_for (share_count g k) j d x)) is ∙ join_next (share_count g k) d x few j)));
      others = λ n ne. set_get_other xs idx n c.replace-content.new.dest (λ same. ne j (omega arith) (same ∙ spot)) ∙ i.others n (λ m low. ne m (omega (arith, low)));
      loose = loose_set xs _ idx c.replace-content.new.dest i.loose (subst IsLoose (sym c.replace-content.ensures.after) tt) refl;
    }

pub returns-clause-all : goal.returns-clause-all
returns-clause-all c = λ d x h.
    let g = c.args.graph.now in
    let k = c.args.c in
    let few : share_count g k < 2 ^ 63 = omega (arith, share_count_few g k) in
    let all : share_count g k ≤ c.loop-j.j = omega (arith, shares_in_planes g k c.requires.known, c.requires.planes, c.loop-j-test.false) in
    c.loop-j.invariant.first d x h ∙ first_all (share_count g k) d x few c.loop-j.j all

pub returns-clause-others : goal.returns-clause-others
returns-clause-others c = λ n ne. c.loop-j.invariant.others n (λ m low. ne m (omega (arith, low, c.loop-j.auto.j-end)))
