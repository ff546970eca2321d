use Rattle.std.proofs.Common.{◌≡◌, ℕ, ◌<◌, true, inl, inr, length, sym, ◌∙◌, ap, subst, arith}
use Rattle.std.specs.Prelude.{slice_index, Vec}
use Rattle.std.specs.Global.{Global}
use Rattle.std.proofs.lemmas.Bool.{cases_lt, cases_Bool, true≢false}
use Rattle.sweep_base.specs.Noted.{is_noted}
use Rattle.section_sweeps.specs.Found.{IsSound}
use Rattle.section_sweeps.specs.Sections.{IsSectionKept}
use Rattle.section_sweeps.proofs.Finishing.{sound_of}
use Rattle.section_sweeps.proofs.found_sections.Found.pass.Goals as goal

pub returns-then-branch-clause-found : goal.returns-then-branch-clause-found
returns-then-branch-clause-found c =
    let g = c.args.graph.now in
    let old = c.requires.found in
    let e = c.in_ok-passes.ensures in
    record {
      size = old.size;
      held = e.held;
      sound = λ q l a low sure. elim (cases_lt (slice_index c.args.table.now.places.items q) c.args.start) [
        | inl before ↦ old.sound q l a before sure
        | inr from ↦ (let k = c.in_ok-end.ensures.gathered.all q l a from low in subst (IsSound g) k.2 (sound_of g c.passes.new.held _ (e.kept c.if-branch.true k.0 k.1)))
      ];
      kept = λ sure q l i low sec. elim (cases_lt (slice_index c.args.table.now.places.items q) c.args.start) [
        | inl before ↦ e.grown l i (old.kept sure q l i before sec)
        | inr from ↦ (let k = c.in_ok-end.ensures.gathered.all q l sec.acquires from low in (subst (λ z. IsSectionKept g c.passes.new.held z) k.2 (e.kept c.if-branch.true k.0 k.1)).kept l i sec)
      ];
      sure = old.sure;
    }

pub returns-clause-found : goal.returns-clause-found
returns-clause-found c =
    let g = c.args.graph.now in
    let old = c.requires.found in
    let e = c.doubt.ensures in
    let new = c.doubt.new.self in
    let same : c.as_slice.result.now ≡ c.gather.new.self.acquires.items = c.as_slice.ensures.value ∙ ap (λ (v : Vec ℕ Global). v.items) c.passes.ensures.acquires in
    record {
      size = e.size ∙ old.size;
      held = c.in_ok-self.ensures;
      sound = λ q l a low sure. elim (cases_lt (slice_index c.args.table.now.places.items q) c.args.start) [
        | inl before ↦ elim (cases_Bool (is_noted c.args.self.now.doubted.items q)) [
          | inl yes' ↦ absurd (true≢false (sym (e.still q yes') ∙ sure))
          | inr no' ↦ old.sound q l a before no'
        ]
        | inr from ↦ (
            let k = c.in_ok-end.ensures.gathered.all q l a from low in
            let noted = subst (λ xs. k.0 < length xs → is_noted new.doubted.items (slice_index xs k.0) ≡ true) same (e.doubted k.0) k.1 in
            absurd (true≢false (sym noted ∙ (ap (is_noted new.doubted.items) k.2 ∙ sure))))
      ];
      kept = λ h. absurd (true≢false (sym e.any ∙ h));
      sure = λ h. absurd (true≢false (sym e.any ∙ h));
    }

pub doubt-requires : goal.doubt-requires
doubt-requires c =
    let same : c.as_slice.result.now ≡ c.gather.new.self.acquires.items = c.as_slice.ensures.value ∙ ap (λ (v : Vec ℕ Global). v.items) c.passes.ensures.acquires in
    subst (λ xs. (b : ℕ) → b < length xs → slice_index xs b < length c.args.self.now.doubted.items) (sym same)
    (λ b low. (let k = (c.in_ok-end.ensures.gathered.known b low).0 in omega (arith, k, c.requires.found.size)))
