-- A function that takes a struct of a pointer and the heap's allocator apart, and makes another such struct of the two. What the one owns, the other owns.
use mathlib.Core.Path.{◌≡◌, refl, sym, subst}
use mathlib.Core.List.{List, [], ◌∷◌, ◌++◌}
use Prim.Native.Nat.{ℕ}
use lib.Dec.{T, lit<}
use seplogic.Ra.Ura.{Ura}
use mir.Syntax.{ty_ptr}
use mir.Val.{Val, vstruct, vnil, vcons, of_list, has_ty, WT}
use base.Logic.{SProp, ent, emp}
use base.Fml.{Fml, ftrue, fsep}
use prog.Wp.{WpFn, Tables}
use types.Logic.{Logic, sem}
use sound.WpLaws.{WpFn-mono}
use types.Kit.{Item, ‵, raw, ◌⊛◌, ◌$◌, ◌∵◌, !, qed, by, move, keep, drop, rewrite, use1, join, split, fsplit, fjoin, fpick, fpack, feq_l, feq_i, suffices, done}
use types.Part.{whole, sub, agg}
use types.Run.{stop, fld, no_more, and_then, of_opd, returns, enter}
use types.ByLocal.{alloc_all, pass_all, free_all, look_at, get, get_in, sets}
use denote.Exit.{yes}
use denote.Param.{param}
use denote.RattleType.{RattleType, Valss}
use denote.RawPtr.{Ptr, RawPtr, block_ptr, null_ptr, ptr_val}
use denote.Signature.{plain}
use denote.Steps.{nothing}
use denote.Struct.Struct.{within}
use denote.Struct.Owning.{shape}
use denote.Triple.Clauses.{Clauses, closing}
use denote.Triple.Spec.{Meets}
use denote.Triple.Walked.{says, Stays, stay_dropped, walk_of, ends_at, Goes-dropped, walk_Meets}
use Rattle.std.proofs.alloc.Calls.{α, Fits, handle_tells}
use Rattle.std.proofs.ResultValues.{and_tt}
use Rattle.std.specs.Global.{Global}
use Rattle.c_handles.specs.Moving.{two, pair, owned, moving, Moved, ended, says_of}
use Rattle.c_handles.proofs.AsBox.{heap_alloc}

typed : (p : Ptr) → T (has_ty ty_ptr (ptr_val p)) × WT (ptr_val p)
typed (block_ptr b o) = (tt, tt)
typed null_ptr = (tt, record { fits = lit< tt })

abbrev word : Ptr → Val → Val
word p hv = vstruct (vcons (ptr_val p) (vcons hv vnil))

word_typed : (name : List ℕ) (p : Ptr) (hv : Val) → Fits heap_alloc hv → T (has_ty (pair name) (word p hv)) × WT (word p hv)
word_typed name (block_ptr b o) hv fa = (and_tt (has_ty (α heap_alloc) hv) fa.0, (tt, (fa.1, tt)))
word_typed name null_ptr hv fa = (and_tt (has_ty (α heap_alloc) hv) fa.0, (record { fits = lit< tt }, (fa.1, tt)))

module _ {M : Type 1} {𝓤 : Ura M} (𝓛 : Logic 𝓤) (𝓣 : Tables 𝓤 𝓛.H) (to from : List ℕ) where
  open 𝓛 use {H}

  moves : (p : Ptr) (a : Global) (heap : Fml) (vs : List Val) (Post : Val → SProp 𝓤) → ((u : Val) → ent 𝓤 (sem 𝓛 (owned p a heap (u ∷ []))) (Post u))
      → ent 𝓤 (sem 𝓛 (owned p a heap vs)) (WpFn 𝓤 H 𝓣.C 𝓣.Λ (moving to from) (vs ++ []) Post)
  moves p a heap vs Post ends =
      qed 𝓛 (‵ (owned p a heap vs) ∷ []) ∵
      fsplit ! $ fpick ! (λ vss. fsplit ! $ feq_l ! (λ ev. fsplit ! $ feq_l ! (λ ep. fsplit ! $ handle_tells heap_alloc ! a vss.1.0 (λ hv ea fa. move ! (1 ∷ []) $ drop ! $
      let w = word p hv in
      let ws : vs ≡ w ∷ [] =
      subst (λ (us : List Val). vs ≡ vstruct (of_list (ptr_val p ∷ (us ++ []))) ∷ []) ea (subst (λ (ps : List Val). vs ≡ vstruct (of_list (ps ++ (vss.1.0 ++ []))) ∷ []) ep ev) in
      nothing ! $ move ! (1 ∷ 0 ∷ []) $ fjoin ! $ feq_i ! (List Val) (ptr_val p ∷ []) (ptr_val p ∷ []) refl $ fjoin ! $ feq_i ! (List Val) (w ∷ []) (w ∷ []) refl $ fjoin ! $
      fpack ! (Valss (RawPtr ∷ param 1 heap_alloc.row ∷ [])) (within (shape two) (p, (a, tt)) (w ∷ [])) (ptr_val p ∷ [], (hv ∷ [], tt)) $ fjoin ! $
      let Γ : List (Item 𝓤) = ‵ (owned p a heap (w ∷ [])) ∷ [] in
      by ! (subst (λ (us : List Val). ent 𝓤 (types.Kit.⋆ 𝓛 Γ) (WpFn 𝓤 H 𝓣.C 𝓣.Λ (moving to from) (us ++ []) Post)) (sym ws)
      (qed 𝓛 Γ ∵ enter ! 𝓣.C 𝓣.Λ (moving to from) (w ∷ []) _ $ alloc_all ! (λ ls. pass_all ! refl (word_typed from p hv fa, tt) $
      sets ! (of_opd ! (get_in ! (fld ! refl (stop !)) (sub ! 0 refl (whole !)))) refl (typed p) $ sets ! (of_opd ! (get_in ! (fld ! refl (stop !)) (sub ! 1 refl (whole !)))) refl fa $
      sets ! (of_opd ! (get ! refl)) refl (typed p) $
      sets ! (agg ! (and_then ! (get ! refl) (and_then ! (get ! refl) (no_more !)))) refl (word_typed to p hv fa) $ returns ! (look_at ! 0 refl) $ free_all ! refl $ by ! (ends w))))))))

abbrev stayed : (From To : RattleType) → Stays (ended From To).signature.params (ended From To).kept
stayed From To = (stay_dropped (plain (λ _. From)) yes, tt)

module _ {M : Type 1} {𝓤 : Ura M} (𝓛 : Logic 𝓤) {From To : RattleType} where
  module _ (𝓣 : Tables 𝓤 𝓛.H) (to from : List ℕ) (S : Moved From To) (Said : From.Denot → To.Denot → Type 0) (said : (x : From.Denot) → Said x (S.after x)) where
    open 𝓛 use {H}

    abbrev held : Clauses 𝓤 (ended From To)
    held = says_of 𝓛 Said

    walk : (z : (walk_of 𝓛 (ended From To) (stayed From To) held).Ghost)
        → ent 𝓤 ((walk_of 𝓛 (ended From To) (stayed From To) held).pre z) (WpFn 𝓤 H 𝓣.C 𝓣.Λ (moving to from) (z.0.4.0 ++ []) ((walk_of 𝓛 (ended From To) (stayed From To) held).post z))
    walk z =
        let x = z.0.3.0 in
        qed 𝓛 ((‵ ftrue ⊛ ‵ (fsep (From.own_val x z.0.4.0) ftrue)) ∷ raw (emp 𝓤) ∷ []) ∵ split ! $ move ! (1 ∷ []) $ fsplit ! $ keep ! (0 ∷ []) $
        rewrite ! 0 (λ (F : Fml). ‵ F) (S.owned_before x z.0.4.0) refl $
        by ! (moves 𝓛 𝓣 to from (S.at x) (S.alloc x) (S.heap x) z.0.4.0 ((walk_of 𝓛 (ended From To) (stayed From To) held).post z) (λ u.
        qed 𝓛 (‵ (owned (S.at x) (S.alloc x) (S.heap x) (u ∷ [])) ∷ []) ∵ rewrite ! 0 (λ (F : Fml). ‵ F) (S.owned_after x (u ∷ [])) refl $
        suffices ! _ (ends_at 𝓛 (ended From To) (stayed From To) held z u (S.after x) (S.last x, tt) (tt, tt)) $ says ! (said x) $
        nothing ! $ nothing ! $ fjoin ! $ join ! $ nothing ! $ join ! $ done !))

    pub moved : Meets 𝓛 (ended From To).signature (WpFn 𝓤 H 𝓣.C 𝓣.Λ (moving to from)) (closing 𝓛 (ended From To) held)
    moved = walk_Meets 𝓛 (ended From To) (stayed From To) (Goes-dropped 𝓛 0 (plain (λ _. From)) yes (λ κs x f. S.silent x f), tt) held (WpFn 𝓤 H 𝓣.C 𝓣.Λ (moving to from)) (WpFn-mono 𝓤 H 𝓛.laws 𝓣 (moving to from)) walk
