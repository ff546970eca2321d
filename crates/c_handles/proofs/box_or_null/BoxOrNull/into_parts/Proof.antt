-- `into_parts` compares the pointer with null. At null it owns nothing, and else two fields are moved, and what they own goes with them.
use mathlib.Core.Path.{◌≡◌, refl, sym, subst}
use mathlib.Core.List.{List, [], ◌∷◌, ◌++◌}
use lib.Dec.{T, lit<}
use Rattle.std.specs.Prelude.{Option, Some, None}
use seplogic.Ra.Ura.{Ura}
use mir.Raw.{raw as bare}
use mir.Syntax.{Fn, Ty}
use mir.MapTy.{inst_fn}
use mir.Val.{Val, vstruct, vnil, vcons, of_list, has_ty, WT}
use base.Logic.{SProp, ent, guard, guard_i, id⊢}
use base.Fml.{ftrue, fsep, flft}
use contract.BorrowLft.{◌⊑◌}
use prog.Memory.{Memory}
use prog.Routine.{Routine}
use prog.Wp.{WpFn, Tables}
use types.Logic.{Logic, sem}
use contract.Monad.{Fun, fact, fact_use}
use contract.Running.{tables, tables_of}
use sound.WpLaws.{WpFn-mono}
use types.Kit.{Item, ‵, raw, ◌⊛◌, given, at_ret, ◌$◌, ◌∵◌, !, qed, by, move, keep, drop, learn, use0, use1, join, split, fsplit, fjoin, fpick, feq_l, suffices, done}
use types.Match.{live}
use types.Part.{whole, sub, agg}
use types.Run.{stop, fld, lit, bin, no_more, and_then, of_opd, first, branches, exec, returns, enter}
use types.ByLocal.{alloc_all, pass_all, free_all, look_at, get, get_in, sets, sets_last, env}
use denote.Exit.{no}
use denote.Param.Laws.{Laws}
use denote.RawPtr.{Ptr, block_ptr, null_ptr, ptr_val, Testable, tests_null}
use denote.RattleType.{RattleType}
use denote.Signature.{Slot, plain}
use denote.Steps.{nothing}
use denote.Triple.Clauses.{Ended, Clauses}
use denote.Triple.Spec.{triple_of}
use denote.Triple.Table.{entered}
use denote.Triple.Walked.{says, Stays, stay_dropped, walk_of, ends_at, walk_Meets}
use Rattle.std.proofs.alloc.Shapes.{after}
use Rattle.std.proofs.option.Made.{Some-of, none_of}
use Rattle.std.proofs.GlobalToken.{dealloc_token-Testable}
use Rattle.std.proofs.ResultValues.{and_tt}
use Rattle.std.proofs.alloc.Calls.{token, handle_tells, α, Goes-blank}
use Rattle.std.specs.Global.{Global}
use Rattle.std.proofs.BoxSteps.Form.{Bx, D, τ, word, box_typed, box_ty}
use Rattle.std.proofs.BoxSteps.Steps.{box_out, box_in}
use Rattle.std.specs.contracts.option.Option as OptionRow
use Rattle.std_heap.specs.contracts.GlobalAllocator.TheImpl.{ghosts}
use Rattle.c_handles.proofs.AsBox.{E, PartsRow, OrNull, args}
use Rattle.c_handles.specs.contracts.box_or_null.BoxOrNull.into_parts as F
use Rattle.c_handles.specs.contracts.box_or_null.BoxOrNull.into_parts.Key.{name as #self}
use Rattle.c_handles.proofs.box_or_null.BoxOrNull.into_parts.Statement as stated
use Rattle.c_handles.proofs.box_or_null.BoxOrNull.into_parts.Code as code

module _ (X : RattleType) (LX : Laws X) where
  abbrev fn' : Fn
  fn' = inst_fn (args X) code.function

  abbrev ended : Ended
  ended = F.ended X

  abbrev From' : RattleType
  From' = OrNull X LX

  abbrev From : Slot 1
  From = plain (λ _. From')

  abbrev stayed : Stays ended.signature.params ended.kept
  stayed = (stay_dropped From no, tt)

  abbrev Boxes : Bx
  Boxes = E X LX

  abbrev Out : RattleType
  Out = PartsRow X LX

  abbrev Answer : RattleType
  Answer = OptionRow.the_row Out

  module _ {M : Type 1} {𝓤 : Ura M} (𝓛 : Logic 𝓤) (at_mem : Memory → SProp 𝓤) (run : Routine → Fun 𝓤) (𝓣 : Tables 𝓤 𝓛.H) where
    open 𝓛 use {H}

    abbrev held : Clauses 𝓤 ended
    held = F.clauses X 𝓛 at_mem run

    -- a block that may be freed may be compared with null
    tested : (a : Global) (σ : Ty) (p : Ptr) → ent 𝓤 (sem 𝓛 (ghosts.dealloc_token a (bare σ) p)) (guard 𝓤 (Testable p) (sem 𝓛 (ghosts.dealloc_token a (bare σ) p)))
    tested a σ p = fact_use 𝓤 (Testable p) (dealloc_token-Testable 𝓛 a (bare σ) p) (guard_i 𝓤 (Testable p) (sem 𝓛 (ghosts.dealloc_token a (bare σ) p)))

    abbrev Ghost : Type 0
    Ghost = (walk_of 𝓛 ended stayed held).Ghost

    abbrev Post : Ghost → Val → SProp 𝓤
    Post z = (walk_of 𝓛 ended stayed held).post z

    abbrev tokens : Ghost → Item 𝓤
    tokens z = ‵ (flft z.0.0.0 z.0.1.0) ⊛ ‵ ftrue

    from : (z : Ghost) (o : Option X.Denot) → z.0.3.0.value ≡ o
        → ent 𝓤 (types.Kit.⋆ 𝓛 (‵ (From'.own_val (record { at = z.0.3.0.at; alloc = z.0.3.0.alloc; value = o }) z.0.4.0) ∷ tokens z ∷ [])) (WpFn 𝓤 H 𝓣.C 𝓣.Λ fn' (z.0.4.0 ++ []) (Post z))
    from z None e =
        let h = z.0.3.0 in let vs = z.0.4.0 in
        qed 𝓛 (‵ (From'.own_val (record { at = h.at; alloc = h.alloc; value = None }) vs) ∷ tokens z ∷ []) ∵
        fsplit ! $ fpick ! (λ vss. fsplit ! $ feq_l ! (λ ev. fsplit ! $ feq_l ! (λ ep. fsplit ! $ handle_tells Boxes.al ! h.alloc vss.1.0 (λ hv ea fa. move ! (1 ∷ []) $ drop ! $ move ! (1 ∷ []) $ feq_l ! (λ en.
        let w : Val = vstruct (vcons (ptr_val null_ptr) (vcons hv vnil)) in
        let typed : T (has_ty (box_ty Boxes) w) × WT w = (and_tt (has_ty (α Boxes.al) hv) fa.0, (record { fits = lit< tt }, (fa.1, tt))) in
        let ws : vs ≡ w ∷ [] = subst (λ (p : Ptr). vs ≡ vstruct (of_list (ptr_val p ∷ hv ∷ [])) ∷ []) en
        (subst (λ (us : List Val). vs ≡ vstruct (of_list (ptr_val h.at ∷ (us ++ []))) ∷ []) ea (subst (λ (ps : List Val). vs ≡ vstruct (of_list (ps ++ (vss.1.0 ++ []))) ∷ []) ep ev)) in
        drop ! $
        by ! (subst (λ (us : List Val). ent 𝓤 (types.Kit.⋆ 𝓛 (tokens z ∷ [])) (WpFn 𝓤 H 𝓣.C 𝓣.Λ fn' (us ++ []) (Post z))) (sym ws)
        (qed 𝓛 (tokens z ∷ []) ∵ enter ! 𝓣.C 𝓣.Λ fn' (w ∷ []) _ $ alloc_all ! (λ ls. pass_all ! refl (typed, tt) $ let Ev = env fn'.locals ls in
        sets ! (of_opd ! (get_in ! (fld ! refl (stop !)) (sub ! 0 refl (whole !)))) refl (tt, record { fits = lit< tt }) $
        sets ! (of_opd ! (get_in ! (fld ! refl (stop !)) (sub ! 1 refl (whole !)))) refl fa $
        sets ! (bin ! (get ! refl) (lit ! tt) tt) refl (tt, tt) $
        first ! $ branches ! (get ! refl)
        (λ _. sets_last ! (agg ! (and_then ! (lit ! tt) (no_more !))) refl (tt, (record { fits = lit< tt }, tt)) $
        exec ! 𝓣.C 𝓣.Λ Ev (after 4 fn'.body) (at_ret Ev (Post z)) $
        sets ! (of_opd ! (get ! refl)) refl (tt, (record { fits = lit< tt }, tt)) $
        use0 𝓛 (‵ (Answer.own_val None (live 0 vnil ∷ []))) (none_of 𝓛 Out) $
        returns ! (look_at ! 0 refl) $ free_all ! refl $
        suffices ! _ (ends_at 𝓛 ended stayed held z (live 0 vnil) None (tt, tt) (tt, tt)) $ says ! e $
        nothing ! $ nothing ! $ fjoin ! $ join ! $ move ! (1 ∷ 0 ∷ []) $ join ! $ done !)
        (λ wrong. absurd wrong)))))))))
    from z (Some t) e =
        let h = z.0.3.0 in
        let v : D Boxes = record { ptr = h.at; alloc = h.alloc; value = t } in
        let made : Out.Denot = record { ptr = h.at; alloc = h.alloc; value = t } in
        qed 𝓛 (‵ (From'.own_val (record { at = h.at; alloc = h.alloc; value = Some t }) z.0.4.0) ∷ tokens z ∷ []) ∵
        box_out Boxes ! v z.0.4.0 (λ b o hv q ws fa. move ! (1 ∷ []) $
        use1 𝓛 (given (Testable (block_ptr b o)) (‵ (token Boxes.al h.alloc (bare (τ Boxes)) (block_ptr b o)))) (tested h.alloc (τ Boxes) (block_ptr b o)) $ learn ! (λ may. move ! (1 ∷ 0 ∷ []) $
        box_in Boxes ! v b o v.value q refl $
        let w = word Boxes hv b o in
        let typed = box_typed Boxes hv b o fa in
        use1 𝓛 (‵ (Out.own_val made (w ∷ []))) (id⊢ 𝓤 _) $
        use1 𝓛 (‵ (Answer.own_val (Some made) (live 1 (of_list (w ∷ [])) ∷ []))) (Some-of 𝓛 Out made w) $
        let Γ : List (Item 𝓤) = ‵ (Answer.own_val (Some made) (live 1 (of_list (w ∷ [])) ∷ [])) ∷ tokens z ∷ [] in
        by ! (subst (λ (us : List Val). ent 𝓤 (types.Kit.⋆ 𝓛 Γ) (WpFn 𝓤 H 𝓣.C 𝓣.Λ fn' (us ++ []) (Post z))) (sym ws)
        (qed 𝓛 Γ ∵ enter ! 𝓣.C 𝓣.Λ fn' (w ∷ []) _ $ alloc_all ! (λ ls. pass_all ! refl (typed, tt) $ let Ev = env fn'.locals ls in
        sets ! (of_opd ! (get_in ! (fld ! refl (stop !)) (sub ! 0 refl (whole !)))) refl (tt, tt) $
        sets ! (of_opd ! (get_in ! (fld ! refl (stop !)) (sub ! 1 refl (whole !)))) refl fa $
        sets ! (bin ! (get ! refl) (lit ! tt) (tests_null (block_ptr b o) may)) refl (tt, tt) $
        first ! $ branches ! (get ! refl) (λ wrong. absurd wrong)
        (λ _. sets ! (agg ! (and_then ! (get ! refl) (and_then ! (get ! refl) (no_more !)))) refl typed $
        sets_last ! (agg ! (and_then ! (lit ! tt) (and_then ! (get ! refl) (no_more !)))) refl (and_tt (has_ty (box_ty Boxes) w) typed.0, (record { fits = lit< tt }, (typed.1, tt))) $
        exec ! 𝓣.C 𝓣.Λ Ev (after 4 fn'.body) (at_ret Ev (Post z)) $
        sets ! (of_opd ! (get ! refl)) refl (and_tt (has_ty (box_ty Boxes) w) typed.0, (record { fits = lit< tt }, (typed.1, tt))) $
        returns ! (look_at ! 0 refl) $ free_all ! refl $
        suffices ! _ (ends_at 𝓛 ended stayed held z (live 1 (of_list (w ∷ []))) (Some made) (tt, tt) (tt, tt)) $ says ! e $
        nothing ! $ nothing ! $ fjoin ! $ join ! $ move ! (1 ∷ 0 ∷ []) $ join ! $ done !))))))

    walk : (z : Ghost) → ent 𝓤 ((walk_of 𝓛 ended stayed held).pre z) (WpFn 𝓤 H 𝓣.C 𝓣.Λ fn' (z.0.4.0 ++ []) (Post z))
    walk z =
        let alive : Item 𝓤 = raw (fact 𝓤 (z.0.0.0 ⊑ X.lives)) ⊛ ‵ ftrue in
        qed 𝓛 ((tokens z ⊛ ‵ (fsep (From'.own_val z.0.3.0 z.0.4.0) ftrue)) ∷ alive ∷ []) ∵ split ! $ move ! (1 ∷ []) $ fsplit ! $ keep ! (0 ∷ 2 ∷ []) $ by ! (from z z.0.3.0.value refl)

pub into_parts_spec : {M : Type 1} → stated.statement M
unfolding tables_of
into_parts_spec 𝓤 𝓛 𝓜 𝓡 wired X LX =
    let 𝓣 : Tables 𝓤 𝓛.H = tables_of 𝓤 𝓛.H 𝓜 (tables 𝓤 𝓛.H 𝓜 𝓡 𝓡.env) in
    let fn = fn' X LX in
    entered 𝓤 𝓛.H (triple_of 𝓛 (ended X LX).signature (F.spec X 𝓛 𝓜.mem 𝓡.returns)) 𝓣.C 𝓣.Λ (#self (args X)) fn (code.unfolded 𝓤 𝓛.H 𝓜 𝓡 wired (X, tt))
    (walk_Meets 𝓛 (ended X LX) (stayed X LX) (Goes-blank 𝓛 1 (From X LX) no (λ κs x f. tt), tt) (held X LX 𝓛 𝓜.mem 𝓡.returns 𝓣) (WpFn 𝓤 𝓛.H 𝓣.C 𝓣.Λ fn) (WpFn-mono 𝓤 𝓛.H 𝓛.laws 𝓣 fn)
    (walk X LX 𝓛 𝓜.mem 𝓡.returns 𝓣))
