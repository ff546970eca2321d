-- A run that begins meets the rule.
use Rattle.std.proofs.Common.{◌≡◌, ℕ, zero, suc, ◌+◌, ◌<◌, List, [], ◌∷◌, length, map, get_or, inl, refl, sym, ◌∙◌, ap, subst, arith, ⊎_elim}
use Rattle.std.specs.Prelude.{Contains, Option, Some, None, slice_get}
use Rattle.std.proofs.lemmas.Bool.{true≢false}
use Rattle.std.proofs.lemmas.Option.{none-some, same_Some}
use Rattle.std.proofs.lemmas.List.FromFn.{get_or-map-range_with_len}
use mathlib.Core.Option.{some, some-ne-none}
use lib.ListN.{get_elem?}
use Rattle.atomic_table.specs.Table.{opening}
use Rattle.atomic_table.proofs.Lists.{at_snoc, at_map}
use Rattle.graph_terms.specs.declared.outcome.End.{End}
use Rattle.graph_terms.specs.Graph.{GraphValue, columns, locks}
use Rattle.graph_meaning.specs.Rules.{Accepted}
use Rattle.graph_terms.specs.Fits.{IsGraph}
use Rattle.shared_events.specs.declared.events.Events.{Events}
use Rattle.basics.proofs.ListFacts.{contains_none, same_at, contains_one as Contains-one}
use Rattle.run_state.specs.Run.{LineStage, Unissued, Home, stage_at, place_at, stage_issued, stage_ended}
use Rattle.run_state.specs.Start.{start, zeros, first_value}
use Rattle.word_steps.proofs.RunFacts.{start_is_sound}
use Rattle.word_steps.specs.declared.content.Content.{Content}
use Rattle.word_steps.specs.declared.content.Content.TheVariants.{Nothing, Share, Issuer}
use Rattle.word_steps.specs.declared.view.View.{View}
use Rattle.word_steps.specs.Layout.{size_of, turn_word, column_slot, share_slot, issue_turn_slot}
use Rattle.word_steps.specs.Views.{time_code, busy}
use Rattle.word_steps.specs.Rule.{Loans, ground_of, LineShown, handle_at, home_content, share_value, ColumnShown, column_with, lock_code, Fits, Shown, opener}
use Rattle.word_steps.proofs.LendingFacts.{place_some, place_none}
use Rattle.share_words.specs.Shares.{share_count}
use Rattle.share_words.proofs.Public.{shares_in_planes}
use Rattle.word_steps.proofs.LockCodes.{code_none}
use Rattle.word_steps.specs.Opening.{AreFirstWords, AreFirstSlots}

pub got_elem : {X : Type 0} (xs : List X) (i : ℕ) (x : X) → slice_get xs i ≡ Some x → get_elem? xs i ≡ some x
got_elem [] i x h = absurd (none-some x h)
got_elem (y ∷ ys) zero x h = ap (λ z. some z) (same_Some y x h)
got_elem (y ∷ ys) (suc i) x h = got_elem ys i x h

at_slot : (xs : List Content) (i : ℕ) (x : Content) → slice_get xs i ≡ Some x → get_elem? (map some xs) i ≡ some (some x)
at_slot xs i x h = at_map some xs i x (got_elem xs i x h)

length-map-some : (xs : List Content) → length (map (λ (x : Content). some x) xs) ≡ length xs
length-map-some [] = refl
length-map-some (x ∷ xs) = ap suc (length-map-some xs)

pub opens : (g : GraphValue) (e : Events) (ws : List ℕ) (xs : List Content) → IsGraph g → Accepted g → AreFirstWords g (size_of g) ws → AreFirstSlots g e (size_of g) xs → Shown g e (opening ws xs (opener g e))
opens g e ws xs graph accepted w x =
    let v : View = opener g e in
    let z = size_of g in
    let stage : (i : ℕ) → stage_at (start g).stages i ≡ Unissued = same_at Unissued (length g.lines) in
    let loans : Loans = record { lending = x.lending; holder = λ c j. 0 } in
    let home : (c : ℕ) → c < z.cols → place_at (start g).places c ≡ Home (zeros g c) =
    λ c l. get_or-map-range_with_len (λ c. Home (zeros g c)) 0 (length (columns g)) c c (Home []) l (let q : 0 + c ≡ c = omega arith in q) in
    let one : (j : ℕ) (u : View) → get_elem? (v ∷ []) j ≡ some u → v ≡ u = λ j u q. ⊎_elim (λ (y : get_elem? {A = View} [] j ≡ some u). absurd (some-ne-none u (sym y))) (λ y. y) (at_snoc [] v u j q) in
    let fits : Fits g e (start g) loans [] v = record {
      keys = λ y c. sym (Contains-one (ground_of g e) y c);
      issued = λ j h. absurd (contains_none j h);
      ended = λ j y h. absurd (contains_none {X = ℕ × End} (j, y) h);
      times = λ j t h. absurd (contains_none {X = ℕ × ℕ} (j, t) h);
      named = λ l h. absurd (contains_none l h);
      claim = λ y q. absurd (none-some y q);
      event = λ y q. absurd (none-some y q);
      issuing = λ y q. absurd (none-some y q);
      issuer = λ y q. absurd (none-some y q);
      issue_turn = λ y q. absurd (none-some y q);
      idle = λ _. (refl, refl, refl);
    } in
    record {
      run = start g;
      loans = loans;
      handles = [];
      sound = start_is_sound g graph accepted;
      are_handles = record {
        each_issued = λ i. ((λ h. absurd (true≢false (sym h ∙ ap stage_issued (stage i)))), (λ h. absurd (omega (arith, h))));
        once = λ a b h q r. absurd (none-some h q);
      };
      words = record {
        wide = w.wide;
        deep = length-map-some xs ∙ x.deep;
        lines = λ i l. record {
          home = some Nothing;
          at = at_slot xs i Nothing (x.lines i l);
          shown = subst (λ (y : LineStage). LineShown e (handle_at [] i) y 0 (get_or ws i 0) (some Nothing)) (sym (stage i)) (w.lines i l, refl);
        };
        times = λ i l. ap (λ n. n + 0) (w.times i l) ∙ ap time_code (sym (same_at {X = Option ℕ} None (length g.lines) i));
        values = λ p l. w.values p l ∙ sym (get_or-map-range_with_len (first_value g) 0 (length g.lines) p p 0 l (let q : 0 + p ≡ p = omega arith in q));
        columns = λ c l. record {
          home = some (home_content g c (x.lending c) (zeros g c));
          at = at_slot xs (column_slot z c) (home_content g c (x.lending c) (zeros g c)) (x.columns c l);
          shown = subst (λ p. ColumnShown g c (x.lending c) p (get_or ws (turn_word z c) 0) (some (home_content g c (x.lending c) (zeros g c)))) (sym (home c l)) (w.columns c l, refl);
        };
        share_words = w.shares;
        shares = λ c j l m. (let within : j < z.planes = omega (arith, m, shares_in_planes g c l) in record {
          home = some (Share (share_value g c j (x.lending c) (zeros g c)));
          at = at_slot xs (share_slot z c j) (Share (share_value g c j (x.lending c) (zeros g c))) (x.places c j l within ∙ ap (λ (y : Content). Some y) (place_some (share_count g c) (x.lending c) (column_with g c (zeros g c)) j m));
          shown = (zeros g c, home c l, refl);
        });
        spare = λ c j l high within. at_slot xs (share_slot z c j) Nothing (x.places c j l within ∙ ap (λ (y : Content). Some y) (place_none (share_count g c) (x.lending c) (column_with g c (zeros g c)) j high));
        locks = λ l h. w.locks l h ∙ (sym (code_none g) ∙ ap (lock_code g) (sym (same_at {X = List ℕ} [] (length (locks g)) l)));
        clock = w.clock;
        issue_turn = record {
          home = some (Issuer x.issue_state);
          at = at_slot xs (issue_turn_slot z) (Issuer x.issue_state) x.issue_turn;
          shown = (w.issue_turn, record { issue_state = x.issue_state; here = refl; is_issue_state = x.is_issue_state });
        };
      };
      each_view = λ j u q. subst (Fits g e (start g) loans []) (one j u q) fits;
      works = λ i. ap busy (sym (stage i));
      holders = λ c j i near low h. absurd (omega (arith, h));
      numbers = record {
        counted = λ f. omega arith;
        once = λ n. let t = Rattle.basics.proofs.Sums.below-once n 1 in omega (arith, t);
        above = λ j u n q c. absurd (contains_none n (subst (λ (y : View). Contains y.splits n) (sym (one j u q)) c));
        born = λ j u n q c. absurd (contains_none n (subst (λ (y : View). Contains y.splits n) (sym (one j u q)) c));
      };
      known = record {
        issued = λ i h. absurd (true≢false (sym h ∙ ap stage_issued (stage i)));
        ended = λ i y h. absurd (true≢false (sym (ap stage_ended h) ∙ ap stage_ended (stage i)));
        times = λ i t h. absurd (true≢false (sym h.over ∙ ap stage_ended (stage i)));
        named = inl refl;
      };
    }
