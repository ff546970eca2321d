-- A record with one graph more.
use Rattle.std.proofs.Common.{◌≡◌, ℕ, ◌+◌, ◌≤◌, List, [], ◌∷◌, ◌++◌, length, sym, ap, ◌∙◌, subst, ⊎_elim, arith, length-append}
use Rattle.std.specs.Prelude.{Contains}
use Rattle.std.proofs.lemmas.List.Elements.{Contains-append_cases}
use Rattle.basics.proofs.ListFacts.{got_contains}
use Rattle.realm_session.specs.declared.line.Line.{Line}
use Rattle.realm_session.specs.Recorded.{lines_in, waiting_in, need, IsLine, AreNew, IsRecord}
use Rattle.realm_session.proofs.Lists.{lines_push, waiting_append, line_has, line_cases}

module _ (slots : ℕ) (gs : List (List Line)) (new : List Line) (is : IsRecord (record { slots = slots; graphs = gs })) where
  abbrev all : List (List Line)
  all = gs ++ new ∷ []

  pub counted : length (lines_in all) ≡ length (lines_in gs) + length new
  counted = ap length (lines_push gs new) ∙ length-append (lines_in gs) new

  pub waiting : waiting_in (lines_in all) ≡ waiting_in (lines_in gs) + waiting_in new
  waiting = ap waiting_in (lines_push gs new) ∙ waiting_append (lines_in gs) new

  -- the lines of the new graph have handles of their own
  module _ (are : AreNew slots (lines_in gs) new) where
    both : (g l g' l' : ℕ) (x y : Line) → IsLine (record { slots = slots; graphs = all }) g l x → IsLine (record { slots = slots; graphs = all }) g' l' y → x.handle ≡ y.handle → (g ≡ g') × (l ≡ l')
    both g l g' l' x y a b same = ⊎_elim
        (λ a'. ⊎_elim (λ b'. is.apart g l g' l' x y a' b' same) (λ b'. absurd (are.other y x (got_contains new l' y b'.1) (line_has gs g l x a') (sym same))) (line_cases gs new g' l' y b))
        (λ a'. ⊎_elim (λ b'. absurd (are.other x y (got_contains new l x a'.1) (line_has gs g' l' y b') same)) (λ b'. (a'.0 ∙ sym b'.0, are.apart l l' x y a'.1 b'.1 same)) (line_cases gs new g' l' y b))
        (line_cases gs new g l x a)

    pub adds : length (lines_in gs) + length new ≤ 8191 → need gs + waiting_in new ≤ slots → IsRecord (record { slots = slots; graphs = all })
    adds few room = record {
      few = omega (arith, counted);
      slots = is.slots;
      room = omega (arith, waiting, room);
      within = λ x c. ⊎_elim (λ d. is.within x d) (λ d. are.within x d) (Contains-append_cases (lines_in gs) new x (subst (λ l. Contains l x) (lines_push gs new) c));
      apart = both;
    }
