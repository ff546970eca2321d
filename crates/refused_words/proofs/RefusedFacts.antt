-- The first word that is refused, and the line that has ended what a word names.
use Rattle.std.proofs.Common.{◌≡◌, ℕ, ◌<◌, Bool, true, false, inl, inr, List, [], length, refl, sym, ◌∙◌, ap, subst, arith}
use Rattle.std.specs.Prelude.{Option, Some, None, ◌==◌, ◌&&◌, not}
use Rattle.std.specs.Option.{option_map_or}
use Rattle.std.specs.List.{slice_index_or}
use Rattle.std.proofs.lemmas.Bool.{true≢false, cases_lt, eqb-true, eq-eqb}
use Rattle.graph_terms.specs.declared.format.Format.{Format}
use Rattle.graph_terms.specs.declared.verb.Verb.{Verb}
use Rattle.graph_terms.specs.declared.why.Why.{Why}
use Rattle.graph_terms.specs.Graph.{GraphValue, verb_at, line_passes}
use Rattle.graph_words.specs.Draft.{Place, NewName, SpaceName, LockName, BarrierName, UserName, PhaseName, AcquireName, EventName, CallName, Column, DataColumn, Fields, Value, Times, Weight, Shared, Count, Intervals, line_number}
use Rattle.word_meanings.specs.WordFaults.{twice}
use Rattle.word_meanings.specs.Telling.{named_number}
use Rattle.refused_words.specs.Places.{place_at}
use Rattle.refused_words.specs.Refused.{refuses_at, IsRepeat, IsFirstRepeat, IsRefusedAt}
use Rattle.refused_words.specs.Ends.{ends, ends_at, ends_named, IsFirstEnding, IsEndedBy}

-- the number in a place is that of a line wherever a line could end it
same_ends : (g : GraphValue) (p : Place) (w : List ℕ) (v : Verb) → ends p (named_number g p w) v ≡ ends p (line_number g w) v
same_ends g NewName w v = refl
same_ends g SpaceName w v = refl
same_ends g LockName w v = refl
same_ends g BarrierName w v = refl
same_ends g UserName w v = refl
same_ends g PhaseName w v = refl
same_ends g AcquireName w v = refl
same_ends g EventName w v = refl
same_ends g CallName w v = refl
same_ends g Column w v = refl
same_ends g DataColumn w v = refl
same_ends g Fields w v = refl
same_ends g Value w v = refl
same_ends g Times w v = refl
same_ends g Weight w v = refl
same_ends g Shared w v = refl
same_ends g Count w v = refl
same_ends g Intervals w v = refl

module _ (g : GraphValue) (ws : List (List ℕ)) (k : ℕ) (p : Place) (n : ℕ) (is : place_at g.format ws k ≡ Some p) (again : twice g p (slice_index_or ws k []) ≡ true) (number : n ≡ named_number g p (slice_index_or ws k [])) where
  passes_by : (o : Option Verb) → option_map_or (ends p (line_number g (slice_index_or ws k []))) o false ≡ option_map_or (ends p n) o false
  passes_by None = refl
  passes_by (Some v) = sym (same_ends g p (slice_index_or ws k []) v) ∙ ap (λ m. ends p m v) (sym number)

  ends_is : (i : ℕ) → ends_at g ws k i ≡ line_passes (ends p n) g i
  ends_is i = ap (λ o. option_map_or (λ q. ends_named g q (slice_index_or ws k []) i) o false) is
      ∙ (ap (λ b. b && line_passes (ends p (line_number g (slice_index_or ws k []))) g i) again ∙ passes_by (verb_at g i))

  pub ending_of : (r : Option ℕ) → IsFirstEnding g p n r → IsEndedBy g ws k r
  ending_of None f = λ j h. ends_is j ∙ f j h
  ending_of (Some i) f = (f.0, ends_is i ∙ f.1, λ j h. ends_is j ∙ f.2 j h)

pub not_false : (b : Bool) → not b ≡ false → b ≡ true
not_false true e = refl
not_false false e = absurd (true≢false e)

-- a word of this number repeats one before it, where the first that does has it
pub at_repeat : (fm : Format) (why : Why) (ws : List (List ℕ)) (o : Option ℕ) (k : ℕ) → IsFirstRepeat fm why ws o → option_map_or (λ n. n == k) o false ≡ true → IsRepeat fm why ws k
at_repeat fm why ws None k f h = absurd (true≢false (sym h))
at_repeat fm why ws (Some r) k f h = subst (IsRepeat fm why ws) (eqb-true r k h) f.1

-- and none does, where it has another and no word above repeats one
pub no_repeat : (fm : Format) (why : Why) (ws : List (List ℕ)) (o : Option ℕ) (k : ℕ) → IsFirstRepeat fm why ws o → option_map_or (λ n. n == k) o false ≡ false → k < length ws → ((j : ℕ) → j < k → IsRepeat fm why ws j → ⊥) → IsRepeat fm why ws k → ⊥
no_repeat fm why ws None k f h below none again = f k below again
no_repeat fm why ws (Some r) k f h below none again = elim (cases_lt r k) [
  | inl less ↦ none r less f.1
  | inr most ↦ elim (cases_lt k r) [
    | inl more ↦ f.2 k more again
    | inr same ↦ true≢false (sym (eq-eqb r k (let e : r ≡ k = omega arith in e)) ∙ h)
  ]
]

pub fine_at : (g : GraphValue) (why : Why) (ws : List (List ℕ)) (k : ℕ) → refuses_at g why ws k ≡ false → (IsRepeat g.format why ws k → ⊥) → IsRefusedAt g why ws k → ⊥
fine_at g why ws k fine none (inl h) = true≢false (sym h ∙ fine)
fine_at g why ws k fine none (inr h) = none h
