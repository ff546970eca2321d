-- A name that a line gives stands in the text.
use Rattle.std.proofs.Common.{◌≡◌, ℕ, ◌+◌, ◌≤◌, Bool, true, false, cond, List, [], ◌∷◌, ◌++◌, length, length-append, length-drop, take, drop, refl, sym, ◌∙◌, ap, subst, arith}
use Rattle.std.specs.Prelude.{Option, Some, None, codes}
use Rattle.std.specs.List.{join_with_byte}
use Rattle.std.specs.Str.{bytes_eq}
use Rattle.std.proofs.lemmas.Option.{none-some}
use Rattle.std.proofs.lemmas.List.{take-append-le, drop-append-le}
use Rattle.std.proofs.lemmas.List.Splits.{join_with_byte-slice_split}
use Rattle.std.proofs.lemmas.Slice.Eq.{bytes_eq-Decides}
use Rattle.memchr.specs.Find.{FindsNeedle}
use Rattle.memchr.proofs.lemmas.MatchLemmas.{OccursAt-from_part}
use Rattle.graph_words.specs.Words.{pieces}
use Rattle.told_names.specs.Named.{declares, given_name, given_names, first_place}
use Rattle.explain_text.specs.Laws.{StandsAt}
use Rattle.explain_text.proofs.Public.{first_stands, stands_behind}

-- a word stands somewhere in bytes
abbrev Stands : List ℕ → List ℕ → Type 0
Stands w l = (p : ℕ) × StandsAt w p l

-- no byte stands everywhere
none_stands : (w l : List ℕ) → w ≡ [] → Stands w l
none_stands w l none = (0, subst (λ z. StandsAt z 0 l) (sym none) (record { within = omega arith; is = refl }))

-- what stands in a front stands in the whole
stands_more : (w x y : List ℕ) → Stands w x → Stands w (x ++ y)
stands_more w x y s =
    let p = s.0 in
    let within : p + length w ≤ length x = s.1.within in (
      p,
      record {
        within = (let e = length-append x y in omega (arith, e, within));
        is = ap (take (length w)) (drop-append-le p x y (omega (arith, within)))
            ∙ (take-append-le (length w) (drop p x) y (let e = length-drop p x in omega (arith, e, within)) ∙ s.1.is);
      },
    )

stands_after : (w x l : List ℕ) (c : ℕ) → Stands w l → Stands w (x ++ c ∷ l)
stands_after w x l c s = (_, stands_behind x c w s.0 l s.1)

-- among lines with a byte between them
in_first : (w x : List ℕ) (c : ℕ) (ls : List (List ℕ)) → Stands w x → Stands w (join_with_byte c (x ∷ ls))
in_first w x c [] s = s
in_first w x c (l ∷ ls) s = stands_more w x (c ∷ join_with_byte c (l ∷ ls)) s

in_others : (w x l : List ℕ) (c : ℕ) (ls : List (List ℕ)) → Stands w (join_with_byte c (l ∷ ls)) → Stands w (join_with_byte c (x ∷ l ∷ ls))
in_others w x l c ls s = stands_after w x (join_with_byte c (l ∷ ls)) c s

-- the name that words give is one of them, or no byte
given_stands : (equals declared : Bool) (w first second : List ℕ) (rest : List (List ℕ)) → cond equals first (cond declared second []) ≡ w → Stands w (join_with_byte 32 (first ∷ second ∷ rest))
given_stands true declared w first second rest is = (0, subst (λ z. StandsAt z 0 (join_with_byte 32 (first ∷ second ∷ rest))) is (first_stands first (second ∷ rest)))
given_stands false true w first second rest is = in_others w first second 32 rest (0, subst (λ z. StandsAt z 0 (join_with_byte 32 (second ∷ rest))) is (first_stands second rest))
given_stands false false w first second rest is = none_stands w (join_with_byte 32 (first ∷ second ∷ rest)) (sym is)

name_stands : (w : List ℕ) (ws : List (List ℕ)) → given_name ws ≡ w → Stands w (join_with_byte 32 ws)
name_stands w [] is = none_stands w (join_with_byte 32 []) (sym is)
name_stands w (first ∷ []) is = none_stands w (join_with_byte 32 (first ∷ [])) (sym is)
name_stands w (first ∷ second ∷ rest) is = given_stands (bytes_eq second (codes "=")) (declares first) w first second rest is

line_stands : (w l : List ℕ) → given_name (pieces 32 l) ≡ w → Stands w l
line_stands w l is = subst (Stands w) (join_with_byte-slice_split 32 l) (name_stands w (pieces 32 l) is)

-- so does one that a line gives
stands_by : (gives : Bool) (w x : List ℕ) (n k : ℕ) (ls : List (List ℕ)) → (gives ≡ true → Stands w x) → ((m : ℕ) → first_place w m (given_names ls) ≡ Some k → Stands w (join_with_byte 10 ls)) →
    cond gives (Some n) (first_place w (n + 1) (given_names ls)) ≡ Some k → Stands w (join_with_byte 10 (x ∷ ls))
stands_by true w x n k ls here more is = in_first w x 10 ls (here refl)
stands_by false w x n k [] here more is = absurd (none-some k is)
stands_by false w x n k (l ∷ ls) here more is = in_others w x l 10 ls (more (n + 1) is)

given_among : (w : List ℕ) (n k : ℕ) (ls : List (List ℕ)) → first_place w n (given_names ls) ≡ Some k → Stands w (join_with_byte 10 ls)
given_among w n k [] is = absurd (none-some k is)
given_among w n k (l ∷ ls) is =
    stands_by (bytes_eq (given_name (pieces 32 l)) w) w l n k ls (λ e. line_stands w l ((bytes_eq-Decides (given_name (pieces 32 l)) w).0 e)) (λ m e. given_among w m k ls e) is

-- where bytes have a word nowhere, no line of them gives it
none_by : (w bytes : List ℕ) (o : Option ℕ) → first_place w 0 (given_names (pieces 10 bytes)) ≡ o → FindsNeedle bytes w 0 None → o ≡ None
none_by w bytes None is nowhere = refl
none_by w bytes (Some k) is nowhere =
    let s : Stands w bytes = subst (Stands w) (join_with_byte-slice_split 10 bytes) (given_among w 0 k (pieces 10 bytes) is) in
    let within : s.0 + length w ≤ length bytes = s.1.within in
    absurd (nowhere s.0 (omega arith) (omega (arith, within)) (OccursAt-from_part bytes w s.0 within s.1.is))

pub none_gives : (w bytes : List ℕ) → FindsNeedle bytes w 0 None → first_place w 0 (given_names (pieces 10 bytes)) ≡ None
none_gives w bytes nowhere = none_by w bytes (first_place w 0 (given_names (pieces 10 bytes))) refl nowhere
