-- The place of a word in a line, and the part of the line that is told around it.
use Rattle.std.proofs.Common.{◌≡◌, ℕ, ◌+◌, ◌<◌, true, false, cond, List, [], ◌∷◌, ◌++◌, length, length-append, refl, sym, ◌∙◌, ap, arith}
use Rattle.std.specs.Prelude.{◌==◌}
use Rattle.std.specs.List.{join_with_byte, list_any}
use Rattle.std.specs.Str.{bytes_eq}
use Rattle.std.proofs.lemmas.Bool.{cond-true, cond-false}
use Rattle.std.proofs.lemmas.List.Splits.{join_with_byte-slice_split}
use Rattle.graph_words.specs.Cuts.{IsCut}
use Rattle.graph_words.specs.Words.{pieces}
use Rattle.explain_text.specs.Shown.{place_of}
use Rattle.explain_text.specs.Laws.{CutHasAll}
use Rattle.graph_words.proofs.Public.{one_piece, pieces_cut, some_pieces}

pub joined_more : (c : ℕ) (x : List ℕ) (ws : List (List ℕ)) → 0 < length ws → join_with_byte c (x ∷ ws) ≡ x ++ c ∷ join_with_byte c ws
joined_more c x [] some = absurd (omega (arith, some))
joined_more c x (y ∷ ws) some = refl

-- bytes are the front of a cut, the byte that cuts, and the back
pub cut_whole : (c : ℕ) (bs front back : List ℕ) → IsCut c bs front back → bs ≡ front ++ c ∷ back
cut_whole c bs front back h =
    let s = some_pieces c back in
    let some : 0 < length (pieces c back) = (let e = ap length s.2 in omega (arith, e)) in
    sym (join_with_byte-slice_split c bs) ∙ (ap (join_with_byte c) (pieces_cut c bs front back h) ∙ (joined_more c front (pieces c back) some ∙ ap (λ z. front ++ c ∷ z) (join_with_byte-slice_split c back)))

pub cut_length : CutHasAll
cut_length c bs front back h = let e = ap length (cut_whole c bs front back h) ∙ length-append front (c ∷ back) in omega (arith, e)

-- a step of the search for a word: at this piece, further on, at the last one, or nowhere
module _ (w line rest : List ℕ) (at : ℕ) (same : place_of w 0 (pieces 32 line) ≡ place_of w at (pieces 32 rest)) where
  module _ (front back : List ℕ) (h : IsCut 32 rest front back) where
    looked : place_of w 0 (pieces 32 line) ≡ place_of w at (front ∷ pieces 32 back)
    looked = same ∙ ap (place_of w at) (pieces_cut 32 rest front back h)

    pub place_here : bytes_eq front w ≡ true → at ≡ place_of w 0 (pieces 32 line)
    place_here e = sym (looked ∙ cond-true (bytes_eq front w) at (place_of w (at + length front + 1) (pieces 32 back)) e)

    pub place_next : (next : ℕ) → next ≡ at + length front + 1 → bytes_eq front w ≡ false → place_of w 0 (pieces 32 line) ≡ place_of w next (pieces 32 back)
    place_next next is e = looked ∙ (cond-false (bytes_eq front w) at (place_of w (at + length front + 1) (pieces 32 back)) e ∙ ap (λ n. place_of w n (pieces 32 back)) (sym is))

  module _ (h : list_any (λ b. b == 32) rest ≡ false) where
    last_looked : place_of w 0 (pieces 32 line) ≡ cond (bytes_eq rest w) at 0
    last_looked = same ∙ ap (place_of w at) (one_piece 32 rest h)

    pub place_last : bytes_eq rest w ≡ true → at ≡ place_of w 0 (pieces 32 line)
    place_last e = sym (last_looked ∙ cond-true (bytes_eq rest w) at 0 e)

    pub place_none : bytes_eq rest w ≡ false → 0 ≡ place_of w 0 (pieces 32 line)
    place_none e = sym (last_looked ∙ cond-false (bytes_eq rest w) at 0 e)
