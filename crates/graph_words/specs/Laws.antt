-- What follows from how words are cut, and lists in which nothing stands twice.
use Rattle.std.specs.Prelude.{◌≡◌, Bool, false, List, None, ℕ, true, Some, position, slice_get, unwrap_or, ◌++◌, map, [], ◌∷◌, bytes_eq, ◌==◌, ◌+◌, ◌-◌, ◌<◌, ◌≤◌, ◌^◌, length, take, drop, get_or}
use Rattle.std.specs.List.{AllByRecursion, list_any, list_all}
use Rattle.graph_terms.specs.Fits.{first_reason, repeats, line_fault, IsLine, decl_fault}
use Rattle.graph_terms.specs.declared.why.Why.{Why}
use Rattle.graph_words.specs.Words.{pieces, words_of}
use Rattle.graph_words.specs.Cuts.{IsCut}
use Rattle.graph_words.specs.Text.{bare_of, number_of}
use Rattle.std.proofs.Common.{Bor}
use Rattle.basics.specs.Words.{contents}
use Rattle.graph_terms.specs.declared.verb.Line.{Line}
use Rattle.graph_terms.specs.Graph.{GraphValue}
use Rattle.graph_words.specs.Known.{IsKnownLine, IsKnownDecl}
use Rattle.graph_terms.specs.declared.decl.Decl.{Decl}

-- where no reason refuses, each test fails
abbrev pub EachTestFails : Type 0
EachTestFails = (ts : List (Bool × Why)) → first_reason ts ≡ None → AllByRecursion (λ (t : Bool × Why). t.0 ≡ false) ts

-- where each test fails, no reason refuses
abbrev pub NoReasonWhereEachFails : Type 0
NoReasonWhereEachFails = (ts : List (Bool × Why)) → AllByRecursion (λ (t : Bool × Why). t.0 ≡ false) ts → first_reason ts ≡ None

-- in a list in which nothing stands twice an element is found in its own place
abbrev pub FoundInOwnPlace : Type 0 → Type 0
FoundInOwnPlace X = (eq : X → X → Bool) (xs : List X) (k : ℕ) (x : X) → repeats eq xs ≡ false → slice_get xs k ≡ Some x → eq x x ≡ true →
    unwrap_or (position (λ y. eq y x) xs) 0 ≡ k

-- where nothing stands twice in two lists, nothing does in the first
abbrev pub NoneTwiceInFirst : Type 0 → Type 0
NoneTwiceInFirst X = (eq : X → X → Bool) (xs ys : List X) → repeats eq (xs ++ ys) ≡ false → repeats eq xs ≡ false

-- nor in the second
abbrev pub NoneTwiceInSecond : Type 0 → Type 0
NoneTwiceInSecond X = (eq : X → X → Bool) (xs ys : List X) → repeats eq (xs ++ ys) ≡ false → repeats eq ys ≡ false

-- in two lists apart in each of which nothing stands twice nothing does
abbrev pub NoneTwiceInBoth : Type 0 → Type 0
NoneTwiceInBoth X = (eq : X → X → Bool) (xs ys : List X) → repeats eq xs ≡ false → repeats eq ys ≡ false → AllByRecursion (λ x. list_any (eq x) ys ≡ false) xs →
    repeats eq (xs ++ ys) ≡ false

-- what stands twice among images, by the elements
abbrev pub NoneTwiceByImages : Type 0 → Type 0 → Type 0
NoneTwiceByImages X Y = (eq : Y → Y → Bool) (f : X → Y) (xs : List X) → repeats eq (map f xs) ≡ repeats (λ a b. eq (f a) (f b)) xs

-- where nothing stands twice, nothing does with another
abbrev pub NoneTwiceWithAnother : Type 0
NoneTwiceWithAnother = (xs : List (List ℕ)) (y : List ℕ) → repeats bytes_eq xs ≡ false → list_any (bytes_eq y) xs ≡ false →
    repeats bytes_eq (xs ++ y ∷ []) ≡ false

-- bytes without the one that cuts are one piece
abbrev pub OnePiece : Type 0
OnePiece = (c : ℕ) (bs : List ℕ) → list_any (λ b. b == c) bs ≡ false → pieces c bs ≡ bs ∷ []

-- there is always a piece
abbrev pub SomePiece : Type 0
SomePiece = (c : ℕ) (bs : List ℕ) → (p : List ℕ) × (ps : List (List ℕ)) × (pieces c bs ≡ p ∷ ps)

-- the pieces are the front of a cut and the pieces of its back
abbrev pub PiecesFromCut : Type 0
PiecesFromCut = (c : ℕ) (bs front back : List ℕ) → IsCut c bs front back → pieces c bs ≡ front ∷ pieces c back

-- at the first byte that cuts there is a cut
abbrev pub CutAtFirst : Type 0
CutAtFirst = (c : ℕ) (bs : List ℕ) (i : ℕ) → i < length bs → ((k : ℕ) → k < i → get_or bs k 0 ≡ c → ⊥) → get_or bs i 0 ≡ c →
    IsCut c bs (take i bs) (take (length bs - (i + 1)) (drop (i + 1) bs))

-- where no place has the byte that cuts, it is not among the bytes
abbrev pub NoByteCuts : Type 0
NoByteCuts = (c : ℕ) (bs : List ℕ) → ((k : ℕ) → k < length bs → get_or bs k 0 ≡ c → ⊥) → list_any (λ b. b == c) bs ≡ false

-- words and the pieces of the rest are all pieces, with one word more and what is left then
abbrev pub OneWordMore : Type 0
OneWordMore = (c : ℕ) (ws more : List (Bor (List ℕ))) (w : Bor (List ℕ)) (rest back all : List ℕ) → more ≡ ws ++ w ∷ [] → IsCut c rest w.now back →
    contents ws ++ pieces c rest ≡ pieces c all → contents more ++ pieces c back ≡ pieces c all

-- and at the last word, the words alone
abbrev pub LastWord : Type 0
LastWord = (c : ℕ) (ws more : List (Bor (List ℕ))) (w : Bor (List ℕ)) (all : List ℕ) → list_any (λ b. b == c) w.now ≡ false →
    contents ws ++ pieces c w.now ≡ pieces c all → more ≡ ws ++ w ∷ [] → contents more ≡ pieces c all

-- words that pass a test do so with one more
abbrev pub OneMorePasses : Type 0
OneMorePasses = (t : List ℕ → Bool) (ws : List (Bor (List ℕ))) (i : ℕ) (d : Bor (List ℕ)) → i < length ws → list_all t (take i (words_of ws)) ≡ true →
    t (get_or ws i d).now ≡ true → list_all t (take (i + 1) (words_of ws)) ≡ true

-- where one word fails, not all pass
abbrev pub OneFails : Type 0
OneFails = (t : List ℕ → Bool) (ws : List (Bor (List ℕ))) (i : ℕ) (d : Bor (List ℕ)) → i < length ws → t (get_or ws i d).now ≡ false →
    list_all t (words_of ws) ≡ false

-- the numbers of words with one more word
abbrev pub OneNumberMore : Type 0
OneNumberMore = (f : List ℕ → ℕ) (ws : List (Bor (List ℕ))) (i : ℕ) (d : Bor (List ℕ)) (n : ℕ) (items more : List ℕ) → i < length ws →
    n ≡ f (get_or ws i d).now → items ≡ map f (take i (words_of ws)) → more ≡ items ++ n ∷ [] → more ≡ map f (take (i + 1) (words_of ws))

-- a line of bytes without their comments is the line of its number in the whole, and where the one has none, the other has none
abbrev pub LinesKeepNumbers : Type 0
LinesKeepNumbers = (bytes : List ℕ) (k : ℕ) → 1 ≤ k → slice_get (pieces 10 (bare_of bytes)) (k - 1) ≡ slice_get (pieces 10 bytes) (number_of bytes k - 1)

-- a number of 32 bits without comments has 32 bits among all lines, where a line has it
abbrev pub NumbersFit : Type 0
NumbersFit = (bytes line : List ℕ) (k : ℕ) → 1 ≤ k → k < 2 ^ 32 → slice_get (pieces 10 (bare_of bytes)) (k - 1) ≡ Some line → number_of bytes k < 2 ^ 32

-- a line that fits has all that no reason refuses
abbrev pub LinesNameKnown : Type 0
LinesNameKnown = (g : GraphValue) (l : Line) → IsLine l → line_fault g l ≡ None → IsKnownLine g l

-- so has a declaration that fits
abbrev pub DeclarationsNameKnown : Type 0
DeclarationsNameKnown = (g : GraphValue) (d : Decl) → decl_fault g d ≡ None → IsKnownDecl g d
