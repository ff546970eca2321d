-- The pieces of each column, over its parts.
use Rattle.std.proofs.Common.{◌≡◌, ℕ, zero, suc, ◌+◌, ◌-◌, ◌<◌, ◌≤◌, ◌⊎◌, inl, inr, List, [], ◌∷◌, ◌++◌, length, take, append_assoc, append-nil, length-append, refl, sym, ◌∙◌, ap, subst, arith}
use Rattle.std.specs.Prelude.{Some, Contains, slice_get, option_map, nat_lt, Vec}
use Rattle.std.specs.Global.{Global}
use Rattle.std.specs.Option.{option_map_or}
use Rattle.std.proofs.lemmas.Bool.{cases_lt, le-ltb, cond-false}
use Rattle.std.proofs.lemmas.Option.{none-some, slice_get-map}
use Rattle.std.proofs.lemmas.List.{map-append}
use Rattle.std.proofs.lemmas.List.Elements.{Contains-append_left, Contains-push, Contains-push_cases}
use Rattle.basics.proofs.ListFacts.{contains_none, contains_map, got_contains, got_in, got_behind}
use Rattle.basics.proofs.ListParts.{take_more, take_whole, got_cases}
use Rattle.graph_terms.specs.Fits.{IsGraph}
use Rattle.graph_terms.specs.Graph.{GraphValue, named_spaces, space_at}
use Rattle.column_pieces.specs.Pieces.{Unions, piece_space}
use Rattle.column_pieces.specs.declared.pieces.Piece.{Piece}
use Rattle.column_pieces.proofs.Public.{spaces_keep_numbers}
use Rattle.column_parts.specs.declared.parts.Part.{Part}
use Rattle.column_parts.specs.declared.parts.Part.TheVariants.{Declared, Union}
use Rattle.column_parts.specs.Parts.{part_space, spaces, spaces_of, IsFound, AreLists, AreFound}
use Rattle.column_parts.proofs.Public.{declared_by, part_point}
use Rattle.index_spaces.specs.Space.{IsSpace}
use Rattle.piece_graphs.specs.Uncut.{AreSpaces}
use Rattle.piece_graphs.specs.Over.{IsPieceOf, own_spaces, piece_spaces, AreOver, AreOwnPieces}

-- the space of a union
union_numbered : (g : GraphValue) (us later : Unions) (t : List (ℕ × ℕ)) → piece_space g (us ++ t ∷ later) (length (named_spaces g) + length us) ≡ t
union_numbered g us later t =
    let n = length (named_spaces g) in
    cond-false (nat_lt (n + length us) n) _ _ (le-ltb (n + length us) n (omega arith))
    ∙ (ap (λ k. option_map_or (λ x. x) (slice_get (us ++ t ∷ later) k) []) (let e : n + length us - n ≡ length us = omega arith in e)
    ∙ ap (λ o. option_map_or (λ x. x) o []) (got_behind us t later))

-- A COLUMN
pub none_over : (g : GraphValue) (c : ℕ) (us : Unions) → AreOver g c [] us us []
none_over g c us = record {
  spaces_are = λ later. refl;
  own = λ x k. absurd (contains_none x k);
  used = λ k low high. absurd (omega (arith, low, high));
  grown = ([], sym (append-nil us));
  keeps_spaces = λ old. old;
}

own_more : (c : ℕ) (pieces : List Piece) (x : Piece) → ((y : Piece) → Contains pieces y → y.column ≡ c) → x.column ≡ c → (y : Piece) → Contains (pieces ++ x ∷ []) y → y.column ≡ c
own_more c pieces x own e y k = elim (Contains-push_cases pieces x y k) [
  | inl early ↦ own y early
  | inr same ↦ subst (λ (z : Piece). z.column ≡ c) same e
]

one_over : (g : GraphValue) (c : ℕ) (parts : List Part) (part : Part) (base us new : Unions) (pieces : List Piece) (x : Piece) → AreOver g c parts base us pieces → ((s : ℕ) → part ≡ Declared s → s < length (named_spaces g)) →
    IsPieceOf (length (named_spaces g)) c part us new x → AreOver g c (parts ++ part ∷ []) base new (pieces ++ x ∷ [])
one_over g c parts (Declared s) base us new pieces x over known is = record {
  spaces_are = λ later.
      map-append (λ (y : Piece). piece_space g (new ++ later) y.space) pieces (x ∷ [])
      ∙ (ap (λ ys. ys ++ piece_space g (new ++ later) x.space ∷ []) (ap (λ vs. own_spaces g (vs ++ later) pieces) is.0 ∙ over.spaces_are later)
      ∙ (ap (λ t. spaces g parts ++ t ∷ []) (ap (λ (y : Piece). piece_space g (new ++ later) y.space) is.1 ∙ spaces_keep_numbers g (new ++ later) s (known s refl))
      ∙ sym (map-append (part_space g) parts (Declared s ∷ []))));
  own = own_more c pieces x over.own (ap (λ (y : Piece). y.column) is.1);
  used = λ k low high. let y = over.used k low (subst (λ vs. k < length vs) is.0 high) in (y.0, Contains-append_left pieces (x ∷ []) y.0 y.1, y.2);
  grown = (over.grown.0, is.0 ∙ over.grown.1);
  keeps_spaces = λ old. subst AreSpaces (sym is.0) (over.keeps_spaces old);
}
one_over g c parts (Union t) base us new pieces x over known is = record {
  spaces_are = λ later.
      let longer : new ++ later ≡ us ++ (t ∷ later) = ap (λ vs. vs ++ later) is.0 ∙ append_assoc us (t ∷ []) later in
      map-append (λ (y : Piece). piece_space g (new ++ later) y.space) pieces (x ∷ [])
      ∙ (ap (λ ys. ys ++ piece_space g (new ++ later) x.space ∷ []) (ap (λ vs. own_spaces g vs pieces) longer ∙ over.spaces_are (t ∷ later))
      ∙ (ap (λ v. spaces g parts ++ v ∷ []) (ap (λ (y : Piece). piece_space g (new ++ later) y.space) is.1 ∙ (ap (λ vs. piece_space g vs (length (named_spaces g) + length us)) longer ∙ union_numbered g us later t))
      ∙ sym (map-append (part_space g) parts (Union t ∷ []))));
  own = own_more c pieces x over.own (ap (λ (y : Piece). y.column) is.1);
  used = λ k low high. by_place k low (subst (λ vs. k < length vs) is.0 high) (cases_lt k (length us));
  grown = (over.grown.0 ++ t ∷ [], is.0 ∙ (ap (λ vs. vs ++ t ∷ []) over.grown.1 ∙ append_assoc base over.grown.0 (t ∷ [])));
  keeps_spaces = λ old v k. elim (Contains-push_cases us t v (subst (λ vs. Contains vs v) is.0 k)) [
    | inl early ↦ over.keeps_spaces old v early
    | inr same ↦ subst IsSpace same is.2
  ];
}
  where
    by_place : (k : ℕ) → length base ≤ k → k < length (us ++ t ∷ []) → (k < length us) ⊎ (length us ≤ k) → (y : Piece) × Contains (pieces ++ x ∷ []) y × (y.space ≡ length (named_spaces g) + k)
    by_place k low high (inl early) = let y = over.used k low early in (y.0, Contains-append_left pieces (x ∷ []) y.0 y.1, y.2)
    by_place k low high (inr late) =
        let long : length (us ++ t ∷ []) ≡ length us + 1 = length-append us (t ∷ []) in
        let same : length us ≡ k = omega (arith, long, high, late) in
        (x, Contains-push pieces x, ap (λ (y : Piece). y.space) is.1 ∙ ap (λ n. length (named_spaces g) + n) same)

-- the part of the next place
pub next_over : (g : GraphValue) (c : ℕ) (parts : List Part) (k : ℕ) (part : Part) (base us new : Unions) (pieces put : List Piece) (x : Piece) → slice_get parts k ≡ Some part → ((s : ℕ) → Contains parts (Declared s) → s < length (named_spaces g)) →
    AreOver g c (take k parts) base us pieces → IsPieceOf (length (named_spaces g)) c part us new x → put ≡ pieces ++ x ∷ [] → AreOver g c (take (k + 1) parts) base new put
next_over g c parts k part base us new pieces put x at known over is made =
    subst (AreOver g c (take (k + 1) parts) base new) (sym made)
    (subst (λ ps. AreOver g c ps base new (pieces ++ x ∷ [])) (sym (take_more parts k part at))
    (one_over g c (take k parts) part base us new pieces x over (λ s e. known s (subst (Contains parts) e (got_contains parts k part at))) is))

pub all_over : (g : GraphValue) (c : ℕ) (parts : List Part) (k : ℕ) (base us : Unions) (pieces : List Piece) → length parts ≤ k → AreOver g c (take k parts) base us pieces → AreOver g c parts base us pieces
all_over g c parts k base us pieces past over = subst (λ ps. AreOver g c ps base us pieces) (take_whole parts k past) over

-- ALL COLUMNS
abbrev Lists : Type 0
Lists = List (Vec Piece Global)

abbrev Parts : Type 0
Parts = List (Vec Part Global)

-- the pieces of the first columns
pub record AreFirst (g : GraphValue) (parts : Parts) (us : Unions) (lists : Lists) : Type 0 where
  pub number : length lists ≡ length parts
  pub spaces_are : (later : Unions) → piece_spaces g (us ++ later) lists ≡ spaces_of g parts
  pub own : (c : ℕ) (v : Vec Piece Global) (x : Piece) → slice_get lists c ≡ Some v → Contains v.items x → x.column ≡ c
  pub used : (k : ℕ) → k < length us → (c : ℕ) × (v : Vec Piece Global) × (x : Piece) × (slice_get lists c ≡ Some v) × Contains v.items x × (x.space ≡ length (named_spaces g) + k)
  pub are_spaces : AreSpaces us

pub none_first : (g : GraphValue) → AreFirst g [] [] []
none_first g = record {
  number = refl;
  spaces_are = λ later. refl;
  own = λ c v x at. absurd (none-some v at);
  used = λ k below. absurd (omega (arith, below));
  are_spaces = λ t k. absurd (contains_none t k);
}

one_first : (g : GraphValue) (parts : Parts) (p : Vec Part Global) (us new : Unions) (lists : Lists) (v : Vec Piece Global) (c : ℕ) → c ≡ length parts → AreFirst g parts us lists → AreOver g c p.items us new v.items → AreFirst g (parts ++ p ∷ []) new (lists ++ v ∷ [])
one_first g parts p us new lists v c is first over = record {
  number = length-append lists (v ∷ []) ∙ (ap (λ n. n + 1) first.number ∙ sym (length-append parts (p ∷ [])));
  spaces_are = λ later.
      let longer : new ++ later ≡ us ++ (over.grown.0 ++ later) = ap (λ vs. vs ++ later) over.grown.1 ∙ append_assoc us over.grown.0 later in
      map-append (λ (w : Vec Piece Global). own_spaces g (new ++ later) w.items) lists (v ∷ [])
      ∙ (ap (λ ys. ys ++ own_spaces g (new ++ later) v.items ∷ []) (ap (λ vs. piece_spaces g vs lists) longer ∙ first.spaces_are (over.grown.0 ++ later))
      ∙ (ap (λ t. spaces_of g parts ++ t ∷ []) (over.spaces_are later)
      ∙ sym (map-append (λ (w : Vec Part Global). spaces g w.items) parts (p ∷ []))));
  own = λ d w x at k. elim (got_cases lists v d w at) [
    | inl early ↦ first.own d w x early.1 k
    | inr last ↦ over.own x (subst (λ (u : Vec Piece Global). Contains u.items x) (sym last.1) k) ∙ (is ∙ (sym first.number ∙ sym last.0))
  ];
  used = λ k below. elim (cases_lt k (length us)) [
    | inl early ↦ (let y = first.used k early in (y.0, y.1, y.2, got_in lists (v ∷ []) y.0 y.1 y.3, y.4, y.5))
    | inr late ↦ (let y = over.used k late below in (length lists, v, y.0, got_behind lists v [], y.1, y.2))
  ];
  are_spaces = over.keeps_spaces first.are_spaces;
}

pub next_first : (g : GraphValue) (parts : Parts) (k : ℕ) (p : Vec Part Global) (us new : Unions) (lists put : Lists) (v : Vec Piece Global) → slice_get parts k ≡ Some p → k < length parts → AreFirst g (take k parts) us lists → AreOver g k p.items us new v.items →
    put ≡ lists ++ v ∷ [] → AreFirst g (take (k + 1) parts) new put
next_first g parts k p us new lists put v at below first over made =
    subst (AreFirst g (take (k + 1) parts) new) (sym made)
    (subst (λ ps. AreFirst g ps new (lists ++ v ∷ [])) (sym (take_more parts k p at))
    (one_first g (take k parts) p us new lists v k (sym (taken parts k below)) first over))
  where
    taken : (xs : Parts) (n : ℕ) → n < length xs → length (take n xs) ≡ n
    taken [] n h = absurd (omega arith)
    taken (x ∷ xs) zero h = refl
    taken (x ∷ xs) (suc n) h = ap suc (taken xs n (omega arith))

pub all_first : (g : GraphValue) (parts : Parts) (k : ℕ) (us : Unions) (lists : Lists) → length parts ≤ k → AreFound g (spaces_of g parts) (length g.lines) → AreFirst g (take k parts) us lists → AreOwnPieces g us lists
all_first g parts k us lists past found first = record {
  found = subst (λ ts. AreFound g ts (length g.lines)) (sym spaces_as) found;
  own = first.own;
  used = first.used;
  are_spaces = first.are_spaces;
}
  where
    spaces_as : piece_spaces g us lists ≡ spaces_of g parts
    spaces_as = ap (λ vs. piece_spaces g vs lists) (sym (append-nil us)) ∙ (first.spaces_are [] ∙ ap (spaces_of g) (take_whole parts k past))

-- the spaces that parts are over are declared
pub known_parts : (g : GraphValue) → IsGraph g → (parts : Parts) → AreLists g (spaces_of g parts) → (c : ℕ) (p : Vec Part Global) → slice_get parts c ≡ Some p → (s : ℕ) → Contains p.items (Declared s) → s < length (named_spaces g)
known_parts g fits parts are c p at s k =
    let is : IsFound g c (spaces g p.items) = are.each c (spaces g p.items) (slice_get-map (λ (v : Vec Part Global). spaces g v.items) parts c ∙ ap (option_map (λ (v : Vec Part Global). spaces g v.items)) at) in
    let q = part_point g c (spaces g p.items) (space_at g s) fits is (contains_map (part_space g) p.items (Declared s) k) in
    declared_by g s q.0 q.1
