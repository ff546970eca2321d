-- Texts by hand: what is a comment, and which line is which.
use Rattle.std.specs.Prelude.{◌≡◌, ℕ, List, [], ◌∷◌, codes, refl}
use Rattle.graph_comments.specs.Comments.{joined, bare_text, number_in_whole}

-- a text of these lines; the last of them, mostly [], has no newline
abbrev text : List (List ℕ) → List ℕ
text ls = joined ls

-- a comment, a blank line and a comment before `end` go
abbrev commented : List ℕ
commented = text (codes "realm 3" ∷ codes "# a" ∷ codes "lock l" ∷ [] ∷ codes "#" ∷ codes "u = user" ∷ codes "#end" ∷ codes "end" ∷ [] ∷ [])

commented-bare : bare_text commented ≡ text (codes "realm 3" ∷ codes "lock l" ∷ codes "u = user" ∷ codes "end" ∷ [] ∷ [])
commented-bare = refl

commented-1 : number_in_whole commented 1 ≡ 1
commented-1 = refl

commented-2 : number_in_whole commented 2 ≡ 3
commented-2 = refl

commented-3 : number_in_whole commented 3 ≡ 6
commented-3 = refl

commented-4 : number_in_whole commented 4 ≡ 8
commented-4 = refl

-- the line behind `end`, where nothing stands
commented-5 : number_in_whole commented 5 ≡ 9
commented-5 = refl

-- the first line is no comment
first-stays : bare_text (text (codes "# a" ∷ codes "realm 3" ∷ [] ∷ [])) ≡ text (codes "# a" ∷ codes "realm 3" ∷ [] ∷ [])
first-stays = refl

empty-first-stays : bare_text (text ([] ∷ codes "realm 3" ∷ [] ∷ [])) ≡ text ([] ∷ codes "realm 3" ∷ [] ∷ [])
empty-first-stays = refl

-- behind `end` all stays: here a comment, and it is line 3, refused by `rest`
behind-end : bare_text (text (codes "realm 3" ∷ codes "end" ∷ codes "# a" ∷ [] ∷ [])) ≡ text (codes "realm 3" ∷ codes "end" ∷ codes "# a" ∷ [] ∷ [])
behind-end = refl

behind-end-3 : number_in_whole (text (codes "realm 3" ∷ codes "# a" ∷ codes "end" ∷ [] ∷ codes "# b" ∷ [] ∷ [])) 3 ≡ 4
behind-end-3 = refl

-- a comment without its newline stays, as the last line, and so it is refused by `missing`: here it is line 4
unfinished : bare_text (text (codes "realm 3" ∷ codes "# a" ∷ codes "lock l" ∷ codes "# b" ∷ [])) ≡ text (codes "realm 3" ∷ codes "lock l" ∷ codes "# b" ∷ [])
unfinished = refl

unfinished-3 : number_in_whole (text (codes "realm 3" ∷ codes "# a" ∷ codes "lock l" ∷ codes "# b" ∷ [])) 3 ≡ 4
unfinished-3 = refl

-- the text ends behind a comment: line 3 is missing
ended : bare_text (text (codes "realm 3" ∷ codes "# a" ∷ [] ∷ [])) ≡ text (codes "realm 3" ∷ [] ∷ [])
ended = refl

ended-2 : number_in_whole (text (codes "realm 3" ∷ codes "# a" ∷ [] ∷ [])) 2 ≡ 3
ended-2 = refl

-- a blank or a tab before `#`, a line of blanks and what stands behind a line's words are no comments
blanks-stay : bare_text (text (codes "realm 3" ∷ (32 ∷ codes "# a") ∷ (9 ∷ codes "#") ∷ codes "  " ∷ codes "lock l # b" ∷ codes "end" ∷ [] ∷ []))
    ≡ text (codes "realm 3" ∷ (32 ∷ codes "# a") ∷ (9 ∷ codes "#") ∷ codes "  " ∷ codes "lock l # b" ∷ codes "end" ∷ [] ∷ [])
blanks-stay = refl

-- the bytes of a comment are free, but for the newline
any-bytes : bare_text (text (codes "realm 3" ∷ (35 ∷ 0 ∷ 255 ∷ 13 ∷ []) ∷ codes "end" ∷ [] ∷ [])) ≡ text (codes "realm 3" ∷ codes "end" ∷ [] ∷ [])
any-bytes = refl

-- a carriage return makes a line that is not empty
return-stays : bare_text (text (codes "realm 3" ∷ (13 ∷ []) ∷ codes "end" ∷ [] ∷ [])) ≡ text (codes "realm 3" ∷ (13 ∷ []) ∷ codes "end" ∷ [] ∷ [])
return-stays = refl

-- no line at all, and one without its newline
none : bare_text [] ≡ []
none = refl

one-line : bare_text (codes "#") ≡ codes "#"
one-line = refl
