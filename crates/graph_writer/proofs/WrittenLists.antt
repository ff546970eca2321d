-- Lists whose texts are written one after another.
use Rattle.std.proofs.Common.{cond, ◌≡◌, ℕ, zero, suc, ◌+◌, ◌<◌, ◌≤◌, List, [], ◌∷◌, ◌++◌, length, drop, get_or, map, refl, sym, ◌∙◌, ap, append_assoc, append-nil, arith}
use Rattle.std.specs.Prelude.{Some, zip, slice_get, slice_index_or, flat_map, codes, decimal}
use Rattle.std.specs.List.{join_with_byte}
use Rattle.std.proofs.lemmas.Bool.{ne_eqb}
use Rattle.std.proofs.lemmas.Grind.{flat_map-append}
use Rattle.graph_terms.specs.declared.table.Place.{Place}
use Rattle.graph_terms.specs.declared.table.Parts.{Parts}
use Rattle.graph_terms.specs.Graph.{GraphValue}
use Rattle.graph_terms.specs.declared.table.Kind.{Kind}
use Rattle.graph_terms.specs.declared.verb.Verb.{Verb}
use Rattle.graph_terms.specs.declared.verb.Access.{Access}
use Rattle.graph_terms.specs.declared.call.CallParts.{CallParts}
use Rattle.std.specs.Option.{option_map_or}
use Rattle.graph_terms.specs.Table.{kind_words, kind_places, verb_kind, verb_places, verb_parts, verb_placed, part_in, parts_from}
use Rattle.graph_terms.specs.Spelling.{spelled, interval_word, comma_word, place_word, placed_words, access_words, call_words}
use Rattle.graph_writer.specs.WrittenWords.{spaced, part_text, comma_before, comma_from}
use Rattle.graph_words.specs.Text.{row_words}
use Rattle.std.proofs.lemmas.Option.{none-some, same_Some}

-- words with a space between each two, the first without one before it
pub joined : (c : ℕ) (w : List ℕ) (ws : List (List ℕ)) → join_with_byte c (w ∷ ws) ≡ w ++ flat_map (λ v. c ∷ v) ws
joined c w [] = sym (append-nil w)
joined c w (v ∷ vs) = ap (λ x. w ++ c ∷ x) (joined c v vs)

pub flat_mapped : {X : Type 0} (f : X → List ℕ) (xs : List X) → flat_map (λ w. 32 ∷ w) (map f xs) ≡ flat_map (λ x. 32 ∷ f x) xs
flat_mapped f [] = refl
flat_mapped f (x ∷ xs) = ap (λ y. 32 ∷ (f x ++ y)) (flat_mapped f xs)

comma_next : {X : Type 0} (f : X → List ℕ) (k : ℕ) (xs : List X) (i : ℕ) (d : X) → i < length xs → comma_from f (k + i) (drop i xs) ≡ (comma_before (k + i) ++ f (get_or xs i d)) ++ comma_from f (k + (i + 1)) (drop (i + 1) xs)
comma_next f k [] i d h = absurd (omega arith)
comma_next f k (x ∷ xs) zero d h = ap (λ n. comma_from f n (x ∷ xs)) (let e : k + 0 ≡ k = omega arith in e) ∙ (ap (λ n. (comma_before n ++ f x) ++ comma_from f (k + 1) xs) (let e : k ≡ k + 0 = omega arith in e) ∙ refl)
comma_next f k (x ∷ xs) (suc i) d h =
    ap (λ n. comma_from f n (drop i xs)) (let e : k + suc i ≡ (k + 1) + i = omega arith in e)
    ∙ (comma_next f (k + 1) xs i d (omega arith)
    ∙ (ap (λ n. (comma_before n ++ f (get_or xs i d)) ++ comma_from f ((k + 1) + (i + 1)) (drop (i + 1) xs)) (let e : (k + 1) + i ≡ k + suc i = omega arith in e)
    ∙ (ap (λ n. (comma_before (k + suc i) ++ f (get_or xs i d)) ++ comma_from f n (drop (i + 1) xs)) (let e : (k + 1) + (i + 1) ≡ k + (suc i + 1) = omega arith in e)
    ∙ ap (λ n. (comma_before (k + suc i) ++ f (get_or xs i d)) ++ comma_from f (k + (suc i + 1)) (drop n (x ∷ xs))) (let e : suc (i + 1) ≡ suc i + 1 = omega arith in e))))

-- one item of a list with commas, and the rest
pub comma_item : {X : Type 0} (f : X → List ℕ) (xs : List X) (i : ℕ) (d : X) → i < length xs → comma_from f i (drop i xs) ≡ (comma_before i ++ f (get_or xs i d)) ++ comma_from f (i + 1) (drop (i + 1) xs)
comma_item f xs i d h =
    ap (λ n. comma_from f n (drop i xs)) (let e : i ≡ 0 + i = omega arith in e) ∙ (comma_next f 0 xs i d h
    ∙ (ap (λ n. (comma_before n ++ f (get_or xs i d)) ++ comma_from f (0 + (i + 1)) (drop (i + 1) xs)) (let e : 0 + i ≡ i = omega arith in e)
    ∙ ap (λ n. (comma_before i ++ f (get_or xs i d)) ++ comma_from f n (drop (i + 1) xs)) (let e : 0 + (i + 1) ≡ i + 1 = omega arith in e)))

pub comma_over : {X : Type 0} (f : X → List ℕ) (xs : List X) (i k : ℕ) → length xs ≤ i → comma_from f k (drop i xs) ≡ []
comma_over f [] zero k h = refl
comma_over f [] (suc i) k h = refl
comma_over f (x ∷ xs) zero k h = absurd (omega arith)
comma_over f (x ∷ xs) (suc i) k h = comma_over f xs i k (omega arith)

-- behind the first item a comma stands before each
commas_behind : {X : Type 0} (f : X → List ℕ) (i : ℕ) (xs : List X) → 0 < i → comma_from f i xs ≡ flat_map (λ w. 44 ∷ w) (map f xs)
commas_behind f i [] h = refl
commas_behind f i (x ∷ xs) h = ap (λ b. (cond b [] (44 ∷ []) ++ f x) ++ comma_from f (i + 1) xs) (ne_eqb i 0 (λ e. absurd (omega arith))) ∙ ap (λ y. 44 ∷ (f x ++ y)) (commas_behind f (i + 1) xs (omega arith))

pub commas : {X : Type 0} (f : X → List ℕ) (xs : List X) → comma_from f 0 xs ≡ join_with_byte 44 (map f xs)
commas f [] = refl
commas f (x ∷ xs) = ap (λ y. f x ++ y) (commas_behind f 1 xs (omega arith)) ∙ sym (joined 44 (f x) (map f xs))

-- a line of words
pub line_text : (name : List ℕ) (vs os : List (List ℕ)) → spelled (name ∷ (61 ∷ []) ∷ vs ++ os) ≡ name ++ ((32 ∷ 61 ∷ []) ++ (spaced vs ++ (spaced os ++ 10 ∷ [])))
line_text name vs os =
    ap (λ x. x ++ 10 ∷ []) (joined 32 name ((61 ∷ []) ∷ vs ++ os))
    ∙ (append_assoc name (32 ∷ 61 ∷ spaced (vs ++ os)) (10 ∷ [])
    ∙ ap (λ x. name ++ 32 ∷ 61 ∷ x) (ap (λ x. x ++ 10 ∷ []) (flat_map-append (λ w. 32 ∷ w) vs os) ∙ append_assoc (spaced vs) (spaced os) (10 ∷ [])))

pub comma_put : {X : Type 0} (f : X → List ℕ) (xs : List X) (i : ℕ) (d x : X) (s : List ℕ) → i < length xs → x ≡ get_or xs i d → s ≡ comma_before i → comma_from f i (drop i xs) ≡ (s ++ f x) ++ comma_from f (i + 1) (drop (i + 1) xs)
comma_put f xs i d x s l e h = comma_item f xs i d l ∙ (ap (λ y. (comma_before i ++ f y) ++ comma_from f (i + 1) (drop (i + 1) xs)) (sym e) ∙ ap (λ t. (t ++ f x) ++ comma_from f (i + 1) (drop (i + 1) xs)) (sym h))

-- the lines of declarations
pub space_text : (name commas : List ℕ) → spelled (codes "space" ∷ name ∷ commas ∷ []) ≡ codes "space " ++ (name ++ (32 ∷ (commas ++ 10 ∷ [])))
space_text name commas = ap (λ x. codes "space " ++ x) (append_assoc name (32 ∷ commas) (10 ∷ []))

columns_text : (first name space commas : List ℕ) → spelled (first ∷ name ∷ space ∷ commas ∷ []) ≡ first ++ (32 ∷ (name ++ (32 ∷ (space ++ (32 ∷ (commas ++ 10 ∷ []))))))
columns_text first name space commas = append_assoc first (32 ∷ (name ++ 32 ∷ (space ++ 32 ∷ commas))) (10 ∷ [])
    ∙ ap (λ x. first ++ 32 ∷ x) (append_assoc name (32 ∷ (space ++ 32 ∷ commas)) (10 ∷ []) ∙ ap (λ x. name ++ 32 ∷ x) (append_assoc space (32 ∷ commas) (10 ∷ [])))

pub plain_text : (first : List ℕ) (ws : List (List ℕ)) → spelled (first ∷ ws) ≡ first ++ (spaced ws ++ 10 ∷ [])
plain_text first ws = ap (λ x. x ++ 10 ∷ []) (joined 32 first ws) ∙ append_assoc first (spaced ws) (10 ∷ [])

there : {X : Type 0} (xs : List X) (i : ℕ) (x : X) → slice_get xs i ≡ Some x → (i < length xs) × (x ≡ get_or xs i x)
there [] i x h = absurd (none-some x h)
there (y ∷ ys) zero x h = (omega arith, sym (same_Some y x h))
there (y ∷ ys) (suc i) x h = let t = there ys i x h in ((let l : i < length ys = t.0 in omega arith), t.1)

pub comma_at : {X : Type 0} (f : X → List ℕ) (xs : List X) (i : ℕ) (x : X) (s : List ℕ) → slice_get xs i ≡ Some x → s ≡ comma_before i → comma_from f i (drop i xs) ≡ (s ++ f x) ++ comma_from f (i + 1) (drop (i + 1) xs)
comma_at f xs i x s g h = let t = there xs i x g in comma_put f xs i x x s t.0 t.1 h

pub front_one : (name rest : List ℕ) → ((name ++ []) ++ 32 ∷ []) ++ rest ≡ name ++ (32 ∷ rest)
front_one name rest = ap (λ n. (n ++ 32 ∷ []) ++ rest) (append-nil name) ∙ append_assoc name (32 ∷ []) rest

pub front_two : (name space rest : List ℕ) → ((name ++ (32 ∷ (space ++ []))) ++ 32 ∷ []) ++ rest ≡ name ++ (32 ∷ (space ++ (32 ∷ rest)))
front_two name space rest = ap (λ s. ((name ++ (32 ∷ s)) ++ 32 ∷ []) ++ rest) (append-nil space)
    ∙ (append_assoc (name ++ (32 ∷ space)) (32 ∷ []) rest ∙ append_assoc name (32 ∷ space) (32 ∷ rest))

-- the first word of an instance or of data, its name and its space, and what is put behind
pub columns_front : (first name word space rest : List ℕ) → word ≡ space → (first ++ ((32 ∷ (name ++ (32 ∷ (word ++ [])))) ++ 32 ∷ [])) ++ rest ≡ first ++ (32 ∷ (name ++ (32 ∷ (space ++ (32 ∷ rest)))))
columns_front first name word space rest e =
    append_assoc first ((32 ∷ (name ++ (32 ∷ (word ++ [])))) ++ 32 ∷ []) rest
    ∙ (ap (λ x. first ++ 32 ∷ x) (front_two name word rest) ∙ ap (λ s. first ++ (32 ∷ (name ++ (32 ∷ (s ++ (32 ∷ rest)))))) e)

same_items : (ws : List (List ℕ)) → map (λ w. w) ws ≡ ws
same_items [] = refl
same_items (w ∷ ws) = ap (λ xs. w ∷ xs) (same_items ws)

pub space_line : (name : List ℕ) (is : List (ℕ × ℕ)) → codes "space " ++ (name ++ (32 ∷ (comma_from interval_word 0 is ++ 10 ∷ []))) ≡ spelled (codes "space" ∷ name ∷ comma_word (map interval_word is) ∷ [])
space_line name is = ap (λ c. codes "space " ++ (name ++ (32 ∷ (c ++ 10 ∷ [])))) (commas interval_word is) ∙ sym (space_text name (comma_word (map interval_word is)))

pub columns_line : (first name space : List ℕ) (fields : List (List ℕ)) → first ++ (32 ∷ (name ++ (32 ∷ (space ++ (32 ∷ (comma_from (λ w. w) 0 fields ++ 10 ∷ [])))))) ≡ spelled (first ∷ name ∷ space ∷ comma_word fields ∷ [])
columns_line first name space fields = ap (λ c. first ++ (32 ∷ (name ++ (32 ∷ (space ++ (32 ∷ (c ++ 10 ∷ []))))))) (commas (λ w. w) fields ∙ ap comma_word (same_items fields)) ∙ sym (columns_text first name space (comma_word fields))

-- what stands in places, from one of them on
pub part_next : (g : GraphValue) (parts : Parts) (ps : List Place) (i n : ℕ) (d : Place) → i < length ps →
    part_text g n (drop i ps) parts ≡ (32 ∷ place_word g (slice_index_or ps i d) (part_in (slice_index_or ps i d) n parts)) ++ part_text g (n + 1) (drop (i + 1) ps) parts
part_next g parts [] i n d h = absurd (omega arith)
part_next g parts (p ∷ ps) zero n d h = refl
part_next g parts (p ∷ ps) (suc i) n d h = part_next g parts ps i n d (omega arith)
    ∙ ap (λ m. (32 ∷ place_word g (slice_index_or ps i d) (part_in (slice_index_or ps i d) n parts)) ++ part_text g (n + 1) (drop m (p ∷ ps)) parts) (let e : suc (i + 1) ≡ suc i + 1 = omega arith in e)

pub part_over : (g : GraphValue) (parts : Parts) (ps : List Place) (i n : ℕ) → length ps ≤ i → part_text g n (drop i ps) parts ≡ []
part_over g parts [] zero n h = refl
part_over g parts [] (suc i) n h = refl
part_over g parts (p ∷ ps) zero n h = absurd (omega arith)
part_over g parts (p ∷ ps) (suc i) n h = part_over g parts ps i n (omega arith)

-- the words of a call, by those of its values and of its accesses
accesses_text : (g : GraphValue) (xs : List Access) → spaced (flat_map (access_words g) xs) ≡ flat_map (λ a. spaced (access_words g a)) xs
accesses_text g [] = refl
accesses_text g (x ∷ xs) = flat_map-append (λ w. 32 ∷ w) (access_words g x) (flat_map (access_words g) xs) ∙ ap (λ ys. spaced (access_words g x) ++ ys) (accesses_text g xs)

call_text : (g : GraphValue) (c : CallParts) → (32 ∷ (codes "call" ++ (32 ∷ (c.word ++ [])))) ++ (flat_map (λ n. 32 ∷ decimal n) c.values ++ flat_map (λ a. spaced (access_words g a)) c.accesses) ≡ spaced (call_words g c)
call_text g c =
    ap (λ w. (32 ∷ (codes "call" ++ (32 ∷ w))) ++ (flat_map (λ n. 32 ∷ decimal n) c.values ++ flat_map (λ a. spaced (access_words g a)) c.accesses)) (append-nil c.word)
    ∙ ap (λ x. 32 ∷ (codes "call" ++ (32 ∷ (c.word ++ x)))) (ap (λ x. x ++ flat_map (λ a. spaced (access_words g a)) c.accesses) (sym (flat_mapped decimal c.values))
    ∙ (ap (λ x. spaced (map decimal c.values) ++ x) (sym (accesses_text g c.accesses)) ∙ sym (flat_map-append (λ w. 32 ∷ w) (map decimal c.values) (flat_map (access_words g) c.accesses))))

-- the same, by what the code has of it
pub call_parts : (g : GraphValue) (c : CallParts) (w ns : List ℕ) (xs : List Access) → w ≡ c.word → ns ≡ c.values → xs ≡ c.accesses →
    (32 ∷ (codes "call" ++ (32 ∷ (w ++ [])))) ++ (flat_map (λ n. 32 ∷ decimal n) ns ++ flat_map (λ a. spaced (access_words g a)) xs) ≡ spaced (call_words g c)
call_parts g c w ns xs word values accesses =
    ap (λ v. (32 ∷ (codes "call" ++ (32 ∷ (v ++ [])))) ++ (flat_map (λ n. 32 ∷ decimal n) ns ++ flat_map (λ a. spaced (access_words g a)) xs)) word
    ∙ (ap (λ ms. (32 ∷ (codes "call" ++ (32 ∷ (c.word ++ [])))) ++ (flat_map (λ n. 32 ∷ decimal n) ms ++ flat_map (λ a. spaced (access_words g a)) xs)) values
    ∙ (ap (λ ys. (32 ∷ (codes "call" ++ (32 ∷ (c.word ++ [])))) ++ (flat_map (λ n. 32 ∷ decimal n) c.values ++ flat_map (λ a. spaced (access_words g a)) ys)) accesses ∙ call_text g c))

-- three words, each behind a space
pub three_words : (a b c x y z : List ℕ) → a ≡ x → b ≡ y → c ≡ z → 32 ∷ (a ++ (32 ∷ (b ++ (32 ∷ (c ++ []))))) ≡ spaced (x ∷ y ∷ z ∷ [])
three_words a b c x y z p q r =
    ap (λ v. 32 ∷ (v ++ (32 ∷ (b ++ (32 ∷ (c ++ [])))))) p
    ∙ (ap (λ v. 32 ∷ (x ++ (32 ∷ (v ++ (32 ∷ (c ++ [])))))) q ∙ ap (λ v. 32 ∷ (x ++ (32 ∷ (y ++ (32 ∷ (v ++ [])))))) r)

-- the words of a verb by its row
pub row_text : (g : GraphValue) (v : Verb) (k : Kind) (parts : Parts) (ws : List (List ℕ)) (ps : List Place) → Some k ≡ verb_kind v → ws ≡ kind_words k → ps ≡ kind_places k → parts_from 0 (verb_places v) parts ≡ verb_parts v →
    spaced ws ++ part_text g 0 ps parts ≡ spaced (row_words g v)
row_text g v k parts ws ps e w p h =
    let words : List (List ℕ) = option_map_or kind_words (verb_kind v) [] in
    ap (λ xs. spaced xs ++ part_text g 0 ps parts) w
    ∙ (ap (λ qs. spaced (kind_words k) ++ part_text g 0 qs parts) p
    ∙ (ap (λ o. spaced (option_map_or kind_words o []) ++ part_text g 0 (option_map_or kind_places o []) parts) e
    ∙ (ap (λ ns. spaced words ++ spaced (placed_words g (zip (verb_places v) ns))) h
    ∙ sym (flat_map-append (λ w. 32 ∷ w) words (placed_words g (verb_placed v))))))
