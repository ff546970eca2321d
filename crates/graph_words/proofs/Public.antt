-- The laws that the proofs of other crates cite, as specs/ states them.
use Rattle.graph_words.specs.Laws.{EachTestFails, NoReasonWhereEachFails, FoundInOwnPlace, NoneTwiceInFirst, NoneTwiceInSecond, NoneTwiceInBoth, NoneTwiceByImages, NoneTwiceWithAnother, OnePiece, SomePiece, PiecesFromCut, CutAtFirst, NoByteCuts, OneWordMore, LastWord, OneMorePasses, OneFails, OneNumberMore, LinesNameKnown, DeclarationsNameKnown, LinesKeepNumbers, NumbersFit}
use Rattle.graph_words.proofs.CommentedLines as commented_lines
use Rattle.graph_words.proofs.TextLists as text_lists
use Rattle.graph_words.proofs.CutBytes as cut_bytes
use Rattle.graph_words.proofs.NameLists as name_lists
use Rattle.graph_words.proofs.KnownItems as known_items

pub each_fails : EachTestFails
each_fails = text_lists.each_fails

pub none_where_each_fails : NoReasonWhereEachFails
none_where_each_fails = text_lists.none_where_each_fails

pub found_of : {X : Type 0} → FoundInOwnPlace X
found_of = text_lists.found_of

pub repeats_left : {X : Type 0} → NoneTwiceInFirst X
repeats_left = text_lists.repeats_left

pub repeats_right : {X : Type 0} → NoneTwiceInSecond X
repeats_right = text_lists.repeats_right

pub repeats_append : {X : Type 0} → NoneTwiceInBoth X
repeats_append = text_lists.repeats_append

pub repeats_map : {X Y : Type 0} → NoneTwiceByImages X Y
repeats_map = text_lists.repeats_map

pub repeats_push : NoneTwiceWithAnother
repeats_push = text_lists.repeats_push

pub one_piece : OnePiece
one_piece = cut_bytes.one_piece

pub some_pieces : SomePiece
some_pieces = cut_bytes.some_pieces

pub pieces_cut : PiecesFromCut
pieces_cut = cut_bytes.pieces_cut

pub cut_at : CutAtFirst
cut_at = cut_bytes.cut_at

pub no_stop : NoByteCuts
no_stop = cut_bytes.no_stop

pub word_cut : OneWordMore
word_cut = cut_bytes.word_cut

pub last_word : LastWord
last_word = cut_bytes.last_word

pub passed_more : OneMorePasses
passed_more = name_lists.passed_more

pub failed_at : OneFails
failed_at = name_lists.failed_at

pub numbers_more : OneNumberMore
numbers_more = name_lists.numbers_more

pub known_line_of : LinesNameKnown
known_line_of = known_items.known_line_of

pub known_decl_of : DeclarationsNameKnown
known_decl_of = known_items.known_decl_of

pub line_of_number : LinesKeepNumbers
line_of_number = commented_lines.line_of_number

pub number_fits : NumbersFit
number_fits = commented_lines.number_fits
