-- The laws that the proofs of other crates cite, as specs/ states them.
use Rattle.graph_reader.specs.Laws.{LineAndRest, NewlineIsFound, LineUpToNewline, RestBehindNewline, FewerBytesFollow, SpelledLine, TextsAreBare, WordsFillPlaces, LineBySign, DeclarationBySign, EmptyByLength, ReservationWords, BarrierWords, InstanceWords, DataWords, NoAccessInFew, LineOfKind, LineOfCall, OperationsHaveTwoWords}
use Rattle.graph_reader.proofs.BareTexts as bare_texts
use Rattle.graph_reader.proofs.CallFaults as call_faults
use Rattle.graph_reader.proofs.LineSteps as line_steps
use Rattle.graph_reader.proofs.LineShapes as line_shapes

pub whole_line : LineAndRest
whole_line = line_steps.whole_line

pub cut_newline : NewlineIsFound
cut_newline = line_steps.cut_newline

pub cut_first : LineUpToNewline
cut_first = line_steps.cut_first

pub cut_after : RestBehindNewline
cut_after = line_steps.cut_after

pub fewer_bytes : FewerBytesFollow
fewer_bytes = line_steps.fewer_bytes

pub spelled_rest : SpelledLine
spelled_rest = line_steps.spelled_rest

pub texts_are_bare : TextsAreBare
texts_are_bare = bare_texts.texts_are_bare

pub places_there : WordsFillPlaces
places_there = line_shapes.places_there

pub line_by_sign : LineBySign
line_by_sign = line_shapes.line_by_sign

pub decl_by_sign : DeclarationBySign
decl_by_sign = line_shapes.decl_by_sign

pub empty_is : EmptyByLength
empty_is = line_shapes.empty_is

pub lock_shape : ReservationWords
lock_shape = line_shapes.lock_shape

pub barrier_shape : BarrierWords
barrier_shape = line_shapes.barrier_shape

pub inst_shape : InstanceWords
inst_shape = line_shapes.inst_shape

pub operation_long : OperationsHaveTwoWords
operation_long = line_shapes.operation_long

pub data_shape : DataWords
data_shape = line_shapes.data_shape

pub few_words : NoAccessInFew
few_words = call_faults.few_words

pub line_kind : LineOfKind
line_kind = line_shapes.line_kind

pub line_call : LineOfCall
line_call = line_shapes.line_call
