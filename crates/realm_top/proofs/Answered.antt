-- What `graph_answers` proves of its answers, for all proofs of this crate: no other file of it looks there.
pub use Rattle.graph_answers.proofs.Delivering.{enough_by_need, few_or_enough, one_answer, if_some, refused_as, accepted_or_unfit, broken_text, too_short, judged_input, refused_input, served_judged, rejected_judged, judged_served, ends_by_paths}
