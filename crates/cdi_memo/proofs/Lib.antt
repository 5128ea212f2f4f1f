mod ChangeLemmas
pub mod QuestionLemmas
