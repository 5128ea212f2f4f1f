mod AnswerLemmas
mod LineLemmas
mod ToldLemmas
