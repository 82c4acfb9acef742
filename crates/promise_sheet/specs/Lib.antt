pub mod LongerAnswers
