-- What `answer` answers, case by case (RULES 9.4, 9.5).
use Rattle.std.specs.Prelude.{ℕ, ◌<◌, ◌≡◌, List, ◌++◌, length, drop, Option, None, Some}
use Rattle.sheet_texts.specs.Parts.{enough}
use Rattle.sheet_rule.specs.Drive.{AnswerOf}

-- the answer to the text stands in front, and past it all is as before
pub record WrittenOut (text before out : List ℕ) (n : ℕ) : Type 0 where
  pub bytes : List ℕ
  pub is : AnswerOf text bytes
  pub out_is : out ≡ bytes ++ drop (length bytes) before
  pub long : n ≡ length bytes

-- the area may be too short for an answer, and is as before
pub record TooShort (before out : List ℕ) : Type 0 where
  pub short : length before < enough
  pub kept : out ≡ before

abbrev pub AnsweredBy : (text before out : List ℕ) → Option ℕ → Type 0
AnsweredBy text before out (Some n) = WrittenOut text before out n
AnsweredBy text before out None = TooShort before out

pub record Answers (text before out : List ℕ) (r : Option ℕ) : Type 0 where
  pub answer : AnsweredBy text before out r
