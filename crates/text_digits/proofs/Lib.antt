pub mod DigitRuns
