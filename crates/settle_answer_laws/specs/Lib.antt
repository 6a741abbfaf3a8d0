pub mod SparedLaws
pub mod StopLaws
pub mod WordStops
pub mod LeftOutLaws
pub mod AnswerLaws
