pub mod AnswerLaws
pub mod RowFits
pub mod TurnLaws
pub mod MirrorRows
pub mod TranslateRows
pub mod WeighedRows
