-- Laws of the state, of its causes and of an accepted call.
pub mod Contracts
pub mod StateLaws
pub mod CauseLaws
pub mod FillLaws
pub mod RunLaws
pub mod AddLaws
pub mod AnswerLaws
pub mod QuickLaws
