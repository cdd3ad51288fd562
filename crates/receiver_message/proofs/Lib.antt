-- Laws of one open message.
pub mod SpanLaws
