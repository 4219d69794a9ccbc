mod AnswerLemmas
mod CheckLemmas
mod CopyLemmas
mod Examples
mod FieldLemmas
mod GrammarEnd
mod HeadLemmas
mod LineLemmas
mod MarkLemmas
mod OriginLemmas
mod PieceLemmas
mod Plain
mod ReadPlain
mod ReadRequest
mod ReaderLemmas
mod Rows
mod WholeLemmas
mod WrittenReply
mod WrittenRequest
pub mod FeedLemmas
pub mod Facts
