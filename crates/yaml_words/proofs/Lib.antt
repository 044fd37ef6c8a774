mod PlaceLemmas
mod SpaceLemmas
mod QuoteLemmas
mod NumberLemmas
mod MarkLemmas
mod ItemLemmas
mod KeyLemmas
pub mod FaultLines
mod WrittenTexts
mod WrittenNumbers
