pub mod SourceLemmas
pub mod HeadlineLemmas
pub mod OpenedStores
pub mod StreamedLemmas
