pub mod CountableLemmas
