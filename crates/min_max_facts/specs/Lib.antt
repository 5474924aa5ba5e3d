pub mod MinMaxFacts
