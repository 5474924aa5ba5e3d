pub mod FlatFacts
