pub mod ExpFacts
