pub mod SoftmaxFacts
