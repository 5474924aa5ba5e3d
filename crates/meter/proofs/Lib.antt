pub mod Feed
pub mod Overs
pub mod Sound
pub mod Pieces
pub mod Count
pub mod Continued
pub mod Determined
pub mod Place
