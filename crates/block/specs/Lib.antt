pub mod Form
pub mod Kind
pub mod Block
pub mod Write
pub mod Read
pub mod Asked
