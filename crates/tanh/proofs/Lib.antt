pub mod Doubled
pub mod Zero
pub mod Before
