-- what sin_cos's contracts cite
pub mod SinCos
