pub mod Scopes
pub mod Ctxts
