pub mod Going
pub mod Left
