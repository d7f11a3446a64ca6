pub mod Cookie
pub mod Asking
pub mod Replies
pub mod Discovery
pub mod Told
pub mod Laws
