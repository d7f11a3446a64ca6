mod Places
mod Early
mod Making
