pub mod Reported
pub mod Follows
pub mod Drawn
pub mod Calls
pub mod Mates
pub mod BirthMoves
pub mod BirthLines
pub mod OneCall
