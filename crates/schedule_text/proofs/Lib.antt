pub mod Cuts
pub mod Numbers
pub mod TextLines
pub mod LineLaws
pub mod LinesAgain
pub mod TextLaws
pub mod Laws
