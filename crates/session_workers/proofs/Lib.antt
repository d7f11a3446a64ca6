pub mod Lists
pub mod EachView
pub mod ItemMoves
pub mod FinishedMoves
pub mod Opening
