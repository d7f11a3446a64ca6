-- What a move of a step keeps.
pub use Rattle.connection_laws.specs.Steps.{IsDeed, after, HasNumbers, HasCounts, IsMoved, MovesKeep}
