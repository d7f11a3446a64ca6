-- What is said of ends and of their steps, for whoever stands on an end with its store.
pub use Rattle.lac_core.specs.Cores.{Given, subscriber_at}
pub use Rattle.lac_core.specs.Gives.{end_step}
