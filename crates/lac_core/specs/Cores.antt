-- What is said of ends, of their tunnels and of their steps, for whoever stands on a LAC.
pub use Rattle.end_core.specs.declared.end.Given.{Given}
pub use Rattle.end_core.specs.Cores.{tunnel_of}
pub use Rattle.end_core.specs.Fits.{fits, unless}
pub use Rattle.end_core.specs.Gives.{GivesStep}
pub use Rattle.end_core.specs.Sessions.{subscriber_at}
