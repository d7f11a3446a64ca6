-- What is said of a tunnel, for whoever stands on an end.
pub use Rattle.tunnel_table.specs.Cores.{tunnel_of}
