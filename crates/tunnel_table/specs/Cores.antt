-- What is said of a tunnel and of what a step of it is about, for whoever stands on the table of tunnels.
pub use Rattle.tunnel_core.specs.Cores.{Core, Plan, IsTurn, HasId, HasRoomFor, made_of, tunnel_of, beside}
pub use Rattle.tunnel_core.specs.declared.task.Task.{Task}
pub use Rattle.tunnel_core.specs.declared.task.Task.TheVariants.{Event}
