-- Why an end isn't opened, for whoever stands on a node.
pub use Rattle.stored_ends.specs.declared.stops.OpenStop.TheVariants.{NotJournal, StoreFault, StoreFull, NoMemory}
