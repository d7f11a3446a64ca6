use Rattle.channel_laws.proofs.Starting.{starts_keep}
use Rattle.channel_laws.proofs.starts_keep.Goals as goal

pub returns : goal.returns
returns c =
    let started = c.laws_of_starts.ensures in
    starts_keep (record { chains = started.chains; of_books = started.of_books; booked = started.booked })
