mod Numbers
pub mod Spelled
mod Told
mod Reached
pub mod Linked
mod Heard
pub mod Lines
pub mod Growing
pub mod Resting
pub mod Still
pub mod Anew
pub mod Resetting
pub mod Deeds
pub mod Answering
mod Ends
pub mod Entering
pub mod Waiting
pub mod Sessions
mod Begun
pub mod ResetsAnswering
pub mod Making
mod Answered
pub mod Established
mod Readings
pub mod Coming
pub mod Naming
mod Replying
pub mod Freezing
pub mod ResetsAttempting
mod Recoveries
mod Extending
mod Later
mod Going
mod Open
mod Giving
pub mod Calm
pub mod Main
pub mod FirstMoves
pub mod Alone
pub mod Births
pub mod First
pub mod Apart
pub mod Learning
pub mod GoingLater
pub mod HeardLater
pub mod LaterMoves
pub mod TakesLater
pub mod ClosesLater
mod Querying
mod GivingMoves
mod Takings
pub mod Opening
pub mod Accepting
pub mod Declining
mod Beginnings
mod RecoveryLetters
mod ControlSent
pub mod OfEnds
mod Inactive
pub mod Agreeing
mod Numbering
mod Nearness
pub mod Looks
mod Mailing
mod Reaching
mod Arriving
mod Budgets
mod Moving
pub mod Stepping
pub mod Committing
pub mod Refusing
mod Sending
pub mod Records
pub mod Earlier
mod Cutting
pub mod MoveLists
pub mod Partners
mod CutOff
mod Ending
pub mod Attempting
pub mod Restarted
pub mod Starting
mod Wholly
mod EachLine
pub mod Parts
