mod Lists
mod Callers
mod States
mod Owing
mod Tells
mod Assigned
mod Faults
mod Zero
mod Known
mod Secrets
mod Chosen
mod Granting
mod Openings
mod HeldLetters
mod Turns
mod Outputs
mod Settling
mod Sending
mod Comes
mod Shutting
mod Closing
mod Finished
mod Keeping
mod Linking
mod Calls
mod Faulty
mod Queries
mod Stopping
mod Questions
mod Hearing
mod Moments
mod Named
mod Ticking
mod Progressing
mod OnLine
mod Leaving
mod Ends
mod LineConnections
mod LineQuestions
mod Recovered
mod Freezing
mod Declining
mod Ticks
mod Quiet
mod QuietLines
mod Events
pub mod Steps
pub mod Sound
mod Patience
mod Behind
mod Late
mod Lasting
mod WaitingCalls
mod Asking
mod LcpAsked
mod NewTunnels
mod Attempting
mod Waiting
pub mod LookParts
pub mod Looks
mod Few
mod Full
pub mod Ups
mod Bodies
mod Still
mod Answering
mod Reaching
mod Ringing
pub mod Requests
mod Tables
mod Sent
mod Distinct
mod Untold
mod Parting
mod Unborn
mod LineParts
pub mod Gone
pub mod Rings
mod Booked
pub mod Starts
mod Returning
pub mod Restarts
