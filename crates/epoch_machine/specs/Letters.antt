-- The letters of a tunnel's control connection: its messages, without their bytes.
use Rattle.std.specs.Prelude.{ℕ, Bool}

-- a call is named by its own end's name, or by that of the end that takes the letter, the header; 0 where it isn't known
pub data Letter : Type 0 where
  Sccrq : Letter
  Sccrp : Letter
  Scccn : Letter
  StopCcn : Letter
  Hello : Letter
  -- a call is requested: own
  Request : ℕ → Letter
  -- a call replies: own, header
  Reply : ℕ → ℕ → Letter
  -- a call is connected: header
  Connect : ℕ → Letter
  -- a call is ended, or its request refused: own, header
  Cdn : ℕ → ℕ → Letter
  -- whether a pair of calls is here: own, header
  Fsq : ℕ → ℕ → Letter
  -- it is, or it isn't: own, header
  Fsr : ℕ → ℕ → Bool → Letter
