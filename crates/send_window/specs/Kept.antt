-- What an outbox keeps.
use Rattle.std.specs.Prelude.{ℕ, ◌≤◌, List}
use Rattle.wire_base.specs.declared.letter.Letter.{Letter}
use Rattle.send_window.specs.declared.congestion.Congestion.{Congestion}
use Rattle.send_window.specs.Congestion.{IsOpen}

pub record Window : Type 0 where
  -- the number of the first letter that isn't acknowledged, modulo 2^64
  pub acked : ℕ
  -- how many letters are unacknowledged or unsent, and how many of them are on the wire
  pub queued : ℕ
  pub outstanding : ℕ
  pub congestion : Congestion
  -- the moment, in milliseconds, at which the first became the oldest outstanding letter, or was last repeated
  pub since : ℕ
  -- how often the first was repeated
  pub repetitions : ℕ

pub record Kept : Type 0 where
  -- the letters that are unacknowledged or unsent, in the order of their numbers
  pub letters : List Letter
  pub window : Window
  -- for how many more letters there is room
  pub spare : ℕ

pub record IsBounded (queued : ℕ) (outstanding : ℕ) (congestion : Congestion) (repetitions : ℕ) : Type 0 where
  pub few : queued ≤ 8192
  pub there : outstanding ≤ queued
  pub sound : IsOpen congestion
  pub counted : repetitions ≤ 5
