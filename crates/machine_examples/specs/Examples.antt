-- Runs of the machine, what both ends hold after them, and runs of the machine without one of its rules.
use Rattle.std.specs.Prelude.{◌≡◌, ℕ, true, false, List, [], ◌∷◌, ◌++◌, All, Contains}
use Rattle.epoch_machine.specs.Tunnels.{Linked, Phase, Open, Attempts}
use Rattle.epoch_machine.specs.Calls.{CallState, NoCall, WaitsReply, Up, lives}
use Rattle.epoch_machine.specs.Worlds.{World, all_rules}
use Rattle.epoch_machine.specs.Moves.{Move, Opens, Accepts, Delivers, AddsCall, Asks, Clears, EndsTold, EndsSilent, Kept, TunnelUp, TunnelDown, CallDown, Queries, Freezes, ResetsAttempting, ResetsAnswering, Restores, Stops, Starts, after}
use Rattle.epoch_laws.specs.Numbers.{first_number}
use Rattle.letter_laws.specs.Letters.{TakesNext}
use Rattle.stop_laws.specs.Records.{each_allowed}
use Rattle.stop_laws.specs.Steps.{AllInStep, records_along, cut_step}
use Rattle.coverage_laws.specs.Coverage.{StatesHold, PairsCovered, EndsAgree, IsComplete, AllTaken}

-- node 1 opens tunnel 11 to node 2, which makes tunnel 21 of it
abbrev pub opening : List Move
opening = Opens 1 2 11 ∷ Accepts 11 21 ∷ Delivers 11 21 0 0 0 ∷ Delivers 21 11 0 1 0 ∷ []

-- node 1 asks for call 101, and node 2 makes call 201 of it
abbrev pub asking : List Move
asking = AddsCall 11 101 ∷ Asks 101 ∷ Delivers 21 11 0 2 201 ∷ []

-- both are established
abbrev pub connecting : List Move
connecting = Delivers 11 21 0 1 0 ∷ Delivers 21 11 0 3 0 ∷ []

-- a second call, 102, is established at node 1; its connect isn't delivered to call 202
abbrev pub half_a_call : List Move
half_a_call = AddsCall 11 102 ∷ Asks 102 ∷ Delivers 21 11 0 4 202 ∷ Delivers 11 21 0 2 0 ∷ []

-- both nodes go down and come up, and both ends attempt to recover
abbrev pub two_crashes : List Move
two_crashes = Stops 1 [] ∷ Stops 2 [] ∷ Starts 1 ∷ Starts 2 ∷ Restores 11 31 ∷ Restores 21 32 ∷ []

-- the tie: node 2 gives up its attempt and answers that of node 1, with two numbers, and both reset
abbrev pub tie : List Move
tie = Freezes 21 31 41 500 700 ∷ ResetsAttempting 11 41 ∷ ResetsAnswering 21 41 ∷ []

-- both ask for what they held, and take the answers
abbrev pub asking_around : List Move
asking_around =
    Queries 11 101
    ∷ Queries 11 102
    ∷ Queries 21 201
    ∷ Delivers 21 11 1 0 0
    ∷ Delivers 21 11 1 1 0
    ∷ Delivers 11 21 1 0 0
    ∷ Delivers 11 21 1 1 0
    ∷ Delivers 11 21 1 2 0
    ∷ Delivers 21 11 1 2 0
    ∷ []

-- what the two ends are
pub record Tunnels (w : World) (p q : Phase) (e f : ℕ) : Type 0 where
  pub opener : w.tunnels.phase 11 ≡ p
  pub acceptor : w.tunnels.phase 21 ≡ q
  pub opener_epoch : w.tunnels.entered 11 ≡ e
  pub acceptor_epoch : w.tunnels.entered 21 ≡ f

-- what they hold of a pair
pub record Pair (w : World) (a b : ℕ) (s t : CallState) : Type 0 where
  pub opener : w.calls.state a ≡ s
  pub acceptor : w.calls.state b ≡ t

-- both ends of the link are open and complete, and each took all that the other gave
pub record Settled (w : World) : Type 0 where
  pub linked : Linked w.tunnels.learned 11 21
  pub opener : w.tunnels.phase 11 ≡ Open
  pub acceptor : w.tunnels.phase 21 ≡ Open
  pub opener_complete : IsComplete w 11
  pub acceptor_complete : IsComplete w 21
  pub opener_taken : AllTaken w 11 21
  pub acceptor_taken : AllTaken w 21 11

-- the tunnel holds this call established
abbrev pub IsHeld : World → ℕ → ℕ → Type 0
IsHeld w x z = (w.calls.tunnel z ≡ x) × (w.calls.state z ≡ Up)

-- of the tunnel's calls these live, and no others; they're established
pub record HoldsThese (w : World) (x : ℕ) (held : List ℕ) : Type 0 where
  pub established : All (IsHeld w x) held
  pub no_others : (z : ℕ) → w.calls.tunnel z ≡ x → lives (w.calls.state z) ≡ true → Contains held z

abbrev pub whole : List Move
whole = opening ++ asking ++ connecting ++ half_a_call ++ two_crashes ++ tie ++ asking_around

pub record WholeRun : Type 0 where
  -- after the opening and a call both are open, in epoch 0, and hold the pair, with one birth
  pub opened : Tunnels (after all_rules (opening ++ asking ++ connecting)) Open Open 0 0
  pub called : Pair (after all_rules (opening ++ asking ++ connecting)) 101 201 Up Up
  pub born : (after all_rules (opening ++ asking ++ connecting)).calls.birth 201 ≡ (after all_rules (opening ++ asking ++ connecting)).calls.birth 101
  -- after a crash of each end both attempt to recover, and hold what was in their books
  pub attempting : Tunnels (after all_rules (opening ++ asking ++ connecting ++ half_a_call ++ two_crashes)) (Attempts 31) (Attempts 32) 0 0
  pub kept : Pair (after all_rules (opening ++ asking ++ connecting ++ half_a_call ++ two_crashes)) 101 201 Up Up
  pub half : Pair (after all_rules (opening ++ asking ++ connecting ++ half_a_call ++ two_crashes)) 102 202 Up NoCall
  -- after the tie both are open, in epoch 1
  pub tied : Tunnels (after all_rules (opening ++ asking ++ connecting ++ half_a_call ++ two_crashes ++ tie)) Open Open 1 1
  pub half_still : Pair (after all_rules (opening ++ asking ++ connecting ++ half_a_call ++ two_crashes ++ tie)) 102 202 Up NoCall
  -- which both entered by the answer of node 2
  pub by_answer : (after all_rules whole).tunnels.answers 41 ≡ 21
  pub opener_by : (after all_rules whole).tunnels.entered_by 11 1 ≡ 41
  pub acceptor_by : (after all_rules whole).tunnels.entered_by 21 1 ≡ 41
  -- so that each begins with the number that the answer suggests to it
  pub opener_begins : first_number (after all_rules whole).tunnels 11 1 ≡ 700
  pub acceptor_begins : first_number (after all_rules whole).tunnels 21 1 ≡ 500
  -- the query ends the call that had no other half, and leaves the other
  pub asked : Tunnels (after all_rules whole) Open Open 1 1
  pub kept_on : Pair (after all_rules whole) 101 201 Up Up
  pub ended : Pair (after all_rules whole) 102 202 NoCall NoCall
  -- then nothing is outstanding, and each end holds its call of the pair, and no other
  pub settled : Settled (after all_rules whole)
  pub opener_holds : HoldsThese (after all_rules whole) 11 (101 ∷ [])
  pub acceptor_holds : HoldsThese (after all_rules whole) 21 (201 ∷ [])

-- node 2 asks for call 202, node 1 makes call 102 of it, and both are established
abbrev pub acceptor_asks : List Move
acceptor_asks = AddsCall 21 202 ∷ Asks 202 ∷ Delivers 11 21 0 2 102 ∷ Delivers 21 11 0 4 0 ∷ Delivers 11 21 0 3 0 ∷ []

abbrev pub both_ask : List Move
both_ask = opening ++ asking ++ connecting ++ acceptor_asks

-- call b replies to call a, which asked, and both have this birth
pub record Born (w : World) (a b birth : ℕ) : Type 0 where
  pub asks : w.calls.mate a ≡ 0
  pub replies : w.calls.mate b ≡ a
  pub asking : w.calls.birth a ≡ birth
  pub replying : w.calls.birth b ≡ birth

-- each end asks for a call over one tunnel, and both ends hold both
pub record BothAsk : Type 0 where
  pub opener_asked : Born (after all_rules both_ask) 101 201 1
  pub acceptor_asked : Born (after all_rules both_ask) 202 102 2
  pub settled : Settled (after all_rules both_ask)
  pub opener_holds : HoldsThese (after all_rules both_ask) 11 (101 ∷ 102 ∷ [])
  pub acceptor_holds : HoldsThese (after all_rules both_ask) 21 (201 ∷ 202 ∷ [])

-- node 1 asks for call 102, and node 2 takes the request and does nothing
abbrev pub ignoring : List Move
ignoring = AddsCall 11 102 ∷ Asks 102 ∷ Delivers 21 11 0 4 0 ∷ []

-- node 1 ends the call, and node 2 takes the CDN
abbrev pub giving_up : List Move
giving_up = EndsTold 102 ∷ Delivers 21 11 0 5 0 ∷ []

abbrev pub ignored : List Move
ignored = opening ++ asking ++ connecting ++ ignoring

abbrev pub given_up : List Move
given_up = opening ++ asking ++ connecting ++ ignoring ++ giving_up

pub record IgnoredRequest : Type 0 where
  -- with nothing outstanding the call waits for a reply
  pub nothing_left : Settled (after all_rules ignored)
  pub waits : (after all_rules ignored).calls.state 102 ≡ WaitsReply
  -- until its own end ends it; then both ends hold the call that they held before, and no other
  pub ended : (after all_rules given_up).calls.state 102 ≡ NoCall
  pub settled : Settled (after all_rules given_up)
  pub opener_holds : HoldsThese (after all_rules given_up) 11 (101 ∷ [])
  pub acceptor_holds : HoldsThese (after all_rules given_up) 21 (201 ∷ [])

-- a crash of node 1, and its recovery into epoch 1
abbrev pub opener_recovers : List Move
opener_recovers = Stops 1 [] ∷ Starts 1 ∷ Restores 11 31 ∷ Freezes 21 31 41 500 700 ∷ ResetsAttempting 11 41 ∷ ResetsAnswering 21 41 ∷ []

abbrev pub acceptor_recovers : List Move
acceptor_recovers = Stops 2 [] ∷ Starts 2 ∷ Restores 21 32 ∷ Freezes 11 32 41 500 700 ∷ ResetsAttempting 21 41 ∷ ResetsAnswering 11 41 ∷ []

abbrev pub half_up : List Move
half_up = Delivers 11 21 0 1 0 ∷ []

-- each rule carries weight: without it a law fails in a short run
pub record RulesCarryWeight : Type 0 where
  -- without a look at the epoch, a letter of epoch 0 is taken in epoch 1
  pub epochs : TakesNext (record all_rules { reads_epochs = false }) (after (record all_rules { reads_epochs = false }) (opening ++ opener_recovers)) → ⊥
  -- where a query is always answered that the pair is here, one end goes on to hold what the other lost, with nothing outstanding
  pub answers : PairsCovered (after (record all_rules { answers_truly = false }) (opening ++ asking ++ half_up ++ acceptor_recovers ++ Queries 11 101 ∷ Delivers 21 11 1 0 0 ∷ Delivers 11 21 1 0 0 ∷ [])) → ⊥
  -- so it does where no query follows a reset
  pub queries : EndsAgree (after (record all_rules { asks_after_resets = false }) (opening ++ asking ++ half_up ++ acceptor_recovers)) → ⊥
  -- or where a call of an open tunnel ends without a CDN
  pub ends : EndsAgree (after (record all_rules { tells_ends = false }) (opening ++ asking ++ connecting ++ EndsTold 201 ∷ [])) → ⊥
  -- where a freeze ends no calls, a call of an older epoch still waits to be connected
  pub freezes : StatesHold (after (record all_rules { ends_at_freezes = false }) (opening ++ asking ++ opener_recovers)).tunnels (after (record all_rules { ends_at_freezes = false }) (opening ++ asking ++ opener_recovers)).calls → ⊥

-- a second call, and both ends establish it
abbrev pub second_call : List Move
second_call = AddsCall 11 102 ∷ Asks 102 ∷ Delivers 21 11 0 4 202 ∷ Delivers 11 21 0 2 0 ∷ Delivers 21 11 0 5 0 ∷ []

abbrev pub two_calls : List Move
two_calls = opening ++ asking ++ connecting ++ second_call

-- in one step node 1 ends both
abbrev pub both_end : List Move
both_end = EndsTold 101 ∷ EndsTold 102 ∷ []

-- it goes down after the first record
abbrev pub after_one : List Kept
after_one = CallDown 101 ∷ []

-- it comes back, and both ask for what they held
abbrev pub back_again : List Move
back_again =
    Starts 1
    ∷ Restores 11 31
    ∷ Freezes 21 31 41 500 700
    ∷ ResetsAttempting 11 41
    ∷ ResetsAnswering 21 41
    ∷ Queries 11 102
    ∷ Queries 21 201
    ∷ Queries 21 202
    ∷ Delivers 21 11 1 0 0
    ∷ Delivers 11 21 1 0 0
    ∷ Delivers 11 21 1 1 0
    ∷ Delivers 11 21 1 2 0
    ∷ Delivers 21 11 1 1 0
    ∷ Delivers 21 11 1 2 0
    ∷ []

abbrev pub cut_amid : List Move
cut_amid = two_calls ++ Stops 1 after_one ∷ []

abbrev pub cut_and_back : List Move
cut_and_back = two_calls ++ Stops 1 after_one ∷ back_again

-- two calls of one tunnel end in one step of their node, which goes down after the first record
pub record CutStep : Type 0 where
  pub held : (Pair (after all_rules two_calls) 101 201 Up Up) × (Pair (after all_rules two_calls) 102 202 Up Up)
  pub one_step : AllInStep (after all_rules two_calls) 1 (after all_rules two_calls) both_end
  pub written : records_along (after all_rules two_calls) both_end ≡ CallDown 101 ∷ CallDown 102 ∷ []
  pub is_stop : after all_rules cut_amid ≡ cut_step (after all_rules two_calls) 1 after_one
  -- the first call is out of the node's book, and the second stands in it
  pub ended : (after all_rules cut_amid).calls.booked 101 ≡ false
  pub left : (after all_rules cut_amid).calls.booked 102 ≡ true
  -- no CDN of either was put, and the other end still holds both; after a recovery and the queries both hold the second pair, and no other
  pub other_holds : (Pair (after all_rules cut_amid) 101 201 NoCall Up) × (Pair (after all_rules cut_amid) 102 202 NoCall Up)
  pub settled : Settled (after all_rules cut_and_back)
  pub opener_holds : HoldsThese (after all_rules cut_and_back) 11 (102 ∷ [])
  pub acceptor_holds : HoldsThese (after all_rules cut_and_back) 21 (202 ∷ [])

-- what a step writes where one of the premises on its moves fails, and may not be kept in the world before it
pub record PremisesCarryWeight : Type 0 where
  -- a node with a tunnel to itself puts an SCCRP and takes it
  pub letter : records_along (after all_rules (Opens 1 1 11 ∷ [])) (Accepts 11 21 ∷ Delivers 11 21 0 0 0 ∷ []) ≡ TunnelUp 11 21 ∷ []
  pub letter_refused : each_allowed (after all_rules (Opens 1 1 11 ∷ [])) 1 (TunnelUp 11 21 ∷ []) ≡ false
  -- a call is restored and ends
  pub restored : records_along (after all_rules (opening ++ asking ++ connecting ++ Stops 1 [] ∷ Starts 1 ∷ [])) (Restores 11 31 ∷ EndsSilent 101 ∷ []) ≡ CallDown 101 ∷ []
  pub restored_refused : each_allowed (after all_rules (opening ++ asking ++ connecting ++ Stops 1 [] ∷ Starts 1 ∷ [])) 1 (CallDown 101 ∷ []) ≡ false
  -- a node comes up and clears a tunnel of its book
  pub started : records_along (after all_rules (opening ++ Stops 1 [] ∷ [])) (Starts 1 ∷ Clears 11 ∷ []) ≡ TunnelDown 11 ∷ []
  pub started_refused : each_allowed (after all_rules (opening ++ Stops 1 [] ∷ [])) 1 (TunnelDown 11 ∷ []) ≡ false
