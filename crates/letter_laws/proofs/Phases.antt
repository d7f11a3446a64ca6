-- Moves of tunnels that put no letter and take none.
use Rattle.std.proofs.Common.{◌≡◌, ◌≢◌, ◌⊎◌, ℕ, ◌<◌, arith}
use Rattle.std.proofs.lemmas.Bool.Decides.{nat_tests}
use Rattle.epoch_machine.specs.Tunnels.{Tunnels, Gone, Closed, left, restored, frozen, confirms, is_confirmed, goes_down, comes_up, keeps_up, keeps_down}
use Rattle.epoch_machine.specs.Channels.{Channels}
use Rattle.epoch_laws.specs.Epochs.{EpochsHold}
use Rattle.letter_laws.specs.Letters.{LettersHold}

pub left_closed : (t : Tunnels) (c : Channels) (x : ℕ) → EpochsHold t → LettersHold t c → LettersHold (left t x Closed) (c)
unfolding left
left_closed t c x ep ok =
    record {
      given_drawn = ok.given_drawn;
      given_entered = ok.given_entered;
      taken_drawn = ok.taken_drawn;
      taken_entered = ok.taken_entered;
      taken_learned = ok.taken_learned;
      waits_reply = grind (arith, nat_tests);
      waits_connect = grind (arith, nat_tests);
      open_taken = grind (arith, nat_tests);
      open_given = grind (arith, nat_tests);
      opener_given = ok.opener_given;
      opener_first = ok.opener_first;
      acceptor_first = ok.acceptor_first;
      unchosen = ok.unchosen;
    }

pub left_gone : (t : Tunnels) (c : Channels) (x : ℕ) → EpochsHold t → LettersHold t c → LettersHold (left t x Gone) (c)
unfolding left
left_gone t c x ep ok =
    record {
      given_drawn = ok.given_drawn;
      given_entered = ok.given_entered;
      taken_drawn = ok.taken_drawn;
      taken_entered = ok.taken_entered;
      taken_learned = ok.taken_learned;
      waits_reply = grind (arith, nat_tests);
      waits_connect = grind (arith, nat_tests);
      open_taken = grind (arith, nat_tests);
      open_given = grind (arith, nat_tests);
      opener_given = ok.opener_given;
      opener_first = ok.opener_first;
      acceptor_first = ok.acceptor_first;
      unchosen = ok.unchosen;
    }

pub down : (t : Tunnels) (c : Channels) (n : ℕ) → EpochsHold t → LettersHold t c → LettersHold (goes_down t n) (c)
unfolding goes_down
down t c n ep ok =
    record {
      given_drawn = ok.given_drawn;
      given_entered = ok.given_entered;
      taken_drawn = ok.taken_drawn;
      taken_entered = ok.taken_entered;
      taken_learned = ok.taken_learned;
      waits_reply = grind (arith, nat_tests);
      waits_connect = grind (arith, nat_tests);
      open_taken = grind (arith, nat_tests);
      open_given = grind (arith, nat_tests);
      opener_given = ok.opener_given;
      opener_first = ok.opener_first;
      acceptor_first = ok.acceptor_first;
      unchosen = ok.unchosen;
    }

pub up : (t : Tunnels) (c : Channels) (n : ℕ) → EpochsHold t → LettersHold t c → LettersHold (comes_up t n) (c)
unfolding comes_up
up t c n ep ok =
    record {
      given_drawn = ok.given_drawn;
      given_entered = ok.given_entered;
      taken_drawn = ok.taken_drawn;
      taken_entered = ok.taken_entered;
      taken_learned = ok.taken_learned;
      waits_reply = ok.waits_reply;
      waits_connect = ok.waits_connect;
      open_taken = ok.open_taken;
      open_given = ok.open_given;
      opener_given = ok.opener_given;
      opener_first = ok.opener_first;
      acceptor_first = ok.acceptor_first;
      unchosen = ok.unchosen;
    }

pub kept_down : (t : Tunnels) (c : Channels) (x : ℕ) → EpochsHold t → LettersHold t c → LettersHold (keeps_down t x) (c)
unfolding keeps_down
kept_down t c x ep ok =
    record {
      given_drawn = ok.given_drawn;
      given_entered = ok.given_entered;
      taken_drawn = ok.taken_drawn;
      taken_entered = ok.taken_entered;
      taken_learned = ok.taken_learned;
      waits_reply = ok.waits_reply;
      waits_connect = ok.waits_connect;
      open_taken = ok.open_taken;
      open_given = ok.open_given;
      opener_given = ok.opener_given;
      opener_first = ok.opener_first;
      acceptor_first = ok.acceptor_first;
      unchosen = ok.unchosen;
    }

pub kept_up : (t : Tunnels) (c : Channels) (x s : ℕ) → EpochsHold t → LettersHold t c → (t.learned x ≡ 0) ⊎ (t.learned x ≡ s) → (t.learned s ≡ x) → (x ≢ 0) → (s ≢ 0) → LettersHold (keeps_up t x s) (c)
unfolding keeps_up
kept_up t c x s ep ok p0 p1 p2 p3 =
    record {
      given_drawn = ok.given_drawn;
      given_entered = ok.given_entered;
      taken_drawn = ok.taken_drawn;
      taken_entered = ok.taken_entered;
      taken_learned = grind (arith, nat_tests);
      waits_reply = ok.waits_reply;
      waits_connect = ok.waits_connect;
      open_taken = ok.open_taken;
      open_given = ok.open_given;
      opener_given = ok.opener_given;
      opener_first = ok.opener_first;
      acceptor_first = ok.acceptor_first;
      unchosen = grind (arith, nat_tests);
    }

pub restores : (t : Tunnels) (c : Channels) (x a : ℕ) → EpochsHold t → LettersHold t c → (a ≢ 0) → LettersHold (restored t x a) (c)
unfolding restored
restores t c x a ep ok p0 =
    record {
      given_drawn = grind (arith, nat_tests);
      given_entered = ok.given_entered;
      taken_drawn = grind (arith, nat_tests);
      taken_entered = ok.taken_entered;
      taken_learned = ok.taken_learned;
      waits_reply = grind (arith, nat_tests);
      waits_connect = grind (arith, nat_tests);
      open_taken = grind (arith, nat_tests);
      open_given = grind (arith, nat_tests);
      opener_given = ok.opener_given;
      opener_first = ok.opener_first;
      acceptor_first = ok.acceptor_first;
      unchosen = ok.unchosen;
    }

pub freezes : (t : Tunnels) (c : Channels) (x a b own theirs : ℕ) → EpochsHold t → LettersHold t c → (b ≢ 0) → LettersHold (frozen t x a b own theirs) (c)
unfolding frozen
freezes t c x a b own theirs ep ok p0 =
    record {
      given_drawn = grind (arith, nat_tests);
      given_entered = ok.given_entered;
      taken_drawn = grind (arith, nat_tests);
      taken_entered = ok.taken_entered;
      taken_learned = ok.taken_learned;
      waits_reply = grind (arith, nat_tests);
      waits_connect = grind (arith, nat_tests);
      open_taken = grind (arith, nat_tests);
      open_given = grind (arith, nat_tests);
      opener_given = ok.opener_given;
      opener_first = ok.opener_first;
      acceptor_first = ok.acceptor_first;
      unchosen = ok.unchosen;
    }

pub confirming : (t : Tunnels) (c : Channels) (x b : ℕ) → EpochsHold t → LettersHold t c → (t.entered x < t.makes b) → LettersHold (confirms t x b) (c)
unfolding confirms
confirming t c x b ep ok p0 =
    record {
      given_drawn = ok.given_drawn;
      given_entered = grind (arith, nat_tests);
      taken_drawn = ok.taken_drawn;
      taken_entered = grind (arith, nat_tests);
      taken_learned = ok.taken_learned;
      waits_reply = grind (arith, nat_tests);
      waits_connect = grind (arith, nat_tests);
      open_taken = grind (arith, nat_tests);
      open_given = grind (arith, nat_tests);
      opener_given = ok.opener_given;
      opener_first = ok.opener_first;
      acceptor_first = ok.acceptor_first;
      unchosen = ok.unchosen;
    }

pub confirmed : (t : Tunnels) (c : Channels) (x b : ℕ) → EpochsHold t → LettersHold t c → (t.entered x < t.makes b) → LettersHold (is_confirmed t x b) (c)
unfolding is_confirmed
confirmed t c x b ep ok p0 =
    record {
      given_drawn = ok.given_drawn;
      given_entered = grind (arith, nat_tests);
      taken_drawn = ok.taken_drawn;
      taken_entered = grind (arith, nat_tests);
      taken_learned = ok.taken_learned;
      waits_reply = grind (arith, nat_tests);
      waits_connect = grind (arith, nat_tests);
      open_taken = grind (arith, nat_tests);
      open_given = grind (arith, nat_tests);
      opener_given = ok.opener_given;
      opener_first = ok.opener_first;
      acceptor_first = ok.acceptor_first;
      unchosen = ok.unchosen;
    }
