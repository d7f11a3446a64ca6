-- Each move keeps what holds of the letters.
use Rattle.std.proofs.Common.{◌≡◌, ◌≢◌, ◌⊎◌, inl, inr, ⊎_elim, ℕ, ◌<◌, Bool, true, false, List, refl, sym, ap, ◌∙◌, subst, arith}
use Rattle.epoch_machine.specs.Letters.{Letter, Sccrq, Sccrp, Scccn, StopCcn, Hello, Request, Reply, Connect, Cdn}
use Rattle.epoch_machine.specs.Tunnels.{Tunnels, WaitReply, WaitConnect, Open, Closed, Attempts, is_active, is_wait_reply, is_wait_connect, opened, accepted, established_with, goes_down, keeps_up, keeps_down}
use Rattle.epoch_machine.specs.Channels.{Channels, Stands, puts, counts, refuses}
use Rattle.epoch_machine.specs.Worlds.{World, Rules, is_stop, gives, took_one, leaves, connects, is_connected, takes_cdn, answers_query, takes_answer}
use Rattle.epoch_machine.specs.Moves.{Kept, TunnelDown, keeps, keeps_all, falls, opens, accepts, adds_call, asks_for, ends_call, ends_told, queries, freezes, resets_attempting, resets_answering, restores}
use Rattle.epoch_machine.proofs.Splits.{chosen}
use Rattle.epoch_machine.proofs.Tells.{active_phase}
use Rattle.epoch_machine.proofs.Places.{gave, same_sent, counted}
use Rattle.epoch_machine.proofs.Did.{Did, Takes, Ignores, idle, did_open, did_accept, did_refuse, did_take_refusal, did_take, did_take_stop, did_connect, did_confirm, did_reply, did_decline, did_first_up, did_second_up, did_hear, did_answer, did_learn, did_hello, did_close, did_clear, did_add, did_ask, did_end_told, did_end_silent, did_query, did_freeze, did_reset_attempting, did_reset_answering, did_restore, did_stop, did_start}
use Rattle.epoch_machine.proofs.Stops.{Amid, amid_first, UpTells, EachKept, all_kept}
use Rattle.epoch_laws.specs.Epochs.{EpochsHold}
use Rattle.epoch_laws.proofs.Steps.{each_kept, kept_learns, kept_name}
use Rattle.epoch_laws.proofs.Losses.{down_ok}
use Rattle.letter_laws.specs.Letters.{LettersHold}
use Rattle.letter_laws.proofs.Phases.{left_closed, left_gone, down, up, kept_down, kept_up, restores as restores_ok, freezes as freezes_ok, confirming, confirmed}
use Rattle.letter_laws.proofs.Begins.{opens_ok, accepts_ok, not_entered}
use Rattle.letter_laws.proofs.Connects.{connects_ok, confirms_ok}
use Rattle.letter_laws.proofs.Closings.{closes_ok}
use Rattle.letter_laws.proofs.Opens.{open_puts, open_takes}
use Rattle.letter_laws.proofs.Sources.{source, FromLearned, FromNew, FromUnchosen}

-- it holds of the letters afterwards
abbrev Keeps : World → Type 0
Keeps v = LettersHold v.tunnels v.channels

-- what an open tunnel puts, takes, or takes and puts
gives_ok : (t : Tunnels) (c : Channels) (x : ℕ) (l : Letter) → EpochsHold t → LettersHold t c → t.phase x ≡ Open → LettersHold t (puts c x (t.entered x) l)
unfolding puts
gives_ok t c x l ep ok p = open_puts t c (puts c x (t.entered x) l) x l ep ok (gave c (puts c x (t.entered x) l) x (t.entered x) l (λ y f. refl)) record { counts = λ y f. refl } p

took_ok : (t : Tunnels) (c : Channels) (x : ℕ) → EpochsHold t → LettersHold t c → t.phase x ≡ Open → LettersHold t (counts c x (t.entered x))
unfolding counts
took_ok t c x ep ok p = open_takes t c (counts c x (t.entered x)) x ep ok (same_sent c (counts c x (t.entered x)) (λ y f. refl)) (counted c (counts c x (t.entered x)) x (t.entered x) (λ y f. refl)) p

answers_ok : (t : Tunnels) (c : Channels) (x : ℕ) (l : Letter) → EpochsHold t → LettersHold t c → t.phase x ≡ Open → LettersHold t (puts (counts c x (t.entered x)) x (t.entered x) l)
answers_ok t c x l ep ok p = gives_ok t (counts c x (t.entered x)) x l ep (took_ok t c x ep ok p) p

up_after : (t : Tunnels) (c : Channels) (n x s : ℕ) → EpochsHold (goes_down t n) → LettersHold (goes_down t n) c → (t.learned x ≡ 0) ⊎ (t.learned x ≡ s) → t.learned s ≡ x → x ≢ 0 → s ≢ 0 → LettersHold (goes_down (keeps_up t x s) n) c
unfolding goes_down keeps_up
up_after t c n x s ep ok h l a b = kept_up (goes_down t n) c x s ep ok h l a b

down_after : (t : Tunnels) (c : Channels) (n x : ℕ) → EpochsHold (goes_down t n) → LettersHold (goes_down t n) c → LettersHold (goes_down (keeps_down t x) n) c
unfolding goes_down keeps_down
down_after t c n x ep ok = kept_down (goes_down t n) c x ep ok

module _ (r : Rules) (w : World) (reads : r.reads_epochs ≡ true) (ep : EpochsHold w.tunnels) (ok : Keeps w) where
  -- a tunnel that isn't open takes nothing but the letter that it waits for, or a StopCCN
  pub not_ignored : (x s e k : ℕ) (l : Letter) → Takes r w x s e k l → Ignores w x l → w.tunnels.phase x ≡ Open
  not_ignored x s e k l t i = ⊎_elim (λ p. absurd (at_reply p (source r w x s e k l reads ep ok t))) (λ q. ⊎_elim (λ p. absurd (at_connect p (source r w x s e k l reads ep ok t))) (λ p. p) q) (active_phase (w.tunnels.phase x) t.active)
    where
      no_stop : l ≡ StopCcn → ⊥
      no_stop h = let a : is_stop l ≡ true = ap is_stop h in let b = i.no_stop in cc

      at_reply : w.tunnels.phase x ≡ WaitReply → FromLearned w x s e ⊎ (FromNew w x s e l ⊎ FromUnchosen w x s e l) → ⊥
      at_reply p (inl a) = t.sender (sym a.learned ∙ (ep.waits_reply x p).1)
      at_reply p (inr (inl a)) = let b : is_wait_reply (w.tunnels.phase x) ≡ true = ap is_wait_reply p in let d = i.no_opening a.letter in cc
      at_reply p (inr (inr a)) = no_stop a.letter

      at_connect : w.tunnels.phase x ≡ WaitConnect → FromLearned w x s e ⊎ (FromNew w x s e l ⊎ FromUnchosen w x s e l) → ⊥
      at_connect p (inr (inl a)) = let b : WaitConnect ≡ WaitReply = sym p ∙ a.phase in cc
      at_connect p (inr (inr a)) = no_stop a.letter
      at_connect p (inl a) = ⊎_elim (λ f. absurd (let g = f.0 in omega (arith, k1))) (λ f. ⊎_elim (λ g. ⊎_elim (λ h. no_scccn h) (λ h. no_stop h) g.1) (λ g. omega (arith, k1)) f) (ok.opener_first s k l opens st)
        where
          c : (w.tunnels.opener x ≡ false) × (w.tunnels.epochs x ≡ 0) × (w.tunnels.learned x ≢ 0)
          c = ep.waits_connect x p

          x0 : w.tunnels.entered x ≡ 0
          x0 = not_entered w.tunnels x ep c.1

          k1 : k ≡ 1
          k1 = t.next ∙ ap (λ (m : ℕ). w.channels.taken x m) x0 ∙ (ok.waits_connect x p).0

          opens : w.tunnels.opener s ≡ true
          opens = rw (← a.learned) (ep.acceptor_learned x c.0 c.2)

          st : Stands w.channels s 0 k l
          st = subst (λ (m : ℕ). Stands w.channels s m k l) (a.epoch ∙ x0) t.stands

          no_scccn : l ≡ Scccn → ⊥
          no_scccn h = let b : is_wait_connect (w.tunnels.phase x) ≡ true = ap is_wait_connect p in let d = i.no_confirming h in cc

  ignored_ok : (x s e k : ℕ) (l : Letter) → Takes r w x s e k l → Ignores w x l → Keeps (took_one w x)
  unfolding took_one
  ignored_ok x s e k l t i = took_ok w.tunnels w.channels x ep ok (not_ignored x s e k l t i)

  opened_too : (n m x : ℕ) → w.tunnels.drawn x ≡ false → Keeps (opens w n m x)
  unfolding opens gives puts opened
  opened_too n m x new = opens_ok w.tunnels w.channels (puts w.channels x (w.tunnels.entered x) Sccrq) n m x ep ok (gave w.channels (puts w.channels x (w.tunnels.entered x) Sccrq) x (w.tunnels.entered x) Sccrq (λ y f. refl)) record { counts = λ y f. refl } new

  accepted_too : (s x : ℕ) → w.tunnels.drawn x ≡ false → s ≢ 0 → Keeps (accepts w s x)
  unfolding accepts gives took_one puts counts accepted
  accepted_too s x new n = let d = counts (puts w.channels x (w.tunnels.entered x) Sccrp) x (w.tunnels.entered x) in accepts_ok w.tunnels w.channels d s x ep ok (gave w.channels d x (w.tunnels.entered x) Sccrp (λ y f. refl)) (counted w.channels d x (w.tunnels.entered x) (λ y f. refl)) new n

  connected_too : (x s : ℕ) → w.tunnels.phase x ≡ WaitReply → s ≢ 0 → Keeps (connects (took_one w x) x s)
  unfolding connects took_one gives puts counts established_with
  connected_too x s p n = let d = puts (counts w.channels x (w.tunnels.entered x)) x (w.tunnels.entered x) Scccn in connects_ok w.tunnels w.channels d x s ep ok (gave w.channels d x (w.tunnels.entered x) Scccn (λ y f. refl)) (counted w.channels d x (w.tunnels.entered x) (λ y f. refl)) p n

  confirmed_too : (x : ℕ) → w.tunnels.phase x ≡ WaitConnect → Keeps (is_connected (took_one w x) x)
  unfolding is_connected took_one counts
  confirmed_too x p = let d = counts w.channels x (w.tunnels.entered x) in confirms_ok w.tunnels w.channels d x ep ok (same_sent w.channels d (λ y f. refl)) (counted w.channels d x (w.tunnels.entered x) (λ y f. refl)) p

  closed_too : (x : ℕ) → is_active (w.tunnels.phase x) ≡ true → Keeps (leaves (gives w x StopCcn) x Closed)
  unfolding leaves gives puts
  closed_too x a = let d = puts w.channels x (w.tunnels.entered x) StopCcn in closes_ok w.tunnels w.channels d x ep ok (gave w.channels d x (w.tunnels.entered x) StopCcn (λ y f. refl)) record { counts = λ y f. refl } a

  answer_taken_too : (x own z : ℕ) (here : Bool) → w.tunnels.phase x ≡ Open → Keeps (takes_answer (took_one w x) x own z here)
  unfolding takes_answer took_one
  answer_taken_too x own z here p = chosen Keeps _ _ _ (λ h. took_ok w.tunnels w.channels x ep ok p) (λ h. took_ok w.tunnels w.channels x ep ok p)

  told_too : (z : ℕ) → w.tunnels.phase (w.calls.tunnel z) ≡ Open → Keeps (ends_told r w z)
  unfolding ends_told ends_call gives
  told_too z p = chosen Keeps _ _ _ (λ h. gives_ok w.tunnels w.channels (w.calls.tunnel z) _ ep ok p) (λ h. ok)

  refused_too : (s : ℕ) → LettersHold w.tunnels (refuses w.channels s)
  unfolding refuses
  refused_too s = record { given_drawn = ok.given_drawn; given_entered = ok.given_entered; taken_drawn = ok.taken_drawn; taken_entered = ok.taken_entered; taken_learned = ok.taken_learned; waits_reply = ok.waits_reply; waits_connect = ok.waits_connect; open_taken = ok.open_taken; open_given = ok.open_given; opener_given = ok.opener_given; opener_first = ok.opener_first; acceptor_first = ok.acceptor_first; unchosen = ok.unchosen }

  abbrev Falls : ℕ → World → Type 0
  Falls n v = EpochsHold (goes_down v.tunnels n) × LettersHold (goes_down v.tunnels n) v.channels

  stop_too : (n : ℕ) (ks : List Kept) → Keeps (falls (keeps_all w n ks w) n)
  unfolding falls keeps
  stop_too n ks = (all_kept (Falls n) w n record { up = up_too; down = λ v x p a at. down_too v x p a at; call = λ v z own k p a h g. (each.call v z own k p.0 a h g, p.1); ended = λ v z p a h. (each.ended v z p.0 a h, p.1) } ks w (down_ok w.tunnels n ep, down w.tunnels w.channels n ep ok) (amid_first w)).1
    where
      each : EachKept (λ v. EpochsHold (goes_down v.tunnels n)) w n
      each = each_kept w n ep

      up_too : (v : World) (x s : ℕ) → Falls n v → Amid w v → UpTells w n x s → (v.tunnels.learned x ≡ 0) ⊎ (v.tunnels.learned x ≡ s) → Falls n (record v { tunnels = keeps_up v.tunnels x s })
      up_too v x s p a u h = (each.up v x s p.0 a u h, up_after v.tunnels v.channels n x s p.0 p.1 h (kept_learns w n ep v x s a u) (kept_name w n ep x s u) u.sender)

      down_too : (v : World) (x : ℕ) → Falls n v → Amid w v → w.tunnels.node x ≡ n → Falls n (keeps v (TunnelDown x))
      down_too v x p a at = (each.down v x p.0 a at, down_after v.tunnels v.channels n x p.0 p.1)

-- a reset enters a higher epoch
pub higher_attempting : (t : Tunnels) (x c : ℕ) → EpochsHold t → t.phase x ≡ Attempts (t.answered c) → t.answers c ≢ 0 → t.entered x < t.makes c
higher_attempting t x c ep p n = let a = ep.attempts_entered x (t.answered c) p in let b = ep.attempts_answered x (t.answered c) c p n refl in grind (arith, b)

opener_name : (t : Tunnels) (s : ℕ) → EpochsHold t → t.drawn s ≡ true → s ≢ 0
opener_name t s ep d e = let z = ep.zero in let k : t.drawn 0 ≡ true = rw (← e) d in cc

pub did_ok : (r : Rules) (w v : World) → r.reads_epochs ≡ true → Did r w v → EpochsHold w.tunnels → Keeps w → Keeps v
unfolding gives took_one leaves takes_cdn answers_query adds_call asks_for ends_call queries freezes resets_attempting resets_answering restores
did_ok r w v reads idle ep ok = ok
did_ok r w v reads (did_open n m x new) ep ok = opened_too r w reads ep ok n m x new.undrawn
did_ok r w v reads (did_accept s x drawn opener new) ep ok = accepted_too r w reads ep ok s x new.undrawn (opener_name w.tunnels s ep drawn)
did_ok r w v reads (did_refuse s h) ep ok = refused_too r w reads ep ok s
did_ok r w v reads (did_take_refusal x p t) ep ok = left_closed w.tunnels w.channels x ep ok
did_ok r w v reads (did_take x s e k l t i) ep ok = ignored_ok r w reads ep ok x s e k l t i
did_ok r w v reads (did_take_stop x s e k t) ep ok = left_closed w.tunnels w.channels x ep ok
did_ok r w v reads (did_connect x s e k t p l) ep ok = connected_too r w reads ep ok x s p t.sender
did_ok r w v reads (did_confirm x s e k t p l) ep ok = confirmed_too r w reads ep ok x p
did_ok r w v reads (did_reply x s e k own z t p l new) ep ok = answers_ok w.tunnels w.channels x (Reply z own) ep ok p
did_ok r w v reads (did_decline x s e k own t p l) ep ok = answers_ok w.tunnels w.channels x (Cdn 0 own) ep ok p
did_ok r w v reads (did_first_up x s e k own z t p l a b) ep ok = answers_ok w.tunnels w.channels x (Connect own) ep ok p
did_ok r w v reads (did_second_up x s e k z t p l a b) ep ok = took_ok w.tunnels w.channels x ep ok p
did_ok r w v reads (did_hear x s e k own y t p l) ep ok = took_ok w.tunnels w.channels x ep ok p
did_ok r w v reads (did_answer x s e k own y t p l) ep ok = answers_ok w.tunnels w.channels x _ ep ok p
did_ok r w v reads (did_learn x s e k own y here t p l) ep ok = answer_taken_too r w reads ep ok x own y here p
did_ok r w v reads (did_hello x p) ep ok = gives_ok w.tunnels w.channels x Hello ep ok p
did_ok r w v reads (did_close x a) ep ok = closed_too r w reads ep ok x a
did_ok r w v reads (did_clear x) ep ok = left_gone w.tunnels w.channels x ep ok
did_ok r w v reads (did_add x z p new) ep ok = ok
did_ok r w v reads (did_ask z p a) ep ok = gives_ok w.tunnels w.channels (w.calls.tunnel z) (Request z) ep ok p
did_ok r w v reads (did_end_told z p a b) ep ok = told_too r w reads ep ok z p
did_ok r w v reads (did_end_silent z a b) ep ok = ok
did_ok r w v reads (did_query x z p a) ep ok = gives_ok w.tunnels w.channels x _ ep ok p
did_ok r w v reads (did_freeze x a c own theirs p n l f new) ep ok = freezes_ok w.tunnels w.channels x a c own theirs ep ok new.name
did_ok r w v reads (did_reset_attempting x c p n) ep ok = confirming w.tunnels w.channels x c ep ok (higher_attempting w.tunnels x c ep p n)
did_ok r w v reads (did_reset_answering x c p n) ep ok = confirmed w.tunnels w.channels x c ep ok (ep.answers_entered x c p)
did_ok r w v reads (did_restore x a b p new) ep ok = restores_ok w.tunnels w.channels x a ep ok new.name
did_ok r w v reads (did_stop n ks) ep ok = stop_too r w reads ep ok n ks
did_ok r w v reads (did_start n) ep ok = up w.tunnels w.channels n ep ok
