-- What holds of the calls of a node and of the letters that ask for them: it stays, whatever the node does.
use Rattle.std.proofs.Common.{◌≡◌, ◌⊎◌, ⊎_elim, ℕ, ◌<◌, ◌≤◌, List, length, slice_get, sym, ◌∙◌, subst, Option, Some, arith}
use Rattle.id_table.specs.Ids.{at}
use Rattle.id_table.specs.Order.{Ascends}
use Rattle.control_message.specs.declared.message.Message.TheVariants.{Icrq}
use Rattle.end_model.specs.declared.tunnel.Call.{Call}
use Rattle.end_names.specs.declared.role.Role.TheVariants.{Lac}
use Rattle.end_model.specs.Tunnels.{Tunnel}
use Rattle.end_model.specs.End.{End}
use Rattle.step_laws.specs.Letters.{Letter}
use Rattle.connection_laws.specs.Accounts.{Account}
use Rattle.request_laws.proofs.Rows.{Asks, request_row}

-- ---- letters that ask, and calls

-- the letter at a place of a list asks for the call of a session
pub record Asking (letters : List Letter) (k s : ℕ) : Type 0 where
  pub letter : Letter
  pub there : slice_get letters k ≡ Some letter
  pub serial : ℕ
  pub calling : Option (List ℕ)
  pub asks : letter.message ≡ Icrq s serial calling

-- a live call of an end
pub record IsCall (e : End) (i s : ℕ) (c : Call) : Type 0 where
  pub tunnel : Tunnel
  pub there : at e.tunnels i ≡ Some tunnel
  pub live : at tunnel.calls s ≡ Some c

-- what is known of each tunnel of one node
abbrev pub Known : Type 0
Known = ℕ → Account

-- no id stands twice
pub record Ordered (e : End) : Type 0 where
  pub tunnels : Ascends e.tunnels
  pub calls : (i : ℕ) (t : Tunnel) → at e.tunnels i ≡ Some t → Ascends t.calls

-- the session id was drawn
abbrev pub IsDrawn : End → ℕ → Type 0
IsDrawn e s = (0 < s) × (s < e.session_ids.next)

pub record AskOk (known : Known) (e : End) : Type 0 where
  pub order : Ordered e
  -- sessions that are in use were drawn, and only a LAC asks for calls
  pub first : 0 < e.session_ids.next
  pub drawn : (i s : ℕ) (c : Call) → IsCall e i s c → IsDrawn e s
  pub asked : (i k s : ℕ) → Asking (known i).given k s → IsDrawn e s × (e.role ≡ Lac)
  -- no two tunnels have a call of one session
  pub apart : (i j s : ℕ) (c d : Call) → IsCall e i s c → IsCall e j s d → i ≡ j
  -- of a call that is still to be asked for, no letter asks yet
  pub waits : (i s : ℕ) (c : Call) → IsCall e i s c → Asks e.role c → (j k : ℕ) → Asking (known j).given k s → ⊥
  pub once : (i k j l s : ℕ) → Asking (known i).given k s → Asking (known j).given l s → (i ≡ j) × (k ≡ l)

-- ---- what a move does

-- where a call of y comes from: it is a call of x; or one of x that went on, and needn't be asked for any more; or it is new, in
-- the tunnel that the move is about
pub data CallFrom (x y : End) (about i s : ℕ) (c : Call) : Type 0 where
  Was : IsCall x i s c → CallFrom x y about i s c
  Went : (d : Call) → IsCall x i s d → (Asks y.role c → ⊥) → CallFrom x y about i s c
  New : i ≡ about → s ≡ x.session_ids.next → s < y.session_ids.next → CallFrom x y about i s c

pub record CallsGo (x y : End) (about : ℕ) : Type 0 where
  pub role : y.role ≡ x.role
  pub rises : x.session_ids.next ≤ y.session_ids.next
  pub order : Ordered y
  pub from : (i s : ℕ) (c : Call) → IsCall y i s c → CallFrom x y about i s c

-- the call that a move asks for: it was still to be asked for, and then it isn't
pub record IsNow (x y : End) (about s : ℕ) : Type 0 where
  pub call : Call
  pub was : IsCall x about s call
  pub asks : Asks x.role call
  pub no_more : (i : ℕ) (c : Call) → IsCall y i s c → Asks y.role c → ⊥

-- each letter that asks was there, or it is the next one of the tunnel that the move is about
abbrev pub LettersGo : Known → Known → End → End → ℕ → Type 0
LettersGo known later x y about = (i k s : ℕ) → Asking (later i).given k s
    → (Asking (known i).given k s) ⊎ ((i ≡ about) × (k ≡ length (known about).given) × IsNow x y about s)

module _ (known later : Known) (x y : End) (about : ℕ) (ok : AskOk known x) (calls : CallsGo x y about) (letters : LettersGo known later x y about) where
  drawn_later : (s : ℕ) → IsDrawn x s → IsDrawn y s
  drawn_later s h = let lt = h.1 in let le = calls.rises in (h.0, omega arith)

  asked_after : (i k s : ℕ) → Asking (later i).given k s → IsDrawn y s × (y.role ≡ Lac)
  asked_after i k s a = ⊎_elim
      (λ b. let was = ok.asked i k s b in (drawn_later s was.0, calls.role ∙ was.1))
      (λ (b : (i ≡ about) × (k ≡ length (known about).given) × IsNow x y about s).
      let now = b.2 in (drawn_later s (ok.drawn about s now.call now.was), calls.role ∙ request_row x.role now.call.state now.asks))
      (letters i k s a)

  -- a session that is new has no call yet, and no letter asks for it
  not_new : (s : ℕ) → IsDrawn x s → s ≡ x.session_ids.next → ⊥
  not_new s h new = let lt = h.1 in omega (arith, new)

  drawn_by : (i s : ℕ) (c : Call) → CallFrom x y about i s c → IsDrawn y s
  drawn_by i s c (Was was) = drawn_later s (ok.drawn i s c was)
  drawn_by i s c (Went d was over) = drawn_later s (ok.drawn i s d was)
  drawn_by i s c (New here new lt) = let first = ok.first in (omega (arith, new), lt)

  apart_by : (i j s : ℕ) (c d : Call) → CallFrom x y about i s c → CallFrom x y about j s d → i ≡ j
  apart_by i j s c d (Was a) (Was b) = ok.apart i j s c d a b
  apart_by i j s c d (Was a) (Went e b over) = ok.apart i j s c e a b
  apart_by i j s c d (Was a) (New here new lt) = absurd (not_new s (ok.drawn i s c a) new)
  apart_by i j s c d (Went f a over) (Was b) = ok.apart i j s f d a b
  apart_by i j s c d (Went f a over) (Went e b done) = ok.apart i j s f e a b
  apart_by i j s c d (Went f a over) (New here new lt) = absurd (not_new s (ok.drawn i s f a) new)
  apart_by i j s c d (New here new lt) (Was b) = absurd (not_new s (ok.drawn j s d b) new)
  apart_by i j s c d (New here new lt) (Went e b over) = absurd (not_new s (ok.drawn j s e b) new)
  apart_by i j s c d (New here new lt) (New there next le) = here ∙ sym there

  waits_by : (i s : ℕ) (c : Call) → IsCall y i s c → CallFrom x y about i s c → Asks y.role c → (j k : ℕ) → Asking (known j).given k s → ⊥
  waits_by i s c is (Was was) asks j k a = ok.waits i s c was (subst (λ r. Asks r c) calls.role asks) j k a
  waits_by i s c is (Went d was over) asks j k a = over asks
  waits_by i s c is (New here new lt) asks j k a = not_new s (ok.asked j k s a).0 new

  waits_after : (i s : ℕ) (c : Call) → IsCall y i s c → Asks y.role c → (j k : ℕ) → Asking (later j).given k s → ⊥
  waits_after i s c is asks j k a = ⊎_elim
      (λ b. waits_by i s c is (calls.from i s c is) asks j k b)
      (λ (b : (j ≡ about) × (k ≡ length (known about).given) × IsNow x y about s). b.2.no_more i c is asks)
      (letters j k s a)

  now_or_before : (i k s : ℕ) → IsNow x y about s → Asking (known i).given k s → ⊥
  now_or_before i k s now a = ok.waits about s now.call now.was now.asks i k a

  once_after : (i k j l s : ℕ) → Asking (later i).given k s → Asking (later j).given l s → (i ≡ j) × (k ≡ l)
  once_after i k j l s a b = ⊎_elim
      (λ c. ⊎_elim
      (λ d. ok.once i k j l s c d)
      (λ (d : (j ≡ about) × (l ≡ length (known about).given) × IsNow x y about s). absurd (now_or_before i k s d.2 c))
      (letters j l s b))
      (λ (c : (i ≡ about) × (k ≡ length (known about).given) × IsNow x y about s). ⊎_elim
      (λ d. absurd (now_or_before j l s c.2 d))
      (λ (d : (j ≡ about) × (l ≡ length (known about).given) × IsNow x y about s). (c.0 ∙ sym d.0, c.1 ∙ sym d.1))
      (letters j l s b))
      (letters i k s a)

  pub ask_goes_on : AskOk later y
  ask_goes_on = record {
    order = calls.order;
    first = (let first = ok.first in let le = calls.rises in omega arith);
    drawn = λ i s c is. drawn_by i s c (calls.from i s c is);
    asked = asked_after;
    apart = λ i j s c d a b. apart_by i j s c d (calls.from i s c a) (calls.from j s d b);
    waits = waits_after;
    once = once_after;
  }
