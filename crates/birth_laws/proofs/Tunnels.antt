-- Tunnels that grow.
use Rattle.std.proofs.Common.{ℕ, sym, ◌∙◌, arith}
use Rattle.epoch_machine.specs.Tunnels.{Tunnels, Linked}
use Rattle.epoch_machine.specs.Calls.{Calls}
use Rattle.epoch_laws.proofs.Growth.{TunnelsGrow}
use Rattle.birth_laws.specs.Births.{CallsHold}

pub still_linked : (t u : Tunnels) (x y : ℕ) → TunnelsGrow t u → Linked t.learned x y → Linked u.learned x y
still_linked t u x y g l = record { forth = g.learned x (λ e. l.to_name (sym l.forth ∙ e)) ∙ l.forth; back = g.learned y (λ e. l.from_name (sym l.back ∙ e)) ∙ l.back; from_name = l.from_name; to_name = l.to_name }

pub tunnels_ok : (t u : Tunnels) (c : Calls) → TunnelsGrow t u → CallsHold t c → CallsHold u c
tunnels_ok t u c g ok = record {
  zero = ok.zero;
  nameless = ok.nameless;
  tunnel_drawn = λ z h. g.drawn (c.tunnel z) (ok.tunnel_drawn z h);
  mate_drawn = ok.mate_drawn;
  waits = ok.waits;
  waits_reply = ok.waits_reply;
  waits_connect = ok.waits_connect;
  up_booked = ok.up_booked;
  booked_up = ok.booked_up;
  up_stays = ok.up_stays;
  up_remote = ok.up_remote;
  up_made = ok.up_made;
  over_gone = ok.over_gone;
  gone_over = ok.gone_over;
  remote_mates = ok.remote_mates;
  mate_remote = ok.mate_remote;
  mate_once = ok.mate_once;
  mate_asks = ok.mate_asks;
  mate_birth = ok.mate_birth;
  mate_made = ok.mate_made;
  mate_linked = λ z h. still_linked t u (c.tunnel (c.mate z)) (c.tunnel z) g (ok.mate_linked z h);
  held_call = λ x e z h. let a = ok.held_call x e z h in let b = g.entered x in (a.0, a.1, (let d = a.2 in omega arith), a.3);
  born = ok.born;
  born_some = ok.born_some;
  birth_once = ok.birth_once;
}
