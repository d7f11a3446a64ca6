-- The text of a tunnel, piece by piece.
use Rattle.std.proofs.Common.{◌≡◌, ℕ, Bool, List, ◌++◌, codes, append_assoc}
use Rattle.std.specs.Fmt.{decimal}
use Rattle.tunnel_fsm.specs.Words.{state_word}
use Rattle.end_model.specs.declared.tunnel.Control.{Control}
use Rattle.end_model.specs.declared.tunnel.Mode.{Mode}
use Rattle.end_names.specs.Names.{node_of}
use Rattle.world_model.specs.Texts.{◌&◌, ended}
use Rattle.world_model.specs.Run.{tunnel_text, mode_word, query_word}

ends_behind : (out ids word epoch mode last : List ℕ) → ((((out ++ ids) & word) & epoch) & mode & last) ++ codes "\n" ≡ out ++ ended (ids & word & epoch & mode & last)
ends_behind out ids word epoch mode last = simp append_assoc

pub tunnel_is : (out a b c d e f : List ℕ) (n : ℕ) (t : Control) (epoch : ℕ) (mode : Mode) (complete : Bool)
    → a ≡ out ++ (codes "end" & decimal n & codes "tunnel" & decimal t.local & decimal (node_of t.peer) & decimal t.remote) → b ≡ a & state_word t.state
    → c ≡ b & decimal epoch → d ≡ c & mode_word mode → e ≡ d & query_word complete → f ≡ e ++ codes "\n" → f ≡ out ++ tunnel_text n t epoch mode complete
unfolding tunnel_text
tunnel_is out a b c d e f n t epoch mode complete ids word counted in_mode last line =
    rw (line, last, in_mode, counted, word, ids)
    (ends_behind out (codes "end" & decimal n & codes "tunnel" & decimal t.local & decimal (node_of t.peer) & decimal t.remote) (state_word t.state) (decimal epoch) (mode_word mode) (query_word complete))
