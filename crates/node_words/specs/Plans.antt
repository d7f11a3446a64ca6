-- The plan that words ask for.
use Rattle.std.specs.Prelude.{ℕ, Bool, true, false, ◌&&◌, List, [], ◌∷◌, Option, Some, None, option_map, is_none, codes, string_bytes, if◌then◌else◌}
use Rattle.std.specs.Str.{bytes_eq}
use Rattle.clap.specs.Words.{fault_of, matches_of}
use Rattle.clap.specs.Walk.{Row, first_of}
use Rattle.node_words.specs.declared.plan.Plan.{Plan}
use Rattle.node_words.specs.declared.reading.Identity.{Identity}
use Rattle.node_words.specs.declared.reading.Numbers.{Numbers}
use Rattle.node_words.specs.declared.reading.Texts.{Texts}
use Rattle.node_words.specs.Options.{plan_app}
use Rattle.option_values.specs.Values.{◌>>=◌, number_of, number_or, address_of, role_of, peer_of, secret_of, workers_of}

-- whether a flag is given
abbrev pub is_given : Option (List ℕ) → Bool
is_given None = false
is_given (Some word) = bytes_eq word (codes "true")

-- which end, which number, and its addresses
unfoldable pub identity_of : List Row → Option Identity
identity_of rows =
    (first_of (codes "role") rows >>= role_of) >>= λ lac.
    (first_of (codes "number") rows >>= number_of 1 255) >>= λ number.
    (first_of (codes "listen") rows >>= address_of) >>= λ listen.
    peer_of lac (first_of (codes "peer") rows) >>= λ peer.
    Some (record { lac = lac; number = number; listen = listen; peer = peer })

-- how many turns, which port, and how many workers
unfoldable pub numbers_of : Bool → List Row → Option Numbers
numbers_of pool rows =
    (first_of (codes "turns") rows >>= number_of 0 9223372036854775807) >>= λ turns.
    number_or 1701 1 65535 (first_of (codes "port") rows) >>= λ port.
    workers_of pool (first_of (codes "workers") rows) >>= λ workers.
    Some (record { turns = turns; port = port; workers = workers })

-- texts and flags
pub record Said : Type 0 where
  pub store : List ℕ
  pub secret : Option (List ℕ)
  pub hide : Bool
  pub opens : Bool
  pub ether : Option (List ℕ)
  pub uplink : Option (List ℕ)
  pub seed : Option (List ℕ)

abbrev pub said : Texts → Said
said t = record {
  store = t.store.now;
  secret = option_map (λ w. w.now) t.secret;
  hide = t.hide;
  opens = t.opens;
  ether = option_map (λ w. w.now) t.ether;
  uplink = option_map (λ w. w.now) t.uplink;
  seed = option_map (λ w. w.now) t.seed;
}

-- a secret, and whether it hides, which needs one
unfoldable pub hiding_of : List Row → Option (Option (List ℕ) × Bool)
hiding_of rows =
    secret_of (first_of (codes "secret") rows) >>= λ secret.
    if is_given (first_of (codes "hide") rows) && is_none secret then None else Some (secret, is_given (first_of (codes "hide") rows))

unfoldable pub texts_of : List Row → Option Said
texts_of rows =
    first_of (codes "store") rows >>= λ store.
    hiding_of rows >>= λ hiding.
    Some (record {
      store = store;
      secret = hiding.0;
      hide = hiding.1;
      opens = is_given (first_of (codes "open") rows);
      ether = first_of (codes "ether") rows;
      uplink = first_of (codes "uplink") rows;
      seed = first_of (codes "seed") rows;
    })

-- a plan, seen in its three parts
pub record Planned : Type 0 where
  pub identity : Identity
  pub numbers : Numbers
  pub texts : Said

abbrev pub planned : Plan → Planned
planned p = record {
  identity = record { lac = p.lac; number = p.number; listen = p.listen; peer = p.peer };
  numbers = record { turns = p.turns; port = p.port; workers = p.workers };
  texts = record {
    store = string_bytes p.store;
    secret = p.secret;
    hide = p.hide;
    opens = p.opens;
    ether = option_map string_bytes p.ether;
    uplink = option_map string_bytes p.uplink;
    seed = option_map string_bytes p.seed;
  };
}

-- the plan of what was found for each option, where each value is in form and nothing is wanting
unfoldable pub plan_by : Bool → List Row → Option Planned
plan_by pool rows =
    identity_of rows >>= λ identity.
    numbers_of pool rows >>= λ numbers.
    texts_of rows >>= λ texts.
    Some (record { identity = identity; numbers = numbers; texts = texts })

-- whether the first word is `pool`, where it is that or `node`
unfoldable pub command_of : List (List ℕ) → Option Bool
command_of [] = None
command_of (word ∷ words) = if bytes_eq word (codes "node") then Some false else if bytes_eq word (codes "pool") then Some true else None

abbrev pub unless_faulty : {A K : Type 0} → List K → Option A → Option A
unless_faulty [] plan = plan
unless_faulty (fault ∷ faults) plan = None

-- the plan of all words: the command is named first, the parse has no fault, and each value is in form
unfoldable pub plan_of : List (List ℕ) → Option Planned
plan_of words =
    command_of words >>= λ pool. unless_faulty (fault_of plan_app words) (plan_by pool (matches_of plan_app words))
