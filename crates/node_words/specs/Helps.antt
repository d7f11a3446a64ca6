-- The texts that words may ask for.
use Rattle.std.specs.Prelude.{ℕ, List, ◌++◌, drop, codes, String, string_bytes, Bool, Option, Some, None, if◌then◌else◌}
use Rattle.std.specs.List.{list_any}
use Rattle.std.specs.Str.{bytes_eq}

-- whether one of the words behind the command's name is this one
abbrev pub has_word : {A : Type 0} → List ℕ → List (String A) → Bool
has_word word words = list_any (λ w. bytes_eq (string_bytes w) word) (drop 1 words)

-- the text that is asked for, if one is: the help goes before the version
abbrev pub asked_text : {A : Type 0} → List ℕ → List ℕ → List (String A) → Option (List ℕ)
asked_text help version words =
    if has_word (codes "--help") words then Some help else if has_word (codes "--version") words then Some version else None

unfoldable pub node_help_text : List ℕ
node_help_text =
    codes "Runs an L2TP end over UDP.\n" ++
    codes "\n" ++
    codes "usage: l2tp node --role lac|lns --number N --listen ADDRESS --store PATH --turns N [OPTION ..]\n" ++
    codes "\n" ++
    codes "  --role lac|lns     which end it is\n" ++
    codes "  --number N         its number, 1 to 255\n" ++
    codes "  --listen ADDRESS   the IPv4 address that it listens on, as 127.0.0.1\n" ++
    codes "  --peer ADDRESS     the IPv4 address of its LNS; a LAC needs it\n" ++
    codes "  --store PATH       the file of its checkpoint\n" ++
    codes "  --turns N          how many turns it makes, 0 to 9223372036854775807\n" ++
    codes "  --secret TEXT      the secret of its tunnels, 1 to 64 bytes\n" ++
    codes "  --hide             hides calling numbers; needs --secret\n" ++
    codes "  --open             opens a tunnel before its first turn\n" ++
    codes "  --port N           the UDP port of all ends, 1 to 65535 (default 1701)\n" ++
    codes "  --ether PATH       the Unix socket of its Ethernet port\n" ++
    codes "  --uplink PATH      the Unix socket of its network\n" ++
    codes "  --seed PATH        a file with the 32 bytes of its seed (default /dev/urandom)\n"

unfoldable pub pool_help_text : List ℕ
pool_help_text =
    codes "Runs an L2TP end over UDP with a pool of workers.\n" ++
    codes "\n" ++
    codes "usage: l2tp pool --role lac|lns --number N --listen ADDRESS --store PATH --turns N [OPTION ..]\n" ++
    codes "\n" ++
    codes "  --role lac|lns     which end it is\n" ++
    codes "  --number N         its number, 1 to 255\n" ++
    codes "  --listen ADDRESS   the IPv4 address that it listens on, as 127.0.0.1\n" ++
    codes "  --peer ADDRESS     the IPv4 address of its LNS; a LAC needs it\n" ++
    codes "  --store PATH       the file of its checkpoint\n" ++
    codes "  --turns N          how many turns it makes, 0 to 9223372036854775807\n" ++
    codes "  --secret TEXT      the secret of its tunnels, 1 to 64 bytes\n" ++
    codes "  --hide             hides calling numbers; needs --secret\n" ++
    codes "  --open             opens a tunnel before its first turn\n" ++
    codes "  --port N           the UDP port of all ends, 1 to 65535 (default 1701)\n" ++
    codes "  --ether PATH       the Unix socket of its Ethernet port\n" ++
    codes "  --uplink PATH      the Unix socket of its network\n" ++
    codes "  --seed PATH        a file with the 32 bytes of its seed (default /dev/urandom)\n" ++
    codes "  --workers N        how many workers it has, 1 to 64 (default 4)\n"
