-- The texts that the program writes beside a report.
use Rattle.std.specs.Prelude.{ℕ, List, ◌++◌, codes}
use Rattle.std.specs.Fmt.{decimal}

abbrev pub bad_line_text : ℕ → List ℕ
bad_line_text line = codes "bad line " ++ decimal line ++ codes "\n"

abbrev pub too_long_text : ℕ → List ℕ
too_long_text lines = codes "too long: " ++ decimal lines ++ codes "\n"

abbrev pub help_text : List ℕ
help_text =
    codes "l2tp: both ends of L2TP version 2 tunnels (RFC 2661), a LAC and an LNS\n" ++
    codes "\n" ++
    codes "usage:\n" ++
    codes "  l2tp replay            runs the schedule on standard input and writes its report to standard output\n" ++
    codes "  l2tp make SEED COUNT   draws a schedule from a seed, runs it and writes what it comes to\n" ++
    codes "  l2tp node OPTIONS      runs one end over UDP; l2tp node --help tells the options\n" ++
    codes "  l2tp pool OPTIONS      runs one end over UDP with workers; l2tp pool --help tells the options\n" ++
    codes "  l2tp --help            writes this text\n" ++
    codes "  l2tp --version         writes the version\n" ++
    codes "\n" ++
    codes "A schedule is a list of lines, with one space between words:\n" ++
    codes "  # TEXT                a remark\n" ++
    codes "  lns N SECRET          node N is an LNS\n" ++
    codes "  lac N M SECRET MODE   node N is a LAC, whose LNS is node M\n" ++
    codes "  open N                node N, a LAC, opens a tunnel to its LNS\n" ++
    codes "  close N T             an operator closes tunnel T of node N, with its calls\n" ++
    codes "  ring N K              a subscriber calls at port K of node N, a LAC\n" ++
    codes "  frame N HEX           an Ethernet frame of a PPPoE host comes to node N, a LAC\n" ++
    codes "  data N S HEX          the subscriber of call S of node N, a LAC, sends a PPP frame\n" ++
    codes "  down N S HEX          the network sends a PPP frame down call S of node N, an LNS\n" ++
    codes "  hang N S              the subscriber of call S of node N, a LAC, leaves\n" ++
    codes "  drop N S              an operator closes call S of node N\n" ++
    codes "  deliver P             packet P of the report reaches the node that it was sent to\n" ++
    codes "  load N P              a look at the session of data packet P, which is for node N: its frame is held, or the packet is dropped\n" ++
    codes "  hand N H              held frame H of node N is handed up, whatever has happened since\n" ++
    codes "  tick N MS             the clock of node N goes on by MS milliseconds, and what is due is done\n" ++
    codes "  crash N               node N crashes: all but what it committed is lost\n" ++
    codes "  stop N C J KEEP       node N is to stop inside its C-th commit from now on, at call J of its disk\n" ++
    codes "  start N               node N, which is down, starts again over what it committed, and attempts to recover its tunnels\n" ++
    codes "N and M are 1 to 255, K, S and T 1 to 65535, P and H 1 to 4294967295, MS 0 to 86400000, without leading zeros. HEX is a frame\n" ++
    codes "from its protocol field on, 2 to 1494 bytes as hex digits in lower case, and in a frame line an Ethernet frame from its\n" ++
    codes "destination address on, 1 to 2048 bytes. C is 1 to 255 and J 1 to 4; KEEP is kept, with a J of 3 or 4, where the record that is\n" ++
    codes "committed there stays, or lost. SECRET is the secret that both ends of a tunnel share, 1 to 64 bytes as hex\n" ++
    codes "digits, or - where there is none. MODE is plain, or hide where there is a secret: then the numbers of the callers are\n" ++
    codes "hidden by it. A schedule has at most 1048576 lines and 67108864 bytes.\n" ++
    codes "M of a lac line may be declared later, or never: then what is sent to it can't be delivered.\n" ++
    codes "\n" ++
    codes "An LNS ends LCP (RFC 1661) in each call: as the call is connected it asks for an MRU and a magic number. LCP's packets are\n" ++
    codes "frames with protocol c021. Until LCP was open once in a call, other frames of it are dropped; an LCP end that is finished\n" ++
    codes "ends its call.\n" ++
    codes "\n" ++
    codes "A line that doesn't fit ends the run, which says why:\n" ++
    codes "  node     that node isn't declared, or is of the other kind\n" ++
    codes "  twice    that node was declared before\n" ++
    codes "  tunnel   that node has no such tunnel, or has closed it\n" ++
    codes "  call     that node has no such call\n" ++
    codes "  packet   no such packet was sent, or no data packet to that node\n" ++
    codes "  hand     that node holds no such frame\n" ++
    codes "  down     that node is down\n" ++
    codes "  up       that node is up, so it can't start\n" ++
    codes "\n" ++
    codes "A packet may be delivered at any time, and as often as wanted. One that has outlived half of the numbers of its channel\n" ++
    codes "ends the run with status 4: its number is more than 32767 below what the addressee took, or what was acknowledged to it.\n" ++
    codes "So does a control message that was sent in its tunnel in an earlier epoch than the addressee is in: a tunnel is in epoch 0,\n" ++
    codes "and each answer to an attempt at its recovery makes the next one.\n" ++
    codes "\n" ++
    codes "A report has lines for what is done in line L of the schedule, and ends with what each node holds:\n" ++
    codes "  L send P N M HEX                    packet P goes from node N to node M\n" ++
    codes "  L up N S B SIDE HEX                 node N hands up a frame in its call S, the B-th of all calls, to the\n" ++
    codes "                                      subscriber (sub), to the network (net), or to the call's LCP end (lcp)\n" ++
    codes "  L held N H                          node N holds frame H, until it is handed up or the node crashes\n" ++
    codes "  L gone N S                          call S of node N ended\n" ++
    codes "  L frame N HEX                       node N sends an Ethernet frame to a PPPoE host\n" ++
    codes "  L drop N WHY                        node N ignores what came\n" ++
    codes "  L cause N WHY                       node N refuses what was asked for, or ends a call, or closes a tunnel\n" ++
    codes "  L stopped N                         node N stopped inside a commit, and is down\n" ++
    codes "  end N down                          node N is down\n" ++
    codes "  end N tunnel T M R STATE E MODE complete\n" ++
    codes "                                      node N has tunnel T to node M, which calls it R, in epoch E; it is current, restored\n" ++
    codes "                                      (node N was down, and it isn't recovered yet) or frozen (node M was down)\n" ++
    codes "  end N call T S R STATE B            in tunnel T it has call S, which the other end calls R, the B-th of all calls\n" ++
    codes "  agree N T M U C                     both ends of a tunnel took all that they were sent, and hold C established calls\n" ++
    codes "\n" ++
    codes "make takes a SEED of 0 to 18446744073709551615 and a COUNT of 1 to 50000, without leading zeros. It draws COUNT lines for an\n" ++
    codes "LNS and a LAC that has opened a tunnel; what doesn't fit becomes a remark. It writes the seed, and how many lines there are,\n" ++
    codes "packets were sent, frames were handed up, calls were born, and tunnels agree at the end. The same words give the same six lines.\n" ++
    codes "\n" ++
    codes "status: 0 done, 1 usage, 2 bad line, 3 line that does not fit, 4 packet that is too old, 5 read fault, 6 write fault,\n" ++
    codes "        7 too long, 13 checkpoint that is full, 20 no memory\n"

abbrev pub version_text : List ℕ
version_text = codes "l2tp 0.1.0\n"

abbrev pub usage_text : List ℕ
usage_text = codes "usage: l2tp replay\n"

abbrev pub make_usage_text : List ℕ
make_usage_text = codes "usage: l2tp make SEED COUNT\n"

abbrev pub read_fault_text : List ℕ
read_fault_text = codes "read fault\n"
