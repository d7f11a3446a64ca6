-- The texts that the program writes beside a capture.
use Rattle.std.specs.Prelude.{ℕ, List, ◌++◌, codes}
use Rattle.std.specs.Fmt.{decimal}

abbrev pub bad_line_text : ℕ → List ℕ
bad_line_text line = codes "bad line " ++ decimal line ++ codes "\n"

abbrev pub too_long_text : ℕ → List ℕ
too_long_text lines = codes "too long: " ++ decimal lines ++ codes "\n"

abbrev pub help_text : List ℕ
help_text =
    codes "l2tp_capture: what a run of l2tp sent, as a capture file\n" ++
    codes "\n" ++
    codes "usage:\n" ++
    codes "  l2tp_capture             reads the report of l2tp replay on standard input and writes a capture to standard output\n" ++
    codes "  l2tp_capture --help      writes this text\n" ++
    codes "  l2tp_capture --version   writes the version\n" ++
    codes "\n" ++
    codes "  l2tp replay < x.schedule | l2tp_capture > x.pcap\n" ++
    codes "\n" ++
    codes "The capture is a classic pcap file of Ethernet frames, its numbers the highest byte first. Each line L send P N M HEX of the\n" ++
    codes "report is a UDP datagram from 10.0.0.N to 10.0.0.M, port 1701 at both, whose IPv4 identification is the low half of P. Each\n" ++
    codes "line L frame N HEX is that frame as it is. The moment of a frame is L seconds. Other lines give no frame. Frames that came to\n" ++
    codes "a LAC are in no report, and so not in the capture.\n" ++
    codes "\n" ++
    codes "A report has at most 1048576 lines and 67108864 bytes. What goes wrong is told on standard error, and then no capture is\n" ++
    codes "written.\n" ++
    codes "\n" ++
    codes "status: 0 done, 1 usage, 2 bad line, 5 read fault, 6 write fault, 7 too long, 20 no memory\n"

abbrev pub version_text : List ℕ
version_text = codes "l2tp_capture 0.1.0\n"

abbrev pub usage_text : List ℕ
usage_text = codes "usage: l2tp_capture\n"

abbrev pub read_fault_text : List ℕ
read_fault_text = codes "read fault\n"
