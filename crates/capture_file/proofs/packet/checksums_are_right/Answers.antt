use Rattle.capture_file.proofs.Right.{ipv4_is_right, udp_is_right}
use Rattle.capture_file.proofs.packet.checksums_are_right.Goals as goal

pub returns-clause-ipv4 : goal.returns-clause-ipv4
returns-clause-ipv4 c = λ id len from to. ipv4_is_right id len from to

pub returns-clause-udp : goal.returns-clause-udp
returns-clause-udp c = λ from to payload are. udp_is_right from to payload are
