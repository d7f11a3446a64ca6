use Rattle.session_book.proofs.Contents.{tunnel_down_read, tunnel_down_spelled}
use Rattle.session_book.proofs.writing.tunnel_down.Goals as goal

pub returns-clause-read : goal.returns-clause-read
returns-clause-read c = rw c.put_u16.ensures.bytes (tunnel_down_read c.args.local c.put_u16.ensures.fits)

pub returns-clause-bytes : goal.returns-clause-bytes
returns-clause-bytes c = rw c.put_u16.ensures.bytes (tunnel_down_spelled c.args.local c.put_u16.ensures.fits)
