use Rattle.session_book.proofs.Contents.{tunnel_up_read, tunnel_up_spelled}
use Rattle.session_book.proofs.writing.tunnel_up.Goals as goal

pub returns-clause-read : goal.returns-clause-read
returns-clause-read c = let t = c.args.tunnel in rw (c.put_u16-4.ensures.bytes, c.put_u16-3.ensures.bytes, c.put_u32.ensures.bytes, c.put_u16-2.ensures.bytes, c.put_u16.ensures.bytes) (tunnel_up_read t.local t.remote t.peer t.window t.flags c.put_u16.ensures.fits c.put_u16-2.ensures.fits c.put_u32.ensures.fits c.put_u16-3.ensures.fits c.put_u16-4.ensures.fits)

pub returns-clause-bytes : goal.returns-clause-bytes
returns-clause-bytes c = let t = c.args.tunnel in rw (c.put_u16-4.ensures.bytes, c.put_u16-3.ensures.bytes, c.put_u32.ensures.bytes, c.put_u16-2.ensures.bytes, c.put_u16.ensures.bytes) (tunnel_up_spelled t.local t.remote t.peer t.window t.flags c.put_u16.ensures.fits c.put_u16-2.ensures.fits c.put_u32.ensures.fits c.put_u16-3.ensures.fits c.put_u16-4.ensures.fits)
