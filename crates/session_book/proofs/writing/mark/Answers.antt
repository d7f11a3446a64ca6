use Rattle.session_book.proofs.Contents.{mark_read, mark_spelled}
use Rattle.session_book.proofs.writing.mark.Goals as goal

pub returns-clause-read : goal.returns-clause-read
returns-clause-read c = rw (c.put_u32.ensures.bytes, c.put_u16.ensures.bytes) (mark_read c.args.tunnel c.args.mark c.put_u16.ensures.fits c.put_u32.ensures.fits)

pub returns-clause-bytes : goal.returns-clause-bytes
returns-clause-bytes c = rw (c.put_u32.ensures.bytes, c.put_u16.ensures.bytes) (mark_spelled c.args.tunnel c.args.mark c.put_u16.ensures.fits c.put_u32.ensures.fits)
