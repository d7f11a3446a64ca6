use Rattle.session_book.proofs.Contents.{ceiling_read, ceiling_spelled}
use Rattle.session_book.proofs.writing.ceiling.Goals as goal

pub returns-clause-read : goal.returns-clause-read
returns-clause-read c = rw c.put_u32.ensures.bytes (ceiling_read c.args.space c.args.number c.put_u32.ensures.fits)

pub returns-clause-bytes : goal.returns-clause-bytes
returns-clause-bytes c = rw c.put_u32.ensures.bytes (ceiling_spelled c.args.space c.args.number c.put_u32.ensures.fits)
