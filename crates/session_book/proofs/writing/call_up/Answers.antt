use Rattle.session_book.proofs.Contents.{call_up_read, call_up_spelled}
use Rattle.session_book.proofs.writing.call_up.Goals as goal

pub returns-clause-read : goal.returns-clause-read
returns-clause-read c =
    let k = c.args.call in
    rw (c.from.ensures, c.put_address.ensures.bytes, c.put_u16-3.ensures.bytes, c.put_u16-2.ensures.bytes, c.put_u16.ensures.bytes) (call_up_read k.local k.tunnel k.remote k.subscriber k.sequenced c.put_u16.ensures.fits c.put_u16-2.ensures.fits c.put_u16-3.ensures.fits c.put_address.ensures.long)

pub returns-clause-bytes : goal.returns-clause-bytes
returns-clause-bytes c =
    let k = c.args.call in
    rw (c.from.ensures, c.put_address.ensures.bytes, c.put_u16-3.ensures.bytes, c.put_u16-2.ensures.bytes, c.put_u16.ensures.bytes) (call_up_spelled k.local k.tunnel k.remote k.subscriber k.sequenced c.put_u16.ensures.fits c.put_u16-2.ensures.fits c.put_u16-3.ensures.fits c.put_address.ensures.long)
