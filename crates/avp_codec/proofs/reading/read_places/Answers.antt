use Rattle.std.proofs.Common.{drop}
use Rattle.std.proofs.lemmas.List.{take_rest}
use Rattle.std.proofs.lemmas.Result.{err_from_is_err_and}
use Rattle.avp_codec.specs.Places.{pair_in, pairs_in}
use Rattle.avp_codec.proofs.Loop.{goes_on, ends, is_done, placed_more}
use Rattle.avp_codec.proofs.reading.read_places.Goals as goal

pub returns-in_err-place : goal.returns-in_err-place
returns-in_err-place c =
    let p = err_from_is_err_and c.from_residual.result c.from_residual.ensures.1 in
    let read = rw take_rest at c.in_err-place.ensures.exact in
    rw (p.1, p.2) (ends c.args.bytes.now (pairs_in c.args.bytes.now c.loop-at.places) c.loop-at.at c.in_err-place.field-0.0 c.loop-at.invariant c.loop-at-test.true read)

pub loop-at-preserved : goal.loop-at-preserved
loop-at-preserved c =
    let bytes = c.args.bytes.now in
    let read = rw take_rest at c.in_ok-place.ensures.exact in
    let fits = rw take_rest at c.in_ok-place.ensures.len.1 in
    let more = placed_more bytes c.loop-at.places c.push.new.self c.behind.result c.in_ok-place.place c.loop-at.at c.in_ok-push.ensures.ok (c.behind.ensures bytes) in
    rw more (goes_on bytes (pairs_in bytes c.loop-at.places) c.loop-at.at (pair_in (drop c.loop-at.at bytes) c.in_ok-place.place) c.in_ok-place.len c.loop-at.invariant c.loop-at-test.true read c.in_ok-place.ensures.len.0 fits)

pub returns : goal.returns
returns c = is_done c.args.bytes.now (pairs_in c.args.bytes.now c.loop-at.places) c.loop-at.at c.loop-at.invariant c.loop-at-test.false
