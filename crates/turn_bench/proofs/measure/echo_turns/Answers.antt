use Rattle.turn_bench.proofs.measure.echo_turns.Goals as goal

-- the turns that were made, from the end and the generator with which they began
pub returns-clause-turns : goal.returns-clause-turns
returns-clause-turns g c = let made = c.in_ok-serve.ensures.ok in (made.0, made.1, _, _, _, _, made.2)
