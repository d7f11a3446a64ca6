-- All that the first lines compute with.
use Rattle.std.specs.Fmt.{digits}
use Rattle.wire_base.specs.Numbers.{u16_bytes, u32_bytes}
use Rattle.id_source.specs.Spaces.{takes_id, counting_from}
use Rattle.id_table.specs.Ids.{at, put as put_at, without}
use Rattle.end_model.specs.Access.{holder, farewell}
use Rattle.end_names.specs.Names.{host_name, address_of, node_of, subscriber, calling_number}
use Rattle.end_model.specs.Reading.{message_read, pairs_read, message_in, zero_read, zero_pairs, at_zero, at_tunnel, fault_of_pairs, call_fault_in, tunnel_fault_of_pairs, tunnel_fault_in}
use Rattle.session_looks.specs.Frames.{carry_known, carry_look}
use Rattle.end_model.specs.Calls.{call_row, advanced, rung, asked_for}
use Rattle.end_model.specs.Turn.{with_turn, with_output, with_move, with_change, with_looks_of, with_call, with_new, drops, ends_call, ends_all}
use Rattle.end_model.specs.Sending.{gives, gives_as, takes_one, reads_nr, sends_letter, sends_now, lets_go, goes_by, lets_all_go, acknowledges, acknowledged_after, settles, takes_plain, ignores}
use Rattle.end_model.specs.Openings.{with_local, opened, opens_by, opens, accepted, accepts_by, accepts, connected, confirms}
use Rattle.end_model.specs.Ringing.{requested, requests, requests_at, requests_all, adds, rings_over, rings_by, rings_new, rings, rings_within}
use Rattle.end_model.specs.Hearing.{connects, takes_by, takes, about_call, in_call, hears, hears_faulty, hears_said, hears_next, hears_letter, in_tunnel, first_said, hears_control, hears_datagram}
use Rattle.end_model.specs.Asking.{replied, replies, call_of, session_named, granted, asked_by}
use Rattle.end_model.specs.Connecting.{first_up, first_up_by, second_up, connects_call, linked_up, second_up_by, end_heard, end_heard_by, ends_named}
use Rattle.end_model.specs.Frames.{sends_frame, counts, carried, carries}
use Rattle.end_model.specs.Linking.{sends_frames, negotiated, ends_linked, links_by, hears_link, hears_lcp}
use Rattle.end_model.specs.Events.{turns, with_calls}
use Rattle.end_model.specs.Stopping.{shuts, closed_told, closes_tunnel, rejected, rejects, closed_by, shuts_by}
use Rattle.end_model.specs.Closing.{end_silent, end_told, ends_by, closes}
use Rattle.end_model.specs.Refusing.{answers_by, refused, refuses, of_no_call}
use Rattle.end_model.specs.Faulty.{faulty_at, faulty, in_faulty_call}
use Rattle.end_model.specs.Secrets.{uncovered_datagram}
use Rattle.end_model.specs.End.{gives_only, placed, with_look, with_looks, after_turn, after_new, in_new, in_one_more, in_main, known_as, opens_once, addressed, main_of, reached_by, reached_plain, against_opening, against_body, declined, opens_or_declines, for_addressee, least_in, are_recovering, rings_in, rings_at, for_call, then_heard, handed, hands_up, receives, only_by, step_in, plain_step}
use Rattle.end_model.specs.Contents.{records_of, contents_of}
use Rattle.end_model.specs.Starting.{restored_all, starts, kept_hosts}
use Rattle.world_model.specs.World.{recorded_all, commits_by, commits, standing_of, loses_counts, fallen, cut_line, settled, committed, crashed, armed, started, birth_of, with_birth, is_born, moved, moved_all, sent, shown, entry_of, shown_all, entries_of, given, after_step, added, block_of, stepped, addressee_of, arrival, too_old, refused_by, arrives, delivers_it, delivers, line}
use Rattle.world_model.specs.Run.{goes_on, run_from, down_text, tunnel_text, call_text, call_table, tunnel_line, node_table, end_table, lns_tunnel, partner_of, agree, session_count, agree_text, agree_with, agree_line, node_agreements, agreement_table, tables}

unfoldable pub computing : Unit {0}
unfolding digits u16_bytes u32_bytes takes_id counting_from at put_at without holder farewell host_name address_of node_of subscriber calling_number message_read
    pairs_read message_in zero_read zero_pairs at_zero at_tunnel fault_of_pairs call_fault_in tunnel_fault_of_pairs tunnel_fault_in
    carry_known carry_look call_row advanced rung asked_for with_turn with_output with_move with_change with_looks_of with_call with_new
    drops ends_call ends_all gives gives_as takes_one reads_nr sends_letter sends_now lets_go goes_by lets_all_go acknowledges
    acknowledged_after settles takes_plain ignores with_local opened opens_by opens accepted accepts_by accepts connected confirms requested
    requests requests_at requests_all adds rings_over rings_by rings_new rings rings_within connects takes_by takes about_call in_call hears
    hears_faulty hears_said hears_next hears_letter in_tunnel first_said hears_control hears_datagram replied replies call_of session_named
    granted asked_by first_up first_up_by second_up connects_call linked_up second_up_by end_heard end_heard_by ends_named sends_frame
    counts carried carries sends_frames negotiated ends_linked links_by hears_link hears_lcp turns with_calls shuts closed_told closes_tunnel rejected
    rejects closed_by shuts_by end_silent end_told ends_by closes answers_by refused refuses of_no_call faulty_at faulty in_faulty_call
    uncovered_datagram gives_only placed with_look with_looks after_turn after_new in_new in_one_more in_main known_as opens_once addressed
    main_of reached_by reached_plain against_opening against_body declined opens_or_declines for_addressee least_in are_recovering
    rings_in rings_at for_call then_heard handed hands_up receives only_by step_in plain_step records_of contents_of restored_all starts
    kept_hosts recorded_all commits_by commits standing_of loses_counts fallen cut_line settled committed crashed armed started birth_of with_birth
    is_born moved
    moved_all sent shown entry_of shown_all entries_of given after_step added block_of stepped addressee_of arrival too_old refused_by
    arrives delivers_it delivers line goes_on run_from down_text tunnel_text call_text call_table tunnel_line node_table end_table
    lns_tunnel partner_of agree session_count agree_text agree_with agree_line node_agreements agreement_table tables
computing = tt
