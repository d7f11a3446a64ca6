-- All that a run, a step and the tables compute with.
use Rattle.id_source.specs.Spaces.{takes_id, counting_from}
use Rattle.id_table.specs.Ids.{at, put as put_at, without}
use Rattle.wire_base.specs.Numbers.{u16_bytes, u32_bytes}
use Rattle.l2tp_header.specs.Flags.{is_control, has_length, has_numbers, has_offset, has_priority, version_of}
use Rattle.l2tp_header.specs.Reading.{word_of, start_of, end_of, header_with, header_of}
use Rattle.l2tp_header.specs.Spelling.{control_bytes, data_bytes}
use Rattle.avp_codec.specs.Reading.{avp_at, avps_at}
use Rattle.control_message.specs.Reading.{checked, u16_at, u32_at, window_at, failover_at, recovery_at, suggested_at, draw_at, response_at, opening_at, icrq_at, icrp_at, iccn_at, message_by, kind_by, result_code_at, cdn_at, stop_ccn_at}
use Rattle.lcp_wire.specs.Reading.{packet_of, options_at}
use Rattle.lcp_end.specs.Options.{is_good, part, asked}
use Rattle.lcp_end.specs.Hearing.{request_heard, ack_heard, nak_heard, reject_heard, answer_heard, answers_last, heard_as}
use Rattle.lcp_end.specs.Steps.{sent as packet_sent, requesting, requested as link_asks, counted, zeroed, configured, terminated, signalled, acted, stepped as link_stepped, acked, naks_after, refused as link_refuses, confirmed as link_confirms, code_rejected, echoed, answered, opened as link_opened, after_heard, after_read, after_packet, closed as link_closed, ticked as link_ticked}
use Rattle.call_link.specs.Turns.{linked}
use Rattle.pppoe_session.specs.Subscribers.{holder_of, subscriber_of}
use Rattle.end_model.specs.Access.{holder, farewell}
use Rattle.end_names.specs.Names.{host_name, address_of, node_of, subscriber, calling_number}
use Rattle.end_model.specs.Reading.{message_read, pairs_read, message_in, zero_read, zero_pairs, at_zero, at_tunnel, fault_of_pairs, call_fault_in, tunnel_fault_of_pairs, tunnel_fault_in}
use Rattle.session_looks.specs.Frames.{carry_known, carry_look}
use Rattle.end_model.specs.Calls.{call_row, advanced, rung, asked_for, sessions_of}
use Rattle.end_model.specs.Querying.{queries, queries_by, asks_more, asks_next, answered_query, answers_query, ended_of, took_answer, hears_answer}
use Rattle.session_query.specs.Queries.{next_batch, told_in}
use Rattle.end_model.specs.Turn.{with_turn, with_output, with_move, with_change, with_looks_of, with_call, with_new, drops, ends_call, ends_all}
use Rattle.end_model.specs.Sending.{gives, gives_as, takes_one, reads_nr, sends_letter, sends_now, lets_go, goes_by, repeats, lets_all_go, acknowledges, acknowledged_after, settles, takes_plain, ignores}
use Rattle.end_model.specs.Openings.{with_local, opened, opens_by, opens, accepted, accepts_by, accepts, connected, confirms}
use Rattle.end_model.specs.Ringing.{requested, requests, requests_at, requests_all, adds, rings_over, rings_by, rings_new, rings, rings_within}
use Rattle.end_model.specs.Hearing.{connects, takes_by, takes, about_call, in_call, in_query, heeds_answer, hears, hears_faulty, hears_said, hears_next, hears_letter, in_tunnel, first_said, ignores_all, hears_control, hears_datagram}
use Rattle.end_model.specs.Asking.{replied, replies, call_of, session_named, granted, asked_by}
use Rattle.end_model.specs.Connecting.{first_up, first_up_by, second_up, connects_call, linked_up, second_up_by, end_heard, end_heard_by, ends_named}
use Rattle.end_model.specs.Frames.{sends_frame, counts, carried, carries}
use Rattle.end_model.specs.Linking.{sends_frames, negotiated, ends_linked, links_by, hears_link, hears_lcp, ticks_link}
use Rattle.end_model.specs.Events.{turns, with_calls}
use Rattle.end_model.specs.Stopping.{shuts, closed_told, closes_tunnel, rejected, rejects, closed_by, clears, shuts_by}
use Rattle.end_model.specs.Closing.{end_silent, end_told, ends_by, closes}
use Rattle.end_model.specs.Refusing.{answers_by, refused, refuses, of_no_call}
use Rattle.end_model.specs.Faulty.{faulty_at, faulty, in_faulty_call}
use Rattle.end_model.specs.Secrets.{uncovered_datagram}
use Rattle.end_model.specs.End.{gives_only, placed, with_look, with_looks, after_turn, after_new, in_new, in_one_more, in_main, ticks_of, end_after_all, after_all, ticks_all, known_as, recovered_by, answered_to, in_recovery, freezes, recovers_tunnel, recovers_by, recovers, are_recovering, opens_once, addressed, main_of, reached_by, reached_plain, against_opening, against_body, declined, opens_or_declines, for_addressee, least_in, rings_in, rings_at, for_call, then_heard, handed, hands_up, receives, only_by, step_in, plain_step}
use Rattle.end_model.specs.Contents.{records_of, contents_of}
use Rattle.end_model.specs.Starting.{keeps_calls, opens_link, opens_links, restores, forgets, restored_by, restored, restored_all, starts, kept_hosts}
use Rattle.end_model.specs.Recovering.{recovery_letter, goes_once, goes_by as line_goes_by, goes, acknowledges_on, attempted, ends_unfinished, froze, resets, resets_by, follows, heeds, hears_class, settles_on, without_recovery, ends_attempt, hears_read, hears_recovery, repeats_on, ticks_on, recovery_ticks, recovering_turns}
use Rattle.end_model.specs.Ticking.{greeted, greets, limits_at, limits_all, goes_quietly, ticks_by, ticks}
use Rattle.recovery_tunnel.specs.Connections.{refuses as line_refuses}
use Rattle.recovery_tunnel.specs.Attempts.{new_attempt, told_to_attempt, attempt_after}
use Rattle.recovery_tunnel.specs.Answers.{new_answer, told_to_answer, answer_after}
use Rattle.world_model.specs.World.{standing_of, with_standing, makes_epoch, enters_epoch, loses_counts, held_line, held_or_dropped, loads_by, loads_it, loads, hears as hears_held, hands_it, hands, recorded_all, commits_by, commits, fallen, cut_line, settled, committed, crashed, armed, started, birth_of, with_birth, is_born, moved, moved_all, sent, shown, entry_of, shown_all, entries_of, given, after_step, added, block_of, stepped, addressee_of, arrival, too_old, refused_by, arrives, delivers_it, delivers, line}
use Rattle.world_model.specs.Run.{goes_on, run_from, down_text, tunnel_text, call_text, call_table, tunnel_line, node_table, end_table, lns_tunnel, partner_of, agree, session_count, agree_text, agree_with, agree_line, node_agreements, agreement_table, tables, unfit_text, half_space_text, stale_text, store_full_text, refusal_text, report_of}
use Rattle.world_model.specs.Texts.{send_text, drop_text, cause_text, up_text, held_text, gone_text, frame_text, stopped_text}
use Rattle.hex.specs.Hex.{encode_with}
use Rattle.std.specs.Fmt.{digits}

unfoldable pub computing : Unit {0}
unfolding takes_id at put_at without u16_bytes u32_bytes is_control has_length has_numbers has_offset has_priority version_of word_of
    start_of end_of header_with header_of control_bytes data_bytes avp_at avps_at checked u16_at u32_at window_at failover_at recovery_at
    suggested_at draw_at response_at opening_at icrq_at icrp_at iccn_at message_by kind_by result_code_at cdn_at stop_ccn_at host_name address_of node_of
    subscriber calling_number message_read pairs_read message_in zero_read zero_pairs at_zero at_tunnel fault_of_pairs call_fault_in tunnel_fault_of_pairs tunnel_fault_in
    call_row advanced rung asked_for carry_known carry_look with_turn with_output with_move with_change with_looks_of with_call with_new drops
    gives gives_as takes_one reads_nr sends_letter sends_now lets_go goes_by repeats lets_all_go acknowledges acknowledged_after settles
    with_local opened opens_by opens accepted accepts_by accepts requested requests requests_at requests_all adds rings_over
    rings_by rings_new rings connected connects confirms takes_plain ignores takes_by takes replied replies first_up first_up_by
    second_up connects_call linked_up second_up_by about_call in_call sessions_of queries queries_by asks_more asks_next answered_query answers_query
    ended_of took_answer hears_answer next_batch told_in in_query heeds_answer hears hears_faulty hears_said hears_next hears_letter in_tunnel first_said hears_control sends_frame counts carried
    linked sends_frames negotiated ends_linked links_by hears_link hears_lcp ticks_link carries hears_datagram turns with_calls ends_call ends_all shuts closed_told closes_tunnel rejected rejects closed_by shuts_by end_silent end_told ends_by closes rings_within answers_by refused refuses
    of_no_call call_of session_named granted asked_by end_heard end_heard_by ends_named faulty_at faulty in_faulty_call
    gives_only placed with_look with_looks after_turn after_new in_new in_one_more in_main ticks_of end_after_all after_all ticks_all known_as opens_once addressed main_of reached_by
    reached_plain against_opening against_body declined opens_or_declines for_addressee least_in rings_in rings_at for_call then_heard handed hands_up receives only_by step_in plain_step uncovered_datagram birth_of with_birth
    is_born moved moved_all sent shown entry_of shown_all entries_of given after_step added block_of stepped addressee_of
    arrival too_old refused_by arrives delivers_it delivers line goes_on run_from tunnel_text call_text call_table tunnel_line
    node_table end_table lns_tunnel partner_of agree session_count agree_text agree_with agree_line node_agreements
    agreement_table tables unfit_text half_space_text stale_text store_full_text refusal_text report_of
    send_text drop_text cause_text up_text held_text gone_text frame_text stopped_text encode_with digits farewell holder_of subscriber_of
    packet_of options_at is_good part asked request_heard ack_heard nak_heard reject_heard answer_heard answers_last heard_as
    counting_from holder records_of contents_of keeps_calls opens_link opens_links restores forgets restored_by restored restored_all starts kept_hosts
    recovery_letter goes_once line_goes_by goes acknowledges_on attempted ends_unfinished froze resets resets_by follows heeds hears_class settles_on without_recovery ends_attempt hears_read hears_recovery repeats_on ticks_on recovery_ticks recovering_turns
    greeted greets limits_at limits_all goes_quietly ticks_by ticks clears ignores_all recovered_by answered_to in_recovery freezes recovers_tunnel recovers_by recovers are_recovering standing_of with_standing makes_epoch enters_epoch loses_counts
    line_refuses new_attempt told_to_attempt attempt_after new_answer told_to_answer answer_after recorded_all commits_by commits fallen cut_line settled committed
    crashed armed started down_text held_line held_or_dropped loads_by loads_it loads hears_held hands_it hands
    packet_sent requesting link_asks counted zeroed configured terminated signalled acted link_stepped acked naks_after link_refuses link_confirms
    code_rejected echoed answered link_opened after_heard after_read after_packet link_closed link_ticked
computing = tt
