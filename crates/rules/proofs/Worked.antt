-- The worked dump comes out as document 01 says, cases (a) to (n), by both routes and both id sizes. Assumes nothing.
use mathlib.Core.Path.{◌≡◌, refl}
use mathlib.Core.List.{[]}
use lib.Count.{count_trailing_zeros}
use Rattle.columns.specs.Lists.{tab, places, all_of, any_of, any}
use Rattle.columns.specs.Columns.{over, padded, accepts, leaves}
use Rattle.columns.specs.Ranks.{rank, front, halve, behind, bisect}
use Rattle.store.specs.Blocked.{blocked, long_back, short_back}
use Rattle.store.specs.Blocked as store
use Rattle.index.specs.Copied.{inline, code_of, copied_of, whole, escape_back, id_back}
use Rattle.rules.specs.Types.{keeps}
use Rattle.rules.specs.Input.{slot_count, element_count, copied_id, raw_id, id_at, slot_id, element_spot, element_id, fits, slot_fits, read_slots, slot_kept}
use Rattle.rules.specs.Input.{found_at, classes_at}
use Rattle.rules.specs.Edges.{slot_ref, element_ref, static_ref, static_refs, loader_ref, class_refs, slot_refs, other_refs, refs, outcome, edges_of}
use Rattle.rules.specs.Edges.{weak_targets, missing_at, edges, offset, weak_pairs, distinct_roots, graph}
use Rattle.rules.specs.Places.{has_place, ref_place, unread, places_of, place_count}
use Rattle.rules.specs.Labels.{named, occurring, listed, ranked, fields_of, field_code, code_table, codes_of, codes_for, coded, read_label, expected_at}
use Rattle.rules.specs.Labels.{exact_label}
use Rattle.rules.specs.Account.{cell, account}
use Rattle.rules.specs.Demand.{tally_class, tally, is_lost, held, lost}
use Rattle.rules.specs.Needs.{fields_for, label_columns, need_weak, need_roots, need_long, need_fields, need_escapes, short_later, short_of_build}
use Rattle.rules.specs.Verdict.{at, schema_lengths, route_lengths, bad_lengths, limits, over_limit, bad_size, bad_limit, bad_object, bad_slot, bad_static, bad_class}
use Rattle.rules.specs.Verdict.{bad_find, bad_dumped, bad_code, bad_escape, bad_copied, bad_part, bad_span, faults, counts, build_says}
use Rattle.rules.specs.Parts.{in_column, bad_offsets, bad_label, bad_labels, bad_targets, bad_pair, parts_faults}
use Rattle.rules.specs.Built.{coded_left, build_left}
use Rattle.rules.specs.Questions.{label_at, label_in, field_in, columns_of, edges_read, rises, label_reads, reads_back, weak_read, weak_reads, asked, span}
use Rattle.rules.specs.Questions.{edge_count, exact_of, coarse_of, label_of, field, weak_referents, referent, into_says, edges_into, object_edges}
use Rattle.rules.specs.Incoming.{edge_total, places_to, sources_in, places_in, in_offset, in_offsets, incoming_of, can_read, unreadable, short_of_incoming}
use Rattle.rules.specs.Incoming.{invert_says, invert_left, used_incoming}
use Rattle.rules.specs.Each.{first_refused, each_says, each_left}
use Rattle.rules.specs.Worked.{wrong, table, graph_cases, enough, empty}

pub worked : wrong table ≡ []
unfolding table graph_cases enough empty tab places all_of any_of any over padded accepts leaves rank front halve behind bisect blocked long_back short_back store.read_back inline
    code_of copied_of whole escape_back id_back keeps slot_count element_count copied_id raw_id id_at slot_id element_spot element_id fits slot_fits read_slots
    slot_kept found_at classes_at slot_ref element_ref static_ref static_refs loader_ref class_refs slot_refs other_refs refs outcome edges_of weak_targets missing_at edges
    offset weak_pairs distinct_roots graph has_place ref_place unread places_of place_count named occurring listed ranked fields_of field_code code_table codes_of
    codes_for coded read_label expected_at exact_label cell account tally_class tally is_lost held lost fields_for label_columns need_weak need_roots need_long need_fields
    need_escapes short_later short_of_build at schema_lengths route_lengths bad_lengths limits over_limit bad_size bad_limit bad_object bad_slot bad_static bad_class bad_find
    bad_dumped bad_code bad_escape bad_copied bad_part bad_span faults counts build_says in_column bad_offsets bad_label bad_labels bad_targets bad_pair parts_faults
    coded_left build_left label_at label_in field_in columns_of edges_read rises label_reads reads_back weak_read weak_reads asked span edge_count exact_of coarse_of label_of
    field weak_referents referent into_says edges_into object_edges edge_total places_to sources_in places_in in_offset in_offsets incoming_of can_read unreadable
    short_of_incoming invert_says invert_left used_incoming first_refused each_says each_left count_trailing_zeros
worked = refl
