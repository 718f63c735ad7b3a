-- What a call is made of, under one name, for proofs that compute calls byte by byte. Assumes nothing.
use Rattle.octet.specs.Number.{value_be, value_le, digits_be, digits_le}
use Rattle.octet.specs.Part.{splice, same, all_zero}
use Rattle.key.specs.Number.{distance}
use Rattle.key.specs.Around.{ring, half, are_keys, up, is_above, nearness, apart, is_down, tie, closer}
use Rattle.refusal.specs.Table.{or_refuse}
use Rattle.record.specs.Record.{record_form}
use Rattle.record.specs.Entry.{entry_form, record_of, entry_of}
use Rattle.kept.specs.Keys.{has, put, without, among, in_order, last_or}
use Rattle.kept.specs.History.{trimmed, learn_with, happen, after}
use Rattle.kept.specs.Records.{put_by, without_by, learn_by}
use Rattle.table.specs.Rows.{rows, joined, bytes_of, any_of}
use Rattle.cache.specs.Form.{follows, leading, held_in, held_of, cache_form}
use Rattle.firsts.specs.Firsts.{first_byte, count, counts_from, firsts_of}
use Rattle.neighbours.specs.Listing.{key_bytes}
use Rattle.path.specs.Path.{stands_in, on_path}
use Rattle.neighbours.specs.Closest.{off_path, closest_from, closest_of}
use Rattle.neighbours.specs.Calls.{list_call}
use Rattle.kept.specs.Ponds.{is_listed, farthest_from, drops_of}
use Rattle.own.specs.Own.{rising_by, own_by, own_place}
use Rattle.cpas.specs.Cpas.{cpa_form, cpas_form, cpa_of}
use Rattle.waiting.specs.Place.{new_place}
use Rattle.waiting.specs.Form.{place_by, places_by, used_in, used_of, waiting_form}
use Rattle.table.specs.Seek.{seek}
use Rattle.waiting.specs.Open.{opened, freed}
use Rattle.waiting.specs.Tick.{id_bytes}
use Rattle.waiting.specs.Ticking.{ticked, listed}
use Rattle.waiting_form.specs.Call.{tick_done}
use Rattle.wire_shapes.specs.Shapes.{array_form, lookup_form, split_form, has_shape}
use Rattle.wire_fields.specs.Kinds as kinds
use Rattle.wire_fields.specs.Reading.{span_at, need_at, maybe_at, places_at, fields_as, whole_in}
use Rattle.wire_fields.specs.Refusals.{in_part, found_in}
use Rattle.wire_buffer.specs.Buffer.{flag_at}
use Rattle.wire_read.specs.Answers.{head_of, precision_at, incoming_of}
use Rattle.wire_write.specs.Making.{ack_made, flood_made, inquire_made, cpa_made, closest_made}
use Rattle.gauge_plan.specs.Memory.{tables_fit, memory_of, comes_fit, counts_fit, hands_fit, tick_fit}
use Rattle.asking.specs.Asking.{must_ask, asks_for}
use Rattle.plan_flood.specs.Flood.{flood_plan, revoke_plan}
use Rattle.plan_answer.specs.Answering.{authority_plan, inquire_plan, lookup_plan}
use Rattle.plan_message.specs.Planned.{plan_for, receive_plan}
use Rattle.gauge.specs.Receive.{carried, receive_call}
use Rattle.gauge.specs.Counts.{gauge_tick, gauge_list}
use Rattle.gauge.specs.Ours.{ours}

-- to compute a call: what unfolds this name unfolds all that a call is made of
unfoldable pub computed : Unit {0}
unfolding value_be value_le digits_be digits_le splice same all_zero distance ring half are_keys up is_above nearness apart is_down tie closer
    or_refuse record_form entry_form record_of entry_of
    put without among in_order last_or has is_listed farthest_from drops_of rising_by own_by own_place trimmed learn_with happen after put_by without_by learn_by rows joined bytes_of
    follows leading held_in held_of cache_form first_byte count counts_from firsts_of key_bytes stands_in on_path off_path closest_from closest_of list_call
    new_place place_by any_of places_by used_in used_of waiting_form seek opened freed ticked listed id_bytes tick_done
    array_form lookup_form split_form has_shape kinds.kinds_of kinds.joined_fields kinds.sized span_at need_at maybe_at places_at fields_as whole_in in_part found_in
    cpa_form cpas_form cpa_of flag_at head_of precision_at incoming_of ack_made flood_made inquire_made cpa_made closest_made
    tables_fit memory_of comes_fit counts_fit hands_fit tick_fit must_ask asks_for flood_plan revoke_plan authority_plan inquire_plan lookup_plan plan_for receive_plan carried receive_call gauge_tick gauge_list
computed = tt
