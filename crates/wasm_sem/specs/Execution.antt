-- 4 Execution: the store, links, the machine, and what a run shows and answers, passed on from one place.
pub use Rattle.wasm_sem.specs.Answers.{hook_in, hosts_in, turn_by, summary, summary_of, Summary, start_answer, call_answers, turn_of}
pub use Rattle.wasm_sem.specs.Events.{TraceItem, entry, host_call, event, hook_call, events_in, host_calls, shown_items, in_slot, loc, shown_begin, shown_end, shown_post, shown_start, here, shown_results, shown_ends, shown_invoke, shown_indirect, shown_calc, shown_instr, shown_code, shown_callee, shown_begins, outermost, shown_return, shown_popped, shown_call, shown_typed, shown_slot, shown_variable, shown_set, shown_result, shown_num, shown_write, shown_store, shown_exit, shown_begun, host_item, previous, label_target, shown_through, next_place}
pub use Rattle.wasm_sem.specs.Link.{Callee, own, is_hook, item_callees, import_callees, own_callee, own_callees, callees_of, least_size, page_limit, calls_refusal, refusal_unless, memory_cap, Links, fit_elements, fit_segments, opening_globals, initial_value, offset_of, with_segments, opening_imports, with_elements, defined_globals, host, hook, instance, IsScriptInRange, HasWritesInRange, callee_type, hook_module, imported_callee, is_hook_function, Instance, Entry, Refusal, no_export, bad_args, table_cap, segment_range, fit_types, exported_func, func_at, first_refusal, call_refusal, link_within, CanLink, most_slots, link, global_value, opening_store, fit_all, IsWriteInRange, some_hook, IsFree, entry_with, entry_to, entry_of, fits_type, is_func}
pub use Rattle.wasm_sem.specs.Machine.{same_type, have_same_types, opening_configuration, run_of, is_over, Frame, Env, Next, Configuration, configuration, Phase, starting, calling, over, pop_values, same_func_type, start_entry, call_entry, Cont, ends, step, after_step, run, behind, Label, reduces, traps, stuck, Reduct, reduct, trapped_by, not_simple, reduce_simple, after, env_after, with_ops, return_to, resumed_label, branch_with, branch, exit_label, new_frame, enter, invoke, call_popped, call_func, call_typed, call_slot, call_through, reduce_plain, arity_of, enter_popped_block, enter_block, frame_behind, frame_past, reduce_code, enter_callee, enter_entry, enter_phase, again, at_zero, selected_value, after_num, after_get, after_set, after_load, after_memory_write, after_store, after_grow, reduce_num, first_phase, is_last, call_from, after_start, trap_of, call_host}
pub use Rattle.wasm_sem.specs.Store.{zero_of, values_of, modulo, value_of, zeros, answer_at, answered_store, Store, is_within, writes_done, written_memory, no_answer}
pub use Rattle.wasm_sem.specs.Trace.{has_group, items, trace, trace_of, told_items, items_by, told_invoke, told_popped, told_call, told_matched, told_typed, told_slot, told_indirect, told_instr, told_code, told_callee, told_begun, told_begins, kept_items, chosen_items, selected_items}
