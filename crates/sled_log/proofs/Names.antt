-- The names that the proofs of this crate have in common.
pub use Rattle.sled_base.specs.Kinds.{log_kind_of}
pub use Rattle.sled_base.specs.Pointers.{offset_of}
pub use Rattle.sled_base.specs.declared.kinds.LogKind.{LogKind}
pub use Rattle.sled_base.specs.declared.kinds.MessageKind.{MessageKind}
pub use Rattle.sled_base.specs.declared.kinds.MessageKind.TheVariants.{Corrupted, InlineNode}
pub use Rattle.sled_base.specs.declared.types.DiskPtr.{DiskPtr}
pub use Rattle.sled_base.specs.declared.types.page_state.PageState.{PageState}
pub use Rattle.sled_log.specs.Events.{IsFair, is_cancelled, is_open, open_after}
pub use Rattle.sled_log.specs.Calls.{Called, Counts, HasCause, HasGrown, begun_by, is_write_fault, one_more}
pub use Rattle.sled_log.specs.Chains.{chains_with_new, chains_after, chains_from, chains_with_change, is_empty, is_freeing, chain_with_link}
pub use Rattle.sled_log.specs.Events.{Cancel, Change, Event, Pin, Seal, seen_event}
pub use Rattle.sled_log.specs.Inside.HoldingLaws.{holds-after, reads-left}
pub use Rattle.sled_log.specs.Inside.Items.{IsInOrder, items_settled_at, are_placed, is_placed, is_waiting, left_now, item_after_restart, item_settled_at, stands_at}
pub use Rattle.sled_log.specs.MemLog.Items.{WasLeft, entry_of, event_of, event_of_mark, log_size, named_by, named_in, pointer_at, size_of_mark, state_at, was_by, was_pending, was_stable}
pub use Rattle.sled_log.specs.MemLog.Kept.{KeptChange, LogItem, LogItem as KeptItem, Mark}
pub use Rattle.sled_log.specs.Inside.Laws.{Adds-none, Adds-then, CrashesSinceLeave-none, CrashesSinceLeave-then, IsFair-none, IsLeft-behind, IsLeft-cut, IsLeft-more, IsPrefix-all, IsPrefix-none, chains_after-append, is_open-Adds, now-Adds, open_after-append}
pub use Rattle.sled_log.specs.Limits.{head_size, most_count, size_limit}
pub use Rattle.sled_log.specs.LogState.{Adds, CrashesSinceLeave, IsLeft, LogState, now, unplaced_state}
pub use Rattle.sled_log.specs.Inside.Memory.{Remembers, last_in, mark_in, put_message, was_at}
pub use Rattle.sled_log.specs.MemLog.State.{clock_of, counts_of, kept_in, might_have_left, moves_of, state_of}
pub use Rattle.sled_log.specs.Messages.{Chain, Entry, Message, Messages, effect_of, effect_of_entry, kind_at, message, message_in, placed_entry, messages_of}
pub use Rattle.sled_log.specs.Pages.{IsAt, IsPageState, IsRead, IsReadAs, IsSized, said_of}
pub use Rattle.sled_log.specs.Inside.ReadingLaws.{one_content, one_update}
pub use Rattle.sled_log.specs.Inside.RunLaws.{Called-stop, CrashesSinceLeave-weaker, Ran, Ran-more, Ran-stop, append-events, call-added, call-stop, now-call, open-call, tells-call}
pub use Rattle.sled_log.specs.Runs.{can_make, can_make_all, events_of, events_of_all, leaves_open}
pub use Rattle.sled_log.specs.Inside.SeenLaws.{IsFair-seen, IsFair-unseen, IsLeft-seen}
pub use Rattle.sled_log.specs.Inside.Stored.{are_within, is_within, lies, blob_lies, size_of_stored, payload_size, pages_with, pages_after, before_mark, before_change, bare_event, bare_event_of, came_by, last_came, last_of, place_after, restarts, start_after}
pub use Rattle.sled_log.specs.MemLog.Stored.{kept_from, kept_item, kept_items, kept_mark, last_settled, part, payload_of, pointer_of, settled_at, settled_behind}
pub use Rattle.sled_log.specs.Inside.UnplacedLaws.{Adds-unplaced, opened-Adds}
pub use Rattle.sled_log.specs.Messages.{unplaced_events}
pub use Rattle.sled_log.specs.Inside.Walks.{stands-on, stands-still}
pub use Rattle.sled_log.specs.Inside.ZipLaws.{zip-append, zip-at, zip-set}
pub use Rattle.sled_log.specs.declared.log.LogError.{LogError}
pub use Rattle.sled_log.specs.declared.log.LogError.TheVariants.{Corruption, Full, Memory, ReadFault, WriteFault}
pub use Rattle.sled_log.specs.declared.memory.MemLog.{MemLog}
pub use Rattle.sled_log.specs.declared.memory.item.Held.{Held}
pub use Rattle.sled_log.specs.declared.memory.item.LogItem.{LogItem as StoredItem}
pub use Rattle.sled_log.specs.declared.memory.item.Mark.{Mark as StoredMark}
pub use Rattle.std.proofs.Common.{Bool, Err, IsSomeAnd, List, None, Ok, Option, Result, SFits, Some, [], add-one, ap, arith, cond, drop, false, get_or, inl, inr, is_none, leb, length, map, nat_le, nat_lt, not, of_z, option_copied, pos, refl, rules, set, slice_index_or, slice_set, subst, suc, sum, sym, take, to_z, true, w64, zero, ℕ, ℤ, ⊎_elim, ◌&&◌, ◌++◌, ◌+◌, ◌-◌, ◌<◌, ◌==◌, ◌^◌, ◌∙◌, ◌∷◌, ◌≡◌, ◌≤◌, ◌⊎◌}
pub use Rattle.std.proofs.Math.Seq.{drop-append_seam, drop-cons, take-add}
pub use Rattle.std.proofs.lemmas.Bool.{and_from, and_left, and_parts, and_right, cases_lt, eq-eqb, eqb-true, false≢true, le-leb, leb-false, leb-true, lt-leb, not_from_true, true≢false}
pub use Rattle.std.proofs.lemmas.Int.{to_z-of_z}
pub use Rattle.std.proofs.lemmas.List.{append-nil, drop-append-le, drop-map, drop_all, drop_more, get_or_default, length-append, length-drop, length-map, length-take-le, map-append, set_past, take-append-drop, take-append-le, take-map, take_all, take_more, take_rest}
pub use Rattle.std.proofs.lemmas.List.Elements.{All-from_recursion, filter-append}
pub use Rattle.std.proofs.lemmas.List.Sums.{sum-map, sum_by-append, sum_by-cons, sum_by-take-drop}
pub use Rattle.std.proofs.lemmas.Option.{get_or_from_slice_get, slice_get_read, slice_get_within}
pub use Rattle.std.proofs.lemmas.Result.{err_from_is_err_and, on_ok_weaker}
pub use Rattle.std.specs.Global.{Vec}
pub use Rattle.std.specs.List.{All, AllByRecursion, AllZip, Any, filter, list_all, slice_get, sum_by}
pub use Rattle.std.specs.List.Sorted.{IsNonDecreasingBy}
pub use Rattle.std.specs.Prelude.{OnOk, ⊤}
