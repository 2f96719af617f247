-- The names that the proofs of this crate have in common.
pub use Rattle.sled_pagecache.proofs.Table.ByIds.{add-by-id, all-by-id, at-id, by-id-all, past-two, set-by-id, zip-first, zip-second}
pub use Rattle.sled_pagecache.proofs.Table.Lookups.{all-at, at-left, at-right, behind-own, content-own, holds-at, holds_now, kept-at, last-at, map-at, more-at, other-at, other-before, own-at, past-end, put-back, set-at, stands-full}
pub use Rattle.sled_base.proofs.LinkedLists.Linking.{get_set_other, get_set_there}
pub use Rattle.sled_base.specs.Containing.{contains_none}
pub use Rattle.sled_base.specs.Errors.{error_of, error_of as error_by}
pub use Rattle.sled_base.specs.Kinds.{log_kind_of}
pub use Rattle.sled_base.specs.Lru.{IsAccessed, IsListed, IsSound, IsUnused, Listing, Recency, listing, rounded}
pub use Rattle.sled_base.specs.LruLaws.{each-set, each_at, itself_is_listed, itself_stays, others_stay_or_leave}
pub use Rattle.sled_base.specs.Payloads.Numbers.{ReadsU64}
pub use Rattle.sled_base.specs.declared.kinds.LogKind.{LogKind}
pub use Rattle.sled_base.specs.declared.kinds.MessageKind.{MessageKind}
pub use Rattle.sled_base.specs.declared.types.Bug.TheVariants.{FreeInPull, LinkRefused}
pub use Rattle.sled_base.specs.declared.types.Device.TheVariants.{Read, Write}
pub use Rattle.sled_base.specs.declared.types.DiskPtr.TheVariants.{Blob, Inline}
pub use Rattle.sled_base.specs.declared.types.DiskPtr.{DiskPtr}
pub use Rattle.sled_base.specs.declared.types.Error.TheVariants.{CollectionNotFound, Unsupported}
pub use Rattle.sled_base.specs.declared.types.Error.{Error}
pub use Rattle.sled_base.specs.declared.types.Refusal.TheVariants.{Corruption, Io, OutOfMemory, ReportableBug}
pub use Rattle.sled_base.specs.declared.types.Refusal.{Refusal}
pub use Rattle.sled_base.specs.declared.types.Why.TheVariants.{BatchOpen, CapacityTooSmall, IdsUsedUp, IntervalZero, LogFull, NameTooLong, PagesUsedUp, ReservedId, SegmentZero, StampUsedUp, TooManyNames}
pub use Rattle.sled_base.specs.declared.types.Why.{Why}
pub use Rattle.sled_base.specs.declared.types.page_state.PageState.{PageState}
pub use Rattle.sled_log.proofs.Faulty.{called_over, called_unread, called_unwritten}
pub use Rattle.sled_log.specs.Events.{IsFair, is_cancelled, is_open, open_after}
pub use Rattle.sled_log.specs.Calls.{Called, Counts, HasGrown, begun_by as begun_of, is_write_fault as log_met_fault, one_more}
pub use Rattle.sled_log.specs.Chains.{chains_with_new as begin_page, chains_after, chains_from, chains_with_change, is_chain, is_empty, is_freeing, is_linking, chain_with_link, may_follow}
pub use Rattle.sled_log.specs.Contents.{Content, Counter, Damaged, Free, Link, Node, Put, Roots, Update, after_link, contents_after, contents_from, effect_of_update}
pub use Rattle.sled_log.specs.Events.{Cancel, Change, Event, Pin, Seal, seen_event}
pub use Rattle.sled_log.specs.Inside.HoldingLaws.{counts-read, holds-added, holds-after, holds-made, may-append}
pub use Rattle.sled_log.specs.Inside.Items.{left_now}
pub use Rattle.sled_log.specs.Inside.Laws.{Adds-none, AddsEvents-then, CrashKeeps-added, CrashKeeps-more, CrashesSinceLeave-none, IsFair-none, IsLeft-more, IsPrefix-all, IsPrefix-none, is_open-drop, now-Adds, open_after-append}
pub use Rattle.sled_log.specs.Limits.{head_size}
pub use Rattle.sled_log.specs.MemLog.State.{clock_of, counts_of, might_have_left, state_of}
pub use Rattle.sled_log.specs.Messages.{Chain, Entry, Message, Messages, blob_kind, effect_of, effect_of_entry, kind_at, message, message_in, placed_entry, messages_of}
pub use Rattle.sled_log.specs.Pages.{IsAt, IsPageState, IsReadAs, IsSized, freed_of, said_of}
pub use Rattle.sled_log.specs.Reading.{AreEvents, Decodes, Hold, Holds, IsEvent, IsUpdate, LeadTo, Makes, MayChange, MayCome}
pub use Rattle.sled_log.specs.Inside.ReadingLaws.{contents_after-append, events-append, events-take, one_content, one_update, reads-fair, reads-open, reads_effect}
pub use Rattle.sled_log.specs.Inside.RunLaws.{CrashesSinceLeave-weaker}
pub use Rattle.sled_log.specs.Inside.ShapeLaws.{AreChains, chains-are}
pub use Rattle.sled_log.specs.LogState.{CrashesSinceLeave, IsLeft, IsPrefix, LogState, now, now as log_now, unplaced_state}
pub use Rattle.sled_log.specs.Inside.UnplacedLaws.{Adds-unplaced, is_open-unplaced, now-unplaced}
pub use Rattle.sled_log.specs.Messages.{unplaced_events}
pub use Rattle.sled_log.specs.Reading.{CanWrite, message_of}
pub use Rattle.sled_log.specs.Inside.WritingLaws.{written-update}
pub use Rattle.sled_log.specs.Inside.ZipLaws.{zip-append, zip-at, zip-set}
pub use Rattle.sled_log.specs.declared.log.Log.{Ghosts}
pub use Rattle.sled_log.specs.declared.log.LogError.TheVariants.{ReadFault, WriteFault}
pub use Rattle.sled_log.specs.declared.log.LogError.{LogError}
pub use Rattle.sled_log.specs.declared.memory.MemLog.{MemLog}
pub use Rattle.sled_node.specs.Links.{Accepts, applied}
pub use Rattle.sled_node.specs.Node.{WholeNode, empty_leaf}
pub use Rattle.sled_node.specs.Payloads.Nodes.{ReadsNode}
pub use Rattle.sled_node.specs.Payloads.Roots.{ReadsRoots}
pub use Rattle.sled_pagecache.proofs.Steps.Refusals.{no_name, refused-is}
pub use Rattle.sled_pagecache.specs.Inside.PageEntry.{IsTouched, WasAccessed, capped_size}
pub use Rattle.sled_pagecache.specs.Inside.NewPages.{HasOneMore, RefusesPage}
pub use Rattle.sled_pagecache.specs.Inside.Appends.{Appended, MakesAppend, MakesNewPage, Puts, PutsOnNewPage, RefusesAppend, writer}
pub use Rattle.sled_pagecache.specs.Answers.{HasNoName, Keeps, NamesOnly, stamps_after_root_swap, stamps_with, stamps_after_swap}
pub use Rattle.sled_pagecache.specs.Logged.{AllById, FitsId}
pub use Rattle.sled_pagecache.specs.Cache.{Cache, IsAway, Represents, IsResident, KnowsLog, chain_length, chain_size}
pub use Rattle.sled_pagecache.specs.Calls.{ActOver, Acts, HasNoRoom, HasNoRoomAgain, IsBehind, IsBlamed, IsDone, IsDoneInEach, IsSameOpening, IsStep, StepOver, Steps}
pub use Rattle.sled_pagecache.specs.Due.{due_in, due_page, is_one_blob, lies_in, pointers_of, segment_of}
pub use Rattle.sled_pagecache.specs.Inside.PageMoves.{HoldsAgain, IsBlobOf, MovesOne, MovesOrNot, PutsAgain, RefusesOne, RefusesRewrite, pointers_in, reads_of}
pub use Rattle.sled_pagecache.specs.Moves.{AccessesNamed, AttemptsMove, MovesDue, RefusesMove, is_blob_at, is_there, reads_to_move}
pub use Rattle.sled_pagecache.specs.Inside.PageIn.{IsFoundAs, IsOnly}
pub use Rattle.sled_pagecache.specs.Cache.{chain_at}
pub use Rattle.sled_pagecache.specs.Memory.{count_after}
pub use Rattle.sled_pagecache.specs.Infos.{place_of}
pub use Rattle.sled_pagecache.specs.Step.{link_update}
pub use Rattle.sled_pagecache.specs.Damage.{MeetsDamage, ReportsDamage, ReportsWrong}
pub use Rattle.sled_pagecache.specs.Inside.RootWrites.{AreKeptRoots, FindsRoots, JudgesRoot, KeepsRoots, WritesMap}
pub use Rattle.sled_pagecache.specs.Inside.StickyLog.{IsCaused, IsOfLog, Went, begun_by, cache_answer, is_write_fault, is_write_fault as met_fault, mark_of}
pub use Rattle.sled_pagecache.specs.Inside.StickyLogLaws.{HasGrown-since, IsCaused-handed_on, IsCaused-since, Went-last, Went-none, Went-then, now-Went}
pub use Rattle.sled_pagecache.specs.Inside.TokenCheck.{IsFresh, IsRejected, Judges, answer_to, link_answer}
pub use Rattle.sled_pagecache.specs.Lending.{IsGot, lent_answer as answered}
pub use Rattle.sled_pagecache.specs.Limits.{batch_manifest_pid, chunk_length, chunk_length as fan, counter_pid, meta_pid, most_pages}
pub use Rattle.sled_pagecache.specs.Answers.{IsTested, TestsFirst}
pub use Rattle.sled_pagecache.specs.Inside.LinkWrites.{AppendsLink, HadNoRoom, MakesLink, RefusesAppended, RefusesLinkOf, RefusesUnappended, TakesLink, WasBegun, update_by}
pub use Rattle.sled_pagecache.specs.Inside.Loading.{AreFound, AreRead, AreRecovered, IsFoundAt, IsLoaded, IsOpenedWith, IsTable, IsUnread, RefusesOwn, RefusesPages, counter_event, events_at_start, events_of_roots, next_id, roots_event, stamps_at_start}
pub use Rattle.sled_pagecache.specs.Logged.{Adds, AreKept, IsLogged, Logged}
pub use Rattle.sled_pagecache.specs.Memory.{AccessesPage, AreListed, AreSized, HasNoNode, HasNode, IsBounded, KeepsMemory, EvictsAtMost, LeavesNodes, LeavesOthers, ListsResident, StaysAt}
pub use Rattle.sled_pagecache.specs.Inside.RecentUse.{FindsPage}
pub use Rattle.sled_pagecache.specs.Opening.{changes_of_start, fault_of, first_id, missing_pages, opened_state}
pub use Rattle.sled_pagecache.specs.Inside.PageTable.{AreFilled, IsPageTable, at_last, has_room, is_unfilled, pages_in, view_of}
pub use Rattle.sled_pagecache.specs.Table.{TableView}
pub use Rattle.sled_pagecache.specs.Inside.PageEntry.{HoldsChain, IsKept, access_size, free_ids, is_resident, node_access_size, size_if, size_in}
pub use Rattle.sled_pagecache.specs.Infos.{place_of_freeing}
pub use Rattle.sled_pagecache.specs.Table.{is_free}
pub use Rattle.sled_pagecache.specs.Inside.PageIn.{BringsIn, IsNodeAt, RefusesReading, sticky_log_of}
pub use Rattle.sled_pagecache.specs.Damage.{LeavesPages}
pub use Rattle.sled_pagecache.specs.Inside.Eviction.{move_behind, IsPagedOut, content_behind_eviction}
pub use Rattle.sled_pagecache.specs.Inside.LogCalls.{Comes, IsCutShort, LacksRoom, Proceeds, Reaches, TakesNoRoom, is_fault, refusal_in}
pub use Rattle.sled_pagecache.specs.Logged.{AreRoots, IsProper, IsUsers, StayProper}
pub use Rattle.sled_pagecache.specs.Inside.PageIn.{RefusesPull}
pub use Rattle.sled_pagecache.specs.Inside.PageIn.{Follows, Leads, RefusesFirst, RefusesMessage, found_message}
pub use Rattle.sled_pagecache.specs.Damage.{IsDamaged, IsFirstWrong, IsWrongAt, MakesNode}
pub use Rattle.sled_pagecache.specs.Memory.{HasRead, ReadsNothing, ReadsPage, own_among}
pub use Rattle.sled_pagecache.specs.Inside.Recovery.{AllFit, BeginsMisfit, IsRecovered, info_at, is_misfit, page_content_by}
pub use Rattle.sled_pagecache.specs.Reopening.{AreAfterPrefix, CrashReopens, HoldsCrash, ReopensTo, Started}
pub use Rattle.sled_pagecache.specs.Inside.SequenceLaws.{IsLonger, OnlyNow, left-now, made-row, none-came, one-longer, row-none, row-one, row-then, step-stuck}
pub use Rattle.sled_pagecache.specs.Infos.{stamps_to}
pub use Rattle.sled_pagecache.specs.Inside.SystemPages.{Starts}
pub use Rattle.sled_pagecache.specs.Opening.{HasAdded, IsBlamedOpening, IsFit, IsOpened, IsUnopened, LacksRoomFor, MayBeOpened, Opens, RefusesOpening, RanOutOfRoom, has_own, log_after, stable_state, stable_contents}
pub use Rattle.sled_pagecache.specs.Calls.{CrashLeaves}
pub use Rattle.sled_pagecache.specs.Memory.{IsHindrance}
pub use Rattle.sled_pagecache.specs.State.{StampedPage, State, contents_of, free_token, greatest_free, is_free as is_free_content, later_token, page, page_at, stamps_of, with_page}
pub use Rattle.sled_pagecache.specs.Step.{AddsPage, TidiesBehind, TidiesIfSwapped, Due, Moves, MovesContent, MovesPage, Tidies, WritesAgain, Allocates, Closes, Does, Fails, Finds, FindsContent, FindsRoot, Flushes, Frees, Generates, Gets, GetsIdgen, GetsMeta, HoldsCounter, HoldsRoots, IsCorruption, IsCounterAnd, IsGone, IsHindered, IsRefused, Links, LinksContent, LinksNode, Outcome, Pins, PutsCounter, PutsRoots, Reads, Replaces, ReusesPage, RootSwap, SetsRoot, Sizes, Swapped, Swaps, SwapsContent, SwapsPage, SwapsRoot, TellsRoot, UnlessFaulty, UnlessReserved, UnlessStale, with_batch_closed, interval_start, is_reserved, outcome, no_change, with_next_id}
pub use Rattle.sled_pagecache.specs.Inside.PageWrites.{CanPut, IsLinked, IsRaised, RefusesLink, RefusesSwap, WritesMessage, Wrote, content_of, roots_in, update_of}
pub use Rattle.sled_pagecache.specs.Answers.{linked_length}
pub use Rattle.sled_pagecache.specs.Inside.Invariant.{AreOwn, IsBeside, IsConsistent, IsCounter, IsFreeOrNode, IsOwnAt, IsRoots, nodes_in, resident_in, stamps_in}
pub use Rattle.sled_pagecache.specs.State.{IsAnswered, Token, pid_of, stamp_of, token}
pub use Rattle.sled_pagecache.specs.Inside.RecentUse.{AccessesNode, IsListedAt}
pub use Rattle.sled_pagecache.proofs.Memory.Accesses.{AllStay, FindsNode, LosesAtMost, TakesNode, TakesPage}
pub use Rattle.sled_pagecache.specs.declared.pagecache.memory.accesses.Accesses.{Accesses}
pub use Rattle.sled_pagecache.specs.declared.pagecache.handles.call.Answer.TheVariants.{Allocated, Amplified, Cancelled, Flushed, FoundRoot, Freed, Generated, Got, GotIdgen, GotMeta, Linked, Pinned, Replaced, RootSwapped, Sealed, Sized, TookSnapshot, AttemptedGc}
pub use Rattle.sled_pagecache.specs.declared.pagecache.handles.call.Answer.{Answer}
pub use Rattle.sled_pagecache.specs.declared.pagecache.handles.call.Call.TheVariants.{Allocate, CasRoot, Flush, GenerateId, Get, GetIdgen, GetMeta, MetaPidForName, Replace, SizeOnDisk, SpaceAmplification, TakeFuzzySnapshot, AttemptGc}
pub use Rattle.sled_pagecache.specs.declared.pagecache.table.page_entry.CacheInfo.{CacheInfo}
pub use Rattle.sled_pagecache.specs.declared.pagecache.handles.call.Call.{Call}
pub use Rattle.sled_pagecache.specs.declared.pagecache.handles.config.Config.{Config}
pub use Rattle.sled_pagecache.specs.declared.pagecache.write.sticky_log.StickyLog.{StickyLog}
pub use Rattle.sled_pagecache.specs.declared.pagecache.write.token_check.Rejection.TheVariants.{Gone, Refused, Stale}
pub use Rattle.sled_pagecache.specs.declared.pagecache.write.token_check.Rejection.{Rejection}
pub use Rattle.sled_pagecache.specs.declared.pagecache.table.page_entry.PageContent.{PageContent}
pub use Rattle.sled_pagecache.specs.declared.pagecache.table.page_entry.Page.{Page, Page as KeptPage}
pub use Rattle.sled_pagecache.specs.declared.pagecache.memory.reading.Found.{Found}
pub use Rattle.sled_pagecache.specs.declared.pagecache.handles.view.NodeView.{NodeView}
pub use Rattle.std.proofs.Common.{Bool, Bor, Equal, Err, Greater, Less, List, None, Ok, Option, Result, SFits, Some, [], add-one, ap, arith, below_more, cond, drop, eq-eqb, false, get_or, inl, inr, is_some, length, ltb, map, nat_lt, not, of_z, pos, refl, rules, set, slice_get, slice_index_or, slice_set, subst, suc, sym, take, to_z, true, vec_capacity, vec_len, w64, zero, zero-add, ℕ, ℤ, ⊎_elim, ◌%◌, ◌&&◌, ◌*◌, ◌++◌, ◌+◌, ◌-◌, ◌/◌, ◌<◌, ◌==◌, ◌^◌, ◌||◌, ◌∙◌, ◌∷◌, ◌≡◌, ◌≢◌, ◌≤◌, ◌⊎◌}
pub use Rattle.std.proofs.Math.Dec.{eqb}
pub use Rattle.std.proofs.Math.ListN.{get_or-map}
pub use Rattle.std.proofs.Math.Seq.{drop-append_seam, drop-nil, take-append_seam, take-nil}
pub use Rattle.std.proofs.lemmas.Bool.Decides.{eqb_tells, nat_tests}
pub use Rattle.std.proofs.lemmas.Bool.{and_from, and_parts, cases_Bool, cases_lt, cond-false, eqb-false, eqb-true, false_from_ne_true, false≢true, le-leb, le-ltb, lt-ltb, ltb-false, ltb-true, ne_eqb, or_parts, true≢false}
pub use Rattle.std.proofs.lemmas.Grind.{get_or_after_one}
pub use Rattle.std.proofs.lemmas.Int.{to_z-of_z}
pub use Rattle.std.proofs.lemmas.List.Elements.{Contains-append_cases, Contains-append_left, Contains-append_right}
pub use Rattle.std.proofs.lemmas.List.Quantifiers.{Any-push}
pub use Rattle.std.proofs.lemmas.List.Sums.{sum_by-cons, sum_by_push}
pub use Rattle.std.proofs.lemmas.List.{append-nil, append_assoc, drop-map, drop_all, drop_more, get_or-set_same, get_or_default, get_or_past, length-append, length-drop, length-map, length-replicate, length-set, length_push, map-append, map-set, nil_from_length, set-append_left, set-append_right, set-get_or, take-append-drop, take-map, take_all, take_more}
pub use Rattle.std.proofs.lemmas.Nat.{div-add-mod', le-div, mod_below}
pub use Rattle.std.proofs.lemmas.Option.{IfSome_then, get_or_from_slice_get, none-some, option_and_then_some, same_Some, slice_get-get_or, slice_get-map, slice_get_cases, slice_get_past, slice_get_read, slice_get_within}
pub use Rattle.std.proofs.lemmas.Result.{IfErr-weaker, IfOk-weaker, err_from_is_err_and, on_err_weaker, on_ok_weaker}
pub use Rattle.std.proofs.lemmas.Slice.Zip.{AllZip-long}
pub use Rattle.std.specs.Bool.{if◌then◌else◌}
pub use Rattle.std.specs.Global.{Vec}
pub use Rattle.std.specs.List.{All, AllByRecursion, AllZip, Any, list_all, sum_by}
pub use Rattle.std.specs.Option.{IfSome, option_and_then, option_map, unwrap_or}
pub use Rattle.std.specs.Prelude.{Contains, IfErr, IfOk, IsErrOf, IsOk, IsSomeAnd, MatchBool, MatchOption, OnErr, OnOk, min, replicate, ⊤}
pub use Rattle.std.specs.Result.{IsErrAnd, is_err}
pub use Rattle.std.specs.Slice.{IsItemAt}
pub use Rattle.std.specs.Vec.{with_item}
pub use Rattle.sled_pagecache.specs.Batches.{AreThoseOf, AreWithout, ClosesNone, RunsBatch, StandsInPart, StandsWhole, with_pin}
pub use Rattle.sled_pagecache.specs.Rows.{AreMade, AreSteps, CoversId, IsMade, IsRow, ReportsBytes, StepInRow, changes_of}
pub use Rattle.sled_pagecache.specs.Inside.Invariant.{IsCounted, IsWhole, CountsAgain, SparesCounter, StaysCounted}
pub use Rattle.sled_base.specs.Order.{Bytes}
pub use Rattle.sled_node.specs.declared.node.link.Link.{Link as NodeLink}
pub use Rattle.sled_pagecache.specs.Openings.{AreRising, Crashed, CrashedIn, CrashedRewriting, Ending, HandedOn, Rewritten, IsEmpty, IsRun, KeepIntervals, Lasted, Leaves, LeavesUnopened, Opening, id_in, ids_in, ids_of}
pub use Rattle.std.proofs.Math.Nat.{add-mul-div_right, div-mul-le_self, lt-div-mul-add, mul-le-mul_right, suc-mul}
pub use Rattle.sled_pagecache.specs.Answers.{GivesId, IsBelowCounter, IsCovered}
pub use Rattle.std.specs.BTreeSet.{insert_key}
pub use Rattle.std.specs.Ordering.{nat_cmp}
pub use Rattle.sled_pagecache.specs.Inside.Eviction.{AreOut, Evicts, IsOutAt, IsSettled, allocation_behind, answer_behind, cache_of, cache_of as view, left_pages, link_behind, lost_by, lost_pages}
pub use Rattle.sled_node.specs.Meta.{IsRootMap, changed_roots, root_of, with_root, without_root}
pub use Rattle.sled_pagecache.specs.Inside.CounterPage.{IsCounterIn, KeepsCounter}
pub use Rattle.std.specs.BTreeMap.{is_at}
pub use Rattle.std.specs.Set.{remove_key}
pub use Rattle.sled_pagecache.specs.declared.pagecache.handles.shape.Kind.{Kind}
pub use Rattle.sled_pagecache.specs.declared.pagecache.handles.shape.PageShape.{PageShape}
pub use Rattle.sled_pagecache.specs.Trees.{EndsSwap, FindsTree, GoesOnOver, GoesOnWith, IsKnown, IsTreeOpened, MadeCalls, MakesTree, NamesRoot, OpensTree, PutsIndex, TellsTree, Touches, index_over, stamps_after, stamps_then}
pub use Rattle.sled_pagecache.specs.Inside.TreeOpenings.{GoesOn, Looks}
pub use Rattle.sled_pagecache.specs.Inside.PageKinds.{shape_of_entry}
