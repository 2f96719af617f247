-- The log sizes of the chains of the log in memory.
use Rattle.sled_log.proofs.Names.{◌≡◌, ◌<◌, ℕ, List, [], ◌∷◌, map, refl, sym, subst, arith, AllByRecursion, sum_by-cons, chains_after, event_of_mark, event_of, size_of_mark, log_size, state_at, size_limit, kept_in, Entry, Chain, effect_of_entry, IsSized, now, MemLog, LogItem, Mark}
use Rattle.sled_log.proofs.ChainLaws.{Says, chains-all}
use Rattle.sled_log.specs.Messages as messages
use Rattle.sled_log.proofs.SizeLaws.{chain_size, chains_size, event_size, events_size, chains_after-size, each-below}
use Rattle.sled_log.specs.MemLog.Kept as kept
use Rattle.sled_log.proofs.Moments.{now_is}

abbrev place_size : Entry → ℕ
place_size entry = entry.place.log_size

abbrev IsExact : Entry → Type 0
IsExact entry = entry.place.log_size ≡ messages.message_size entry.message

mark-size : (mark : Mark) → event_size effect_of_entry place_size (event_of_mark mark) ≡ size_of_mark mark
mark-size (kept.Change change) = refl
mark-size kept.Pin = refl
mark-size kept.Seal = refl
mark-size kept.Cancel = refl

-- the events of items are as large as the items
items-size : (items : List LogItem) → events_size effect_of_entry place_size (map event_of items) ≡ log_size items
items-size [] = refl
items-size (item ∷ items) =
    omega (arith, sum_by-cons (event_size effect_of_entry place_size) (event_of item) (map event_of items), sum_by-cons (λ (item : LogItem). size_of_mark item.mark) item items, mark-size item.mark, items-size items)

mark-exact : (mark : Mark) → Says effect_of_entry IsExact (event_of_mark mark)
mark-exact (kept.Change change) = refl
mark-exact kept.Pin = tt
mark-exact kept.Seal = tt
mark-exact kept.Cancel = tt

items-exact : (items : List LogItem) → AllByRecursion (Says effect_of_entry IsExact) (map event_of items)
items-exact [] = tt
items-exact (item ∷ items) = (mark-exact item.mark, items-exact items)

both : (chains : List Chain) → AllByRecursion (AllByRecursion IsExact) chains → AllByRecursion (λ chain. chain_size effect_of_entry place_size chain < size_limit) chains → AllByRecursion IsSized chains
both [] each total = tt
both (chain ∷ chains) each total = (record { each = each.0; total = total.0 }, both chains each.1 total.1)

-- its messages together are smaller than the limit, so each chain is
pub chains-sized : (log : MemLog) → AllByRecursion IsSized (now effect_of_entry (state_at log.clock (kept_in log)))
chains-sized log =
    let items = kept_in log in
    let chains : List Chain = chains_after effect_of_entry [] (map event_of items) in
    let small : chains_size effect_of_entry place_size chains < size_limit =
    (let most = chains_after-size effect_of_entry place_size [] (map event_of items) in let all = items-size items in let sized = log.sized in let fits = log.fits in omega (arith, most, all, sized, fits)) in
    subst (AllByRecursion IsSized) (sym (now_is log.clock log.stable items log.in_order))
    (both chains (chains-all effect_of_entry IsExact [] (map event_of items) tt (items-exact items)) (each-below effect_of_entry place_size (size_limit) chains small))
