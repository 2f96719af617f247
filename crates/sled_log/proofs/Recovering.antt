-- What recovery has made of the items so far.
use Rattle.sled_log.proofs.Names.{◌≡◌, ◌+◌, ◌-◌, ℕ, true, List, [], ◌∷◌, length, map, refl, sym, ◌∙◌, ap, subst, arith, pos, ℤ, and_parts, eqb-true, sum_by-cons, MessageKind, DiskPtr, PageState, chains_from, chains_after, Change, head_size, Option, Held, payload_of, pointer_of, entry_of, event_of_mark, event_of, size_of_mark, log_size, stands_at, are_placed, Mark, LogItem, Entry, Chain, effect_of_entry, said_of, part, kept_mark, kept_item, kept_from, settled_at, StoredItem, StoredMark}
use Rattle.sled_log.specs.declared.memory.item.Mark.TheVariants as stored
use Rattle.sled_log.proofs.PageStates.{Shows}
use Rattle.sled_log.proofs.Stored.{pointer-same}

-- the pages show the chains so far, from which the items that are left lead to those of all
pub record IsRecovering (limit : ℕ) (bytes : List ℕ) (last : Option ℕ) (items : List StoredItem) (place : ℕ) (rest : List StoredItem) (pages : List PageState) : Type 0 where
  pub start : ℕ
  pub chains : List Chain
  pub shows : Shows chains pages
  pub leads : chains_after effect_of_entry chains (map event_of (kept_from limit bytes last place start rest)) ≡ chains_after effect_of_entry [] (map event_of (kept_from limit bytes last 0 0 items))
  pub placed : are_placed place (kept_from limit bytes last place start rest) ≡ true
  pub sized : place + log_size (kept_from limit bytes last place start rest) ≡ log_size (kept_from limit bytes last 0 0 items)

module _ (limit : ℕ) (bytes : List ℕ) (last : Option ℕ) (items : List StoredItem) where
  pub recovers-none : are_placed 0 (kept_from limit bytes last 0 0 items) ≡ true → IsRecovering limit bytes last items 0 items []
  recovers-none placed = record { start = 0; chains = []; shows = tt; leads = refl; placed = placed; sized = omega arith }

  -- what an item keeps, and where it ends
  pub item-at : (place start : ℕ) (x : StoredItem) (rest : List StoredItem) → are_placed place (kept_from limit bytes last place start (x ∷ rest)) ≡ true
      → (x.end ≡ place + size_of_mark (kept_mark limit bytes place (part start x.payload_end bytes) x.mark)) × (are_placed x.end (kept_from limit bytes last x.end x.payload_end rest) ≡ true)
  item-at place start x rest all =
      let a = and_parts _ _ all in
      let b = and_parts (stands_at place (kept_mark limit bytes place (part start x.payload_end bytes) x.mark)) _ a.0 in
      (eqb-true x.end (place + size_of_mark (kept_mark limit bytes place (part start x.payload_end bytes) x.mark)) b.1, a.1)

  -- one item more
  pub recovers-more : {place : ℕ} {x : StoredItem} {rest : List StoredItem} {before pages : List PageState} → (so_far : IsRecovering limit bytes last items place (x ∷ rest) before)
      → Shows (chains_from effect_of_entry so_far.chains (event_of_mark (kept_mark limit bytes place (part so_far.start x.payload_end bytes) x.mark))) pages → IsRecovering limit bytes last items x.end rest pages
  recovers-more {place} {x} {rest} so_far shows =
      let mark : Mark = kept_mark limit bytes place (part so_far.start x.payload_end bytes) x.mark in
      let at = item-at place so_far.start x rest so_far.placed in
      record {
        start = x.payload_end;
        chains = chains_from effect_of_entry so_far.chains (event_of_mark mark);
        shows = shows;
        leads = so_far.leads;
        placed = at.1;
        sized = let s = so_far.sized in omega (arith, at.0, s, sum_by-cons (λ (item : LogItem). size_of_mark item.mark) (kept_item limit bytes place (part so_far.start x.payload_end bytes) (settled_at last x.came rest) x) (kept_from limit bytes last x.end x.payload_end rest));
      }

  -- a mark changes no page
  pub recovers-mark : {place : ℕ} {x : StoredItem} {rest : List StoredItem} {pages : List PageState} → IsRecovering limit bytes last items place (x ∷ rest) pages → ((kind : _) (pid : ℕ) (blob : Option Held) → x.mark ≡ stored.Change kind pid blob → ⊥) → IsRecovering limit bytes last items x.end rest pages
  recovers-mark {place} {x} {rest} {pages} so_far none = recovers-more so_far (by x.mark none)
    where
      by : (mark : StoredMark) → ((kind : _) (pid : ℕ) (blob : Option Held) → mark ≡ stored.Change kind pid blob → ⊥) → Shows (chains_from effect_of_entry so_far.chains (event_of_mark (kept_mark limit bytes place (part so_far.start x.payload_end bytes) mark))) pages
      by (stored.Change kind pid blob) none = absurd (none kind pid blob refl)
      by stored.Pin none = so_far.shows
      by stored.Seal none = so_far.shows
      by stored.Cancel none = so_far.shows

  -- a message shows on its page
  pub recovers-change : {place : ℕ} {x : StoredItem} {rest : List StoredItem} {before pages : List PageState} → IsRecovering limit bytes last items place (x ∷ rest) before
      → (kind : MessageKind) (pid : ℕ) (blob : Option Held) → x.mark ≡ stored.Change kind pid blob → (said : ℤ × DiskPtr × ℕ)
      → ((payload : List ℕ) → x.end - place ≡ head_size + length payload → said ≡ (pos place, pointer_of limit place payload blob, x.end - place))
      → ((chains : List Chain) (entry : Entry) → entry.message.kind ≡ kind → said_of entry ≡ said → Shows chains before → Shows (chains_from effect_of_entry chains (Change pid entry)) pages)
      → IsRecovering limit bytes last items x.end rest pages
  recovers-change {place} {x} {rest} {before} {pages} so_far kind pid blob is said said_is applied =
      let own : List ℕ = part so_far.start x.payload_end bytes in
      let payload : List ℕ = payload_of bytes own blob in
      let entry : Entry = entry_of (record { kind = kind; pid = pid; payload = payload; lsn = pos place; pointer = pointer_of limit place own blob }) in
      let size : size_of_mark (kept_mark limit bytes place own x.mark) ≡ head_size + length payload = ap (λ m. size_of_mark (kept_mark limit bytes place own m)) is in
      let e : x.end - place ≡ head_size + length payload = (let at = (item-at place so_far.start x rest so_far.placed).0 in omega (arith, at, size)) in
      let told : said_of entry ≡ said = sym (said_is payload e ∙ ap (λ n. (pos place, pointer_of limit place payload blob, n)) e ∙ ap (λ p. (pos place, p, head_size + length payload)) (pointer-same limit bytes place own blob)) in
      recovers-more so_far
      (subst (λ (m : StoredMark). Shows (chains_from effect_of_entry so_far.chains (event_of_mark (kept_mark limit bytes place own m))) pages) (sym is) (applied so_far.chains entry refl told so_far.shows))
