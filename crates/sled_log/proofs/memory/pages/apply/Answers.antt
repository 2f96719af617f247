use Rattle.sled_log.proofs.Names.{ℤ, ℕ, [], ◌∷◌, List, sym, ◌∙◌, ap, subst, arith, slice_index_or, on_ok_weaker, log_kind_of, DiskPtr, PageState, is_freeing, chains_with_change, chains_from, Change, effect_of_entry, IsPageState, zip-at}
use Rattle.sled_log.proofs.PageStates.{Shows, begun-shows, linked-shows, absent-shows}
use Rattle.sled_log.proofs.memory.pages.apply.Goals as goal

pub returns-in-Free : goal.returns-in-Free
returns-in-Free c =
    on_ok_weaker c.put.result
    (λ is chains entry kind said h.
    let frees = c.in-Free.ensures ∙ ap log_kind_of (sym kind) in
    subst (λ (l : List PageState). Shows (chains_from effect_of_entry chains (Change c.args.pid entry)) l) (sym is)
    (begun-shows _ chains c.args.pages.now.items c.args.pid entry _ (ap (λ k. chains_with_change effect_of_entry k chains c.args.pid entry) (sym frees)) h (rw c.freed.ensures (ap is_freeing (sym frees), ap (λ (s : ℤ × DiskPtr × ℕ). (s.0, s.1) ∷ []) said))))
    c.put.ensures

pub returns-in-Replace : goal.returns-in-Replace
returns-in-Replace c =
    on_ok_weaker c.put-in-Replace.result
    (λ is chains entry kind said h.
    let replaces = c.in-Replace.ensures ∙ ap log_kind_of (sym kind) in
    subst (λ (l : List PageState). Shows (chains_from effect_of_entry chains (Change c.args.pid entry)) l) (sym is)
    (begun-shows _ chains c.args.pages.now.items c.args.pid entry _ (ap (λ k. chains_with_change effect_of_entry k chains c.args.pid entry) (sym replaces)) h (ap is_freeing (sym replaces), rw c.new.ensures.items (ap (λ (s : ℤ × DiskPtr × ℕ). s ∷ []) said))))
    c.put-in-Replace.ensures

pub returns-in_ok-link-in-Link : goal.returns-in_ok-link-in-Link
returns-in_ok-link-in-Link c = λ chains entry kind said h.
    linked-shows _ chains c.args.pages.now.items c.args.pid entry _ (c.in-Link.ensures ∙ ap log_kind_of (sym kind)) h
    (c.in_ok-link-in-Link.ensures (slice_index_or chains c.args.pid []) entry said
    (let v = c.index_mut.ensures.value in let at = c.if-at-len.true in let l = c.len.ensures in subst (IsPageState (slice_index_or chains c.args.pid [])) (sym v) (zip-at IsPageState c.args.pid chains c.args.pages.now.items [] c.index_mut.result.now h (omega arith))))

pub returns-else-at-len : goal.returns-else-at-len
returns-else-at-len c = λ chains entry kind said h. absent-shows _ chains c.args.pages.now.items _ entry (c.in-Link.ensures ∙ ap log_kind_of (sym kind)) (let le = c.if-at-len.false in let l = c.len.ensures in omega arith) h
