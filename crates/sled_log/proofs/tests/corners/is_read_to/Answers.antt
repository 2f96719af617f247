-- The last message of a recovered page is one of the page's chain.
use Rattle.sled_log.proofs.Names.{rules, ◌≡◌, SFits, w64, to_z, of_z, List, [], slice_index_or, sym, subst, Any, AllZip, to_z-of_z, PageState, now-Adds, now, state_of, Chain, effect_of_entry, IsAt, IsPageState, zip-at}
use Rattle.sled_log.proofs.tests.corners.is_read_to.Goals as goal

pub read_to-requires : goal.read_to-requires
read_to-requires c =
    let old = state_of c.args.log.now in
    let new = state_of c.recover.new.self in
    let ensures = c.in_ok-pages.ensures in
    let same : now effect_of_entry new ≡ now effect_of_entry old = now-Adds effect_of_entry old new [] (ensures.called.added tt) in
    let lookup = c.in-Some.ensures.lookup in
    let page = c.in-Some.page.now in
    let pages = c.deref.result.now in
    let zipped = subst (λ (l : List PageState). AllZip IsPageState (now effect_of_entry old) l) (sym c.deref.ensures.value) ensures.pages in
    let shape : IsPageState (slice_index_or (now effect_of_entry old) c.args.pid []) page = subst (IsPageState (slice_index_or (now effect_of_entry old) c.args.pid [])) (sym lookup.1) (zip-at IsPageState c.args.pid (now effect_of_entry old) pages [] page zipped lookup.3.0) in
    let fits : SFits w64 c.last_of-lsn.result.0 = search rules in
    record { known = subst (λ (l : List Chain). Any (IsAt (to_z w64 (of_z w64 c.last_of-lsn.result.0)) c.last_of-lsn.result.1) (slice_index_or l c.args.pid [])) (sym same) (rw (to_z-of_z w64 c.last_of-lsn.result.0 fits) (c.last_of-lsn.ensures _ shape)) }
