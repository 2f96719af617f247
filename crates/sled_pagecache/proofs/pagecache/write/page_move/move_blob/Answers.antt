use Rattle.sled_pagecache.proofs.Names.{WasAccessed, capped_size, arith, ◌≡◌, DiskPtr, refused-is, Went, IsCaused-handed_on, Went-none, inr, subst, ℕ, ℤ, refl, rules, w64, to_z-of_z}
use Rattle.sled_pagecache.proofs.Links.LinkedChains.{begun-handed}
use Rattle.sled_pagecache.proofs.Moves.PageMoves.{blob-held, moved-blob, unmoved-blob}
use Rattle.sled_pagecache.proofs.pagecache.write.page_move.move_blob.Goals as goal

-- the access was refused
pub returns-in_default : goal.returns-in_default
returns-in_default g c =
    unmoved-blob g.L.Log c.args.writer.now.sticky_log c.args.writer.now.sticky_log c.args.pid c.args.page.now c.args.page.now c.args.blob c.requires.blob c.requires.there c.requires.kept c.requires.chain c.requires.sized (λ _. tt) (Went-none g.L.Log c.args.writer.now.sticky_log c.requires.ready.usable (g.met.L.Log.only_now _))
    (record { fault = c.requires.ready.clear; read = λ h. cc; write = λ h. cc; full = λ h. cc }) refl (λ _ _. refl) refl refl refl (search rules)

pub rewrite_blob_pointer-requires-clause-holds : goal.rewrite_blob_pointer-requires-clause-holds
rewrite_blob_pointer-requires-clause-holds g c = λ told.
    rw (to_z-of_z w64 c.args.blob (search rules)) (blob-held g.L.Log c.args.writer.now.sticky_log c.args.writer.now.sticky_log c.args.pid c.args.page.now c.args.page.now c.args.blob c.requires.blob c.requires.there c.requires.kept c.requires.chain c.requires.sized told)

-- the log refused it
pub returns-in_err-lsn : goal.returns-in_err-lsn
returns-in_err-lsn g c =
    let refused = c.in_err-lsn.ensures in
    let old = c.args.writer.now.sticky_log in
    let new = c.rewrite_blob_pointer.new.self in
    rw (refused-is c.from_residual.result _ c.from_residual.ensures.1)
    (unmoved-blob g.L.Log old new c.args.pid c.args.page.now c.args.page.now c.args.blob c.requires.blob c.requires.there c.requires.kept c.requires.chain c.requires.sized refused.sound (subst (Went g.L.Log old new) (begun-handed (ℤ × DiskPtr × ℕ) (Unit {0}) c.in_err-lsn.field-0.0 _) refused.went)
    (IsCaused-handed_on g.L.Log old new _ c.in_err-lsn.field-0.0 refused.cause) refused.reads refused.same refl refl refl (inr (_, c.in-Ok.ensures.accessed)))

pub returns : goal.returns
returns g c =
    let done = c.in_ok-lsn.ensures in
    let is = c.requires.blob in
    let same : c.first_info-log_size.result.log_size ≡ is.info.log_size = grind arith in
    moved-blob g.L.Log c.args.writer.now.sticky_log c.rewrite_blob_pointer.new.self c.args.pid c.args.page.now c.keep_moved.new.page c.args.blob c.requires.blob c.requires.there c.requires.kept c.requires.chain c.requires.sized _ done.chains done.size done.went done.cause.fault done.reads done.sized c.keep_moved.ensures.stamp c.keep_moved.ensures.infos
    refl (to_z-of_z w64 c.in_ok-lsn.lsn (search rules)) refl same c.keep_moved.ensures.kept (subst (λ n. WasAccessed c.args.writer.now.accesses c.args.pid (capped_size n) c.access.new.self) same c.in-Ok.ensures.accessed)
