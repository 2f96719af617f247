use Rattle.sled_log.proofs.Names.{◌≡◌, ◌+◌, ℕ, pos, List, [], ◌∷◌, ◌++◌, length, refl, sym, ◌∙◌, ap, subst, arith, true, Adds, Change, Full, state_of, kept_in, placed_entry, effect_of_entry, event_of_mark, mark_in, payload_of, pointer_of, put_message, head_size, blob_lies, err_from_is_err_and}
use Rattle.sled_log.specs.Inside.Blobs.{marks_of}
use Rattle.sled_log.proofs.Blobs.{held-put}
use Rattle.sled_log.proofs.MemCalls.{called_ok}
use Rattle.sled_log.proofs.Sizes.{chains-sized}
use Rattle.sled_log.proofs.Stored.{payload-length, pointer-same}
use Rattle.std.specs.Prelude.{IsErrOf}
use Rattle.sled_log.proofs.memory.MemLog.put.Goals.{After-said_at-said}
use Rattle.sled_log.proofs.memory.MemLog.put.Goals as goal

pub add-requires-clause-held : goal.add-requires-clause-held
add-requires-clause-held c = let self = c.args.self.now in rw c.in_ok-mark.ensures (held-put (marks_of (kept_in self)) self.bytes.items self.blob_limit self.size c.args.kind c.args.pid c.args.payload.now c.args.blob c.requires.held)

-- how long its payload is
long : (c : After-said_at-said) → length (payload_of c.args.self.now.bytes.items c.args.payload.now c.args.blob) ≡ c.payload_len-len.result
long c =
    let self = c.args.self.now in
    let ok = self.bytes.ok in
    payload-length self.bytes.items c.args.payload.now c.args.blob (subst (λ n. blob_lies n c.args.blob ≡ true) (omega arith) c.requires.lies) ∙ sym c.payload_len-len.ensures

pub returns-in_err-add-clause-full : goal.returns-in_err-add-clause-full
returns-in_err-add-clause-full c =
    let long = long (goal.at.returns-in_err-add-clause-full c).After-said_at-said in
    let sized = c.args.self.now.sized in
    let p = err_from_is_err_and c.from_residual-in_err-add.result c.from_residual-in_err-add.ensures.1 in
    (λ is. absurd (let none : IsErrOf c.from_residual-in_err-add.result Full → ⊥ = rw (p.1, p.2, c.in_err-add.ensures.only) (λ same. cc) in none is), λ over. absurd (omega arith))

-- its place, with the payload of the blob where it names one
place : (c : After-said_at-said) → c.said_at-said.result ≡ (pos c.args.self.now.size, pointer_of c.args.self.now.blob_limit c.args.self.now.size c.args.payload.now c.args.blob, head_size + length (payload_of c.args.self.now.bytes.items c.args.payload.now c.args.blob))
place c =
    let self = c.args.self.now in
    let payload : List ℕ = payload_of self.bytes.items c.args.payload.now c.args.blob in
    let long = long c in
    let size : head_size + c.payload_len-len.result ≡ head_size + length payload = omega arith in
    c.said_at-said.ensures payload size
    ∙ ap (λ n. (pos self.size, pointer_of self.blob_limit self.size payload c.args.blob, n)) size
    ∙ ap (λ p. (pos self.size, p, head_size + length payload)) (pointer-same self.blob_limit self.bytes.items self.size c.args.payload.now c.args.blob)

pub returns-clause-sized : goal.returns-clause-sized
returns-clause-sized c = chains-sized c.add.new.self

pub returns-clause-called : goal.returns-clause-called
returns-clause-called c =
    let self = c.args.self.now in
    called_ok self _ _ _ _ _ refl
    (subst (λ l. Adds effect_of_entry (state_of self) l (state_of c.add.new.self)) (ap (λ s. Change c.args.pid (placed_entry (put_message self c.args.kind c.args.blob c.args.payload.now) s) ∷ []) (sym (place (goal.at.returns-clause-called c).After-said_at-said))) (subst (λ m. Adds effect_of_entry (state_of self) (event_of_mark (mark_in self m c.args.payload.now) ∷ []) (state_of c.add.new.self)) c.in_ok-mark.ensures (c.in_ok-add.ensures.called.added tt)))
    c.add.ensures.past c.add.ensures.called.reads

pub returns-clause-moves : goal.returns-clause-moves
returns-clause-moves c =
    let self = c.args.self.now in
    let moves = c.in_ok-add.ensures.moves in
    record {
      settings = moves.settings;
      stable = moves.stable;
      ok = moves.ok ∙ ap (λ m. (state_of self).pending ++ event_of_mark (mark_in self m c.args.payload.now) ∷ []) c.in_ok-mark.ensures ∙ ap (λ s. (state_of self).pending ++ Change c.args.pid (placed_entry (put_message self c.args.kind c.args.blob c.args.payload.now) s) ∷ []) (sym (place (goal.at.returns-clause-moves c).After-said_at-said));
      err = tt;
    }

pub returns-clause-size : goal.returns-clause-size
returns-clause-size c = ap (λ s. s.2) (place (goal.at.returns-clause-size c).After-said_at-said)

pub returns-clause-fits : goal.returns-clause-fits
returns-clause-fits c =
    let at = (goal.at.returns-clause-fits c).After-said_at-said in
    let long = long at in
    let size = ap (λ s. s.2) (place at) in
    omega arith

pub returns-clause-lsn : goal.returns-clause-lsn
returns-clause-lsn c = ap (λ s. s.0) (place (goal.at.returns-clause-lsn c).After-said_at-said) ∙ ap pos c.args.self.now.sized

pub returns-clause-pointer : goal.returns-clause-pointer
returns-clause-pointer c =
    let self = c.args.self.now in
    ap (λ s. s.1) (place (goal.at.returns-clause-pointer c).After-said_at-said) ∙ ap (λ n. pointer_of self.blob_limit n c.args.payload.now c.args.blob) self.sized

pub returns-clause-full : goal.returns-clause-full
returns-clause-full c =
    let long = long (goal.at.returns-clause-full c).After-said_at-said in
    let sized = c.args.self.now.sized in
    (λ is. absurd cc, λ over. absurd (omega arith))
