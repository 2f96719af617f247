-- The word is that of a call, of a mark, or of none.
use Rattle.std.proofs.Common.{◌≡◌, [], ◌∷◌, arith, codes, refl, subst, sym}
use Rattle.std.proofs.lemmas.Grind.{common_steps}
use Rattle.sled_pagecache.specs.declared.pagecache.handles.call.Call.TheVariants as calls
use Rattle.sled_node.specs.Node.{empty_leaf}
use Rattle.sled_script.specs.Commands.{Encodes, IsLeafOf}
use Rattle.sled_script.proofs.Commands.{no_word, six_bytes}
use Rattle.sled_script.proofs.Replied.{made_line, no_command_of_word, refused_line}
use Rattle.sled_script.proofs.line.serve_word.Goals as goal

pub returns-in-id-clause-replies : goal.returns-in-id-clause-replies
returns-in-id-clause-replies g c =
    let word : c.args.word.now ≡ codes "id" = grind (arith, common_steps) in
    let encodes : Encodes c.args.word.now calls.GenerateId = subst (λ line. Encodes line calls.GenerateId) (sym word) (omega arith, (codes "id" ∷ [], refl, refl)) in
    rw c.answered.ensures (made_line g.L.Log c.args.cache.now _ _ _ _ _ c.serve_id.result _ calls.GenerateId encodes c.serve_id.ensures)

pub returns-in-gc-clause-replies : goal.returns-in-gc-clause-replies
returns-in-gc-clause-replies g c =
    let word : c.args.word.now ≡ codes "gc" = grind (arith, common_steps) in
    let encodes : Encodes c.args.word.now calls.AttemptGc = subst (λ line. Encodes line calls.AttemptGc) (sym word) (omega arith, (codes "gc" ∷ [], refl, refl)) in
    rw c.answered-in-gc.ensures (made_line g.L.Log c.args.cache.now _ _ _ _ _ c.serve_gc.result _ calls.AttemptGc encodes c.serve_gc.ensures)

pub returns-in-amp-clause-replies : goal.returns-in-amp-clause-replies
returns-in-amp-clause-replies g c =
    let word : c.args.word.now ≡ codes "amp" = grind (arith, common_steps) in
    let encodes : Encodes c.args.word.now calls.SpaceAmplification = subst (λ line. Encodes line calls.SpaceAmplification) (sym word) (omega arith, (codes "amp" ∷ [], refl, refl)) in
    rw c.answered-in-amp.ensures (made_line g.L.Log c.args.cache.now _ _ _ _ _ c.serve_amp.result _ calls.SpaceAmplification encodes c.serve_amp.ensures)

pub returns-in-size-clause-replies : goal.returns-in-size-clause-replies
returns-in-size-clause-replies g c =
    let word : c.args.word.now ≡ codes "size" = grind (arith, common_steps) in
    let encodes : Encodes c.args.word.now calls.SizeOnDisk = subst (λ line. Encodes line calls.SizeOnDisk) (sym word) (omega arith, (codes "size" ∷ [], refl, refl)) in
    rw c.answered-in-size.ensures (made_line g.L.Log c.args.cache.now _ _ _ _ _ c.serve_size.result _ calls.SizeOnDisk encodes c.serve_size.ensures)

pub returns-in-alloc-clause-replies : goal.returns-in-alloc-clause-replies
returns-in-alloc-clause-replies g c =
    let word : c.args.word.now ≡ codes "alloc" = grind (arith, common_steps) in
    let leaf : IsLeafOf [] empty_leaf = record { bytes = tt; fits = record { ascending = tt; few = omega arith; keys = tt; items = tt }; leaf = refl } in
    let encodes : Encodes c.args.word.now (calls.Allocate empty_leaf) = subst (λ line. Encodes line (calls.Allocate empty_leaf)) (sym word) (omega arith, (codes "alloc" ∷ [], ([], leaf, refl), refl)) in
    rw c.answered-in-alloc.ensures (made_line g.L.Log c.args.cache.now _ _ _ _ _ c.serve_alloc_empty.result _ (calls.Allocate empty_leaf) encodes c.serve_alloc_empty.ensures)

pub returns-in-flush-clause-replies : goal.returns-in-flush-clause-replies
returns-in-flush-clause-replies g c =
    let word : c.args.word.now ≡ codes "flush" = grind (arith, common_steps) in
    let encodes : Encodes c.args.word.now calls.Flush = subst (λ line. Encodes line calls.Flush) (sym word) (omega arith, (codes "flush" ∷ [], refl, refl)) in
    rw c.answered-in-flush.ensures (made_line g.L.Log c.args.cache.now _ _ _ _ _ c.serve_flush.result _ calls.Flush encodes c.serve_flush.ensures)

pub returns-in-cancel-clause-replies : goal.returns-in-cancel-clause-replies
returns-in-cancel-clause-replies g c =
    let word : c.args.word.now ≡ codes "cancel" = six_bytes _ 99 97 110 99 101 108 (grind (arith, common_steps)) (grind (arith, common_steps)) (grind (arith, common_steps)) (grind (arith, common_steps)) (grind (arith, common_steps)) (grind (arith, common_steps)) (grind (arith, common_steps)) in
    rw word c.serve_mark-in-cancel.ensures.replies

pub returns-in_default-clause-replies : goal.returns-in_default-clause-replies
returns-in_default-clause-replies g c =
    let none = no_command_of_word _ c.requires (λ e. grind (arith, common_steps)) (λ e. grind (arith, common_steps)) (λ e. grind (arith, common_steps)) (λ call. no_word _ call (λ e. grind (arith, common_steps)) (λ e. grind (arith, common_steps)) (λ e. grind (arith, common_steps)) (λ e. grind (arith, common_steps)) (λ e. grind (arith, common_steps)) (λ e. grind (arith, common_steps))) in
    rw c.answered-in_default.ensures (refused_line g.L.Log c.args.cache.now _ _ _ _ _ c.refuse.result _ refl (λ asked is may. none asked is) c.refuse.ensures)
