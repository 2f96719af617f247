use Rattle.std.proofs.Common.{Ok, Err, None, inl, inr, refl, sym, subst}
use Rattle.sled_base.specs.declared.types.Error.{Error}
use Rattle.sled_base.specs.declared.types.Error.TheVariants.{Corruption}
use Rattle.sled_pagecache.specs.Cache.{Cache}
use Rattle.sled_tree.specs.Changed.{Reads}
use Rattle.sled_tree.specs.Maps.{Keeps}
use Rattle.sled_tree.specs.Performs.{Performs}
use Rattle.sled_tree.specs.Walks.{HasRoot, Meets}
use Rattle.sled_tree.specs.declared.place.Met.TheVariants as met
use Rattle.sled_tree.proofs.Keeping.{still-keeps}
use Rattle.sled_tree.proofs.Rooming.{made-room, room-found, room-refused, searched}
use Rattle.sled_tree.proofs.room.room_for.Goals.{in-Full+in_ok-make_room-in-Full, in-Unled+in_ok-lead_right-in-Unled}
use Rattle.sled_tree.proofs.room.room_for.Goals as goal

pub searches-init : goal.searches-init
searches-init g c = still-keeps g.L.Log

pub returns-in-Leaf : goal.returns-in-Leaf
returns-in-Leaf g c =
    let found : Performs g.L.Log (Reads {E = Error} (Ok (met.Leaf c.in-Leaf.place)) (λ pages m. Meets pages c.args.root c.args.key.now m)) c.searches.cache c.seek.new.cache = rw c.in-Leaf.is at c.in_ok-place.ensures in
    room-found g.L.Log c.args.root c.args.key.now c.in-Leaf.place c.args.cache.now c.searches.cache c.seek.new.cache c.searches.invariant found

pub returns-in_err-place : goal.returns-in_err-place
returns-in_err-place g c =
    room-refused g.L.Log c.args.root c.args.key.now c.from_residual.result c.from_residual.ensures.0 c.args.cache.now c.seek.new.cache
    (searched g.L.Log c.args.root c.args.key.now c.seek.result c.args.cache.now c.searches.cache c.seek.new.cache c.searches.invariant c.seek.ensures)

pub searches-preserved : goal.searches-preserved
searches-preserved g c =
    let old = c.args.cache.now in
    let seen = c.seek.new.cache in
    elim c.match-branch-2.branch [
      | in-Full+in_ok-make_room-in-Full w ↦ subst (λ (cache : Cache g.row.L.Denot). Performs g.L.Log (Keeps (HasRoot c.args.root)) old cache) (sym w.cache-is)
          (made-room g.L.Log c.args.root c.args.key.now w.in-Full.above w.in-Full.page c.in_ok-place.field-0 old c.searches.cache seen w.make_room.new.cache (inl w.in-Full.is) c.searches.invariant c.in_ok-place.ensures w.make_room.ensures)
      | in-Unled+in_ok-lead_right-in-Unled w ↦ subst (λ (cache : Cache g.row.L.Denot). Performs g.L.Log (Keeps (HasRoot c.args.root)) old cache) (sym w.cache-is)
          (made-room g.L.Log c.args.root c.args.key.now w.in-Unled.above w.in-Unled.page c.in_ok-place.field-0 old c.searches.cache seen w.lead_right.new.cache (inr w.in-Unled.is) c.searches.invariant c.in_ok-place.ensures w.lead_right.ensures)
    ]

pub returns-in_err-make_room-in-Full : goal.returns-in_err-make_room-in-Full
returns-in_err-make_room-in-Full g c =
    room-refused g.L.Log c.args.root c.args.key.now c.from_residual-in_err-make_room-in-Full.result c.from_residual-in_err-make_room-in-Full.ensures.0 c.args.cache.now c.make_room.new.cache
    (made-room g.L.Log c.args.root c.args.key.now c.in-Full.above c.in-Full.page c.in_ok-place.field-0 c.args.cache.now c.searches.cache c.seek.new.cache c.make_room.new.cache (inl c.in-Full.is) c.searches.invariant c.in_ok-place.ensures c.make_room.ensures)

pub returns-in_err-lead_right-in-Unled : goal.returns-in_err-lead_right-in-Unled
returns-in_err-lead_right-in-Unled g c =
    room-refused g.L.Log c.args.root c.args.key.now c.from_residual-in_err-lead_right-in-Unled.result c.from_residual-in_err-lead_right-in-Unled.ensures.0 c.args.cache.now c.lead_right.new.cache
    (made-room g.L.Log c.args.root c.args.key.now c.in-Unled.above c.in-Unled.page c.in_ok-place.field-0 c.args.cache.now c.searches.cache c.seek.new.cache c.lead_right.new.cache (inr c.in-Unled.is) c.searches.invariant c.in_ok-place.ensures c.lead_right.ensures)

pub returns : goal.returns
returns g c = room-refused g.L.Log c.args.root c.args.key.now {E = Error} (Err (Corruption None)) refl c.args.cache.now c.searches.cache c.searches.invariant
