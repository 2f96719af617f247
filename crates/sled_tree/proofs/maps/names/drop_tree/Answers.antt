use Rattle.std.proofs.Common.{List, None, Ok, Some, subst}
use Rattle.sled_base.specs.declared.types.Error.{Error}
use Rattle.sled_pagecache.specs.State.{Token}
use Rattle.sled_tree.specs.Changed.{Reads}
use Rattle.sled_tree.specs.Dropping.{AreLoose, AreReached, IsRootOf}
use Rattle.sled_tree.specs.Maps.{Keeps}
use Rattle.sled_tree.specs.Performs.{Performs}
use Rattle.sled_tree.specs.declared.error.TreeError.{TreeError}
use Rattle.sled_tree.proofs.Dropping.{drops, drops-absent, drops-failed, drops-none, looks}
use Rattle.sled_tree.proofs.Performing.{reads-quiet, reads-so}
use Rattle.sled_tree.proofs.maps.names.drop_tree.Goals as goal

pub returns-clause-maps : goal.returns-clause-maps
returns-clause-maps g c =
    let name = c.args.name.now in
    let root = c.in-Some.root in
    let pages = c.in_ok-pages.pages in
    let old = c.args.cache.now in
    let looked = c.pages_of.new.cache in
    let mid = c.unname.new.cache in
    let new = c.free_all.new.cache in
    let named : Performs g.L.Log (Reads {E = Error} (Ok (Some root)) (IsRootOf name)) old old = rw c.in-Some.is at c.in_ok-root.ensures in
    let frees = subst (λ (tokens : List Token). Performs g.L.Log (Keeps (AreLoose tokens)) mid new) c.deref.ensures.value c.free_all.ensures in
    drops g.L.Log name root pages.items {E = Error} {F = TreeError} c.in_ok-unname.field-0 old looked mid new (looks g.L.Log name {E = Error} root pages old old looked named c.in_ok-pages.ensures) c.in_ok-unname.ensures frees

pub returns-in_err-unname-clause-maps : goal.returns-in_err-unname-clause-maps
returns-in_err-unname-clause-maps g c =
    let name = c.args.name.now in
    let root = c.in-Some.root in
    let pages = c.in_ok-pages.pages in
    let old = c.args.cache.now in
    let looked = c.pages_of.new.cache in
    let new = c.unname.new.cache in
    let result = c.from_residual-in_err-unname.result in
    let e = c.in_err-unname.field-0.0 in
    let named : Performs g.L.Log (Reads {E = Error} (Ok (Some root)) (IsRootOf name)) old old = rw c.in-Some.is at c.in_ok-root.ensures in
    drops-failed g.L.Log name root pages.items {T = Unit {0}} e result c.from_residual-in_err-unname.ensures.0 old looked new (looks g.L.Log name {E = Error} root pages old old looked named c.in_ok-pages.ensures) c.in_err-unname.ensures

pub returns-in_default-clause-maps : goal.returns-in_default-clause-maps
returns-in_default-clause-maps g c =
    let name = c.args.name.now in
    let old = c.args.cache.now in
    let absent : Performs g.L.Log (Reads {E = Error} (Ok None) (IsRootOf name)) old old = rw c.in_default.is at c.in_ok-root.ensures in
    drops-absent g.L.Log name {E = TreeError} old old (reads-so g.L.Log {E = Error} (IsRootOf name) old old None absent)

pub returns-in_err-root-clause-maps : goal.returns-in_err-root-clause-maps
returns-in_err-root-clause-maps g c =
    let name = c.args.name.now in
    let old = c.args.cache.now in
    let result = c.from_residual.result in
    drops-none g.L.Log name result c.from_residual.ensures.0 old old (reads-quiet g.L.Log (IsRootOf name) c.root_at.result old old c.root_at.ensures)

pub returns-in_err-pages-clause-maps : goal.returns-in_err-pages-clause-maps
returns-in_err-pages-clause-maps g c =
    let name = c.args.name.now in
    let root = c.in-Some.root in
    let old = c.args.cache.now in
    let new = c.pages_of.new.cache in
    let result = c.from_residual-in_err-pages.result in
    drops-none g.L.Log name result c.from_residual-in_err-pages.ensures.0 old new (reads-quiet g.L.Log (λ pages found. AreReached root found.items pages) c.pages_of.result old new c.pages_of.ensures)
