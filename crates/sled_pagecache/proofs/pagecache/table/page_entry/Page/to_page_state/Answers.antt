use Rattle.sled_pagecache.proofs.Names.{◌∷◌, ◌≡◌, ◌-◌, ◌∙◌, length, map, take, drop, sym, arith, length-drop, take_all, place_of}
use Rattle.sled_pagecache.proofs.pagecache.table.page_entry.Page.to_page_state.Goals as goal

pub returns : goal.returns
returns c =
    let infos = c.args.self.now.infos.items in
    let first = c.first_info-first in
    let all : map place_of infos ≡ place_of first.result ∷ map place_of (drop 1 infos) = grind (arith, first.ensures) in
    let rest : take (length infos - 1) (drop 1 infos) ≡ drop 1 infos = take_all (length infos - 1) (drop 1 infos) (omega (arith, length-drop 1 infos)) in
    let frags : c.in_ok-frags.frags.items ≡ map place_of (drop 1 infos) = cc (c.in_ok-frags.ensures, c.cache_infos.ensures, rest) in
    (sym c.is_free.ensures ∙ c.if-is_free.false, cc)
