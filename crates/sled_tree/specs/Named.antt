-- The maps of a cache, and their names.
use Rattle.std.specs.Prelude.{◌≡◌, ℕ, List, [], Some, slice_get}
use Rattle.sled_base.specs.Order.{Bytes}
use Rattle.sled_log.specs.Contents.{Content, Roots}
use Rattle.sled_node.specs.Meta as meta
use Rattle.sled_pagecache.specs.Limits.{meta_pid}
use Rattle.sled_search.specs.Map.{Map}
use Rattle.sled_search.specs.Maps.{Maps, AreTrees, with_map}

-- the page of the root of each name, and the map at each such page
pub record Named : Type 0 where
  pub names : meta.Roots
  pub maps : Maps

-- the page of the names has these names, and the trees are these maps, which share no page
pub record AreNamed (pages : List Content) (w : Named) : Type 0 where
  pub names : slice_get pages meta_pid ≡ Some (Roots w.names)
  pub trees : AreTrees pages w.maps

-- the same names and maps, but with this map at a root
abbrev pub with_map_at : ℕ → Map → Named → Named
with_map_at root m w = record w { maps = with_map root m w.maps }

-- the names and maps with one more, an empty map and its name
abbrev pub with_new : Bytes → ℕ → Named → Named
with_new name root w = record { names = meta.with_root name root w.names; maps = with_map root [] w.maps }
