-- Where the messages of a page are stored.
use Rattle.std.specs.Prelude.{false, [], ◌∷◌, nat_lt, vec_len, vec_capacity}
use Rattle.sled_pagecache.specs.Infos.{InfosView}
use Rattle.sled_pagecache.specs.declared.pagecache.table.infos.Places.{Places}
use Rattle.sled_pagecache.specs.declared.pagecache.table.infos.Places.TheVariants.{One, Several}

-- what contracts see of the places
abbrev pub view_of : Places → InfosView
view_of (One only) = record { items = only ∷ []; room = false }
view_of (Several all) = record { items = all.items; room = nat_lt (vec_len all) (vec_capacity all) }
