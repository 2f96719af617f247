use Rattle.sled_pagecache.proofs.openings.every_opening_of_a_disk_shows_a_prefix.Goals as goal

pub returns : goal.returns
returns c = c.every_opening_shows_a_prefix.ensures tt
