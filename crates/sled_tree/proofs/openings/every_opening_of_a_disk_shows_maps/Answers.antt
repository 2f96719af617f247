use Rattle.sled_tree.proofs.openings.every_opening_of_a_disk_shows_maps.Goals as goal

pub returns : goal.returns
returns c = c.every_opening_shows_maps.ensures tt
