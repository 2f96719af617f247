use Rattle.sled_disk.proofs.format.frame.push_record.Goals as goal

pub returns-clause-are_bytes : goal.returns-clause-are_bytes
returns-clause-are_bytes c = λ h. c.put-4.ensures.are_bytes (c.put-3.ensures.are_bytes (c.put-2.ensures.are_bytes (c.put.ensures.are_bytes h)))
