-- The answers that a reply borrows, as answers.
use Rattle.sled_pagecache.specs.Lending.{lent_answer}
use Rattle.sled_pagecache.specs.declared.pagecache.handles.call.Answer.{Answer}
use Rattle.sled_pagecache.specs.declared.pagecache.handles.call.Answer.TheVariants.{Allocated, Got, Replaced, Freed, FoundRoot, RootSwapped, Generated, Flushed, Sized, Amplified, AttemptedGc}
use Rattle.sled_script.specs.declared.reply.LentAnswer.{LentAnswer}
use Rattle.sled_script.specs.declared.reply.LentAnswer.TheVariants as lent

abbrev pub answer_of : LentAnswer → Answer
answer_of (lent.Allocated answer) = Allocated answer.now
answer_of (lent.Got answer) = Got (lent_answer answer)
answer_of (lent.Replaced answer) = Replaced answer.now
answer_of (lent.Freed answer) = Freed answer.now
answer_of (lent.FoundRoot answer) = FoundRoot answer.now
answer_of (lent.RootSwapped answer) = RootSwapped answer.now
answer_of (lent.Generated answer) = Generated answer.now
answer_of (lent.Flushed answer) = Flushed answer.now
answer_of (lent.Sized answer) = Sized answer.now
answer_of (lent.Amplified answer) = Amplified answer.now
answer_of (lent.AttemptedGc answer) = AttemptedGc answer.now
