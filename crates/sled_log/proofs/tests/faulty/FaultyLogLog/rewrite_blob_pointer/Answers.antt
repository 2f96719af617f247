use Rattle.sled_log.proofs.Names.{refl, arith}
use Rattle.sled_log.specs.declared.tests.faulty.FaultyLog.{FaultyLog}
use Rattle.sled_log.proofs.Faulty.{called_unwritten, called_behind, called_over}
use Rattle.sled_log.proofs.tests.faulty.FaultyLogLog.rewrite_blob_pointer.Goals as goal

pub returns-then-not-self-clause-called : goal.returns-then-not-self-clause-called
returns-then-not-self-clause-called c = called_unwritten (λ (log : FaultyLog). log.log) _ c.args.self.now _ _ _ _ c.requires.usable refl c.one_more-self.ensures refl refl

pub returns-then-fails-2-clause-called : goal.returns-then-fails-2-clause-called
returns-then-fails-2-clause-called c = called_behind (λ (log : FaultyLog). log.log) _ c.args.self.now _ _ _ _ c.requires.usable refl c.one_more-self-then-fails-2.ensures refl _ _ c.rewrite_blob_pointer-said.result c.rewrite_blob_pointer-said.ensures.called

pub returns-clause-called : goal.returns-clause-called
returns-clause-called c = called_over (λ (log : FaultyLog). log.log) _ c.args.self.now _ _ _ _ _ c.rewrite_blob_pointer-said.result c.requires.usable c.rewrite_blob_pointer-said.ensures.called (omega arith) (omega arith) refl
