-- The rewriting of a cache into another log.
pub mod CopiedPages
pub mod PutCopies
pub mod PageCopies
pub mod RewriteAnswers
