-- The theorem is `OneBook`.
use Rattle.claims.proofs.BookLaws.{one-book}
use Rattle.claims.proofs.one_book.Goals as goal

pub returns : goal.returns
returns c = one-book
