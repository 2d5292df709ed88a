-- `buffer::decimal` goes down by its number.
use Rattle.buffer.proofs.+decimal.Given as goal

abbrev pub decreases-decimal : goal.decreases-decimal
decreases-decimal l = l.n
