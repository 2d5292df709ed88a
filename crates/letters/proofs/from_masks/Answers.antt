-- `letters::from_masks` meets its contract.
use mathlib.Core.Path.{sym, ◌∙◌}
use native.Mathlib.Omega.{arith}
use Rattle.letters.proofs.SetLaws.{masks-refused, masks-taken, mask-set}
use Rattle.letters.proofs.from_masks.Goals as goal

pub bad_masks-requires : goal.bad_masks-requires
bad_masks-requires c = c.if-m-gt6.false

pub returns-then-bad_masks : goal.returns-then-bad_masks
returns-then-bad_masks c =
    record {
      decided = masks-refused _ _ _ (omega arith) (c.if-m-gt6.false) (sym c.bad_masks.ensures ∙ c.if-bad_masks.true);
      result = tt;
    }

pub letters_of-requires : goal.letters_of-requires
letters_of-requires c = c.if-m-gt6.false

pub returns : goal.returns
returns c =
    let few = c.if-m-gt6.false in
    let good = sym c.bad_masks.ensures ∙ c.if-bad_masks.false in
    record {
      decided = masks-taken _ _ _ (omega arith) few good;
      result = mask-set _ _ _ _ few good (omega arith) c.letters_of.ensures;
    }
