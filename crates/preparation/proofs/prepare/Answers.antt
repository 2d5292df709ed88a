-- `preparation::prepare` meets its contract.
use Rattle.std.proofs.Common.{◌≡◌, ◌∙◌, refl, ap, length, rules}
use Rattle.std.proofs.Math.Seq.{length-take-le}
use Rattle.pairs.specs.Storage.{storage_words}
use Rattle.pairs.proofs.Front.{front}
use Rattle.preparation.proofs.Front.{searched-front}
use Rattle.preparation.proofs.prepare.Goals as goal

pub returns : goal.returns
returns c =
    let d = c.search.ensures.searched in
    let e : c.unwrap-words.result.now ≡ front c.args.storage.now = search rules in
    record {
      searched = searched-front _ c.args.storage.now c.search.new.s _ _ refl (d.frame.same_length ∙ ap length e ∙ length-take-le storage_words _ c.requires.room) c.requires.room (rw e at d);
      exact_reach = c.search.ensures.exact_reach;
    }
