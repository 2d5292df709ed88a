-- A byte goes on with its line, and a line feed with the next line or to the end of the run.
use Rattle.std.proofs.Common.{◌+◌, arith}
use Rattle.protocol.proofs.Feeding.{seen_more, wrote-more, byte_more, line-more, line-over, over_all}
use Rattle.protocol.proofs.feed_running.Goals as goal

pub loop-b-preserved-then-b-line_feed : goal.loop-b-preserved-then-b-line_feed
loop-b-preserved-then-b-line_feed c = record {
  room = omega (arith, c.loop-b.invariant.room);
  way = λ sheet seen wrote o m.
      rw (seen_more seen c.args.chunk.now c.loop-b.b-index c.loop-b-test.true)
      (byte_more sheet _ _ _ _ _ _ (c.loop-b.invariant.way sheet seen wrote o m) _ _ c.if-b-line_feed.true c.scan-pending.ensures.scanned);
  in_table = c.scan-pending.ensures.in_table;
}

pub returns-in_default-clause-goes : goal.returns-in_default-clause-goes
returns-in_default-clause-goes c = λ sheet seen wrote st.
    let m = c.loop-b.invariant.way sheet seen wrote st.accepts st.stage in
    let le = c.line_end-e.ensures.ended sheet m.book m.part st.accepts m.serves (c.asked-meaning.ensures m.part m.scanned) in
    record {
      accepts = st.accepts;
      stage = rw (wrote-more wrote _ _ le.text _ _ le.wrote)
          (over_all sheet seen c.args.chunk.now _ (c.loop-b.b-index + 1)
          (rw (seen_more seen c.args.chunk.now c.loop-b.b-index c.loop-b-test.true)
          (line-over sheet _ _ _ _ _ _ m _ _ _ _ _ le _ c.if-b-line_feed.false c.in_default.is)));
    }

pub loop-b-preserved : goal.loop-b-preserved
loop-b-preserved c = record {
  room = omega (arith, rw c.in-Some.is at c.line_end-e.ensures.bound, c.loop-b.invariant.room);
  way = λ sheet seen wrote o k.
      let m = c.loop-b.invariant.way sheet seen wrote o k in
      let le = c.line_end-e.ensures.ended sheet m.book m.part o m.serves (c.asked-meaning.ensures m.part m.scanned) in
      rw (seen_more seen c.args.chunk.now c.loop-b.b-index c.loop-b-test.true, wrote-more wrote _ _ le.text _ _ le.wrote)
      (line-more sheet _ _ _ _ _ _ m _ _ _ _ _ le _ _ _ c.if-b-line_feed.false c.in-Some.is (c.empty-pending.ensures.scanned _));
  in_table = c.empty-pending.ensures.in_table;
}
