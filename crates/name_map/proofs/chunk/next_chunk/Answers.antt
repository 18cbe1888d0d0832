use Rattle.name_map.proofs.Chunks.{on_err, chunk_none_id, chunk_none_size, chunk_short, chunk_some}
use Rattle.name_map.proofs.chunk.next_chunk.Goals as goal

pub returns-in_err-id-clause-bad : goal.returns-in_err-id-clause-bad
returns-in_err-id-clause-bad c = on_err _ (chunk_none_id _ c.in_err-id.ensures.bad.1)

pub returns-in_err-size-clause-bad : goal.returns-in_err-size-clause-bad
returns-in_err-size-clause-bad c = on_err _ (chunk_none_size _ _ _ c.in_ok-id.ensures.ok.1 c.in_err-size.ensures.bad.1)

pub returns-in_err-content-clause-bad : goal.returns-in_err-content-clause-bad
returns-in_err-content-clause-bad c = on_err _ (chunk_short _ _ _ _ _ c.in_ok-id.ensures.ok.1 c.in_ok-size.ensures.ok.1 c.in_err-content.ensures.bad.1)

pub returns-clause-ok : goal.returns-clause-ok
returns-clause-ok c = chunk_some _ _ _ _ _ _ _ c.in_ok-id.ensures.ok.1 c.in_ok-size.ensures.ok.1 c.in_ok-content.ensures.ok.1
