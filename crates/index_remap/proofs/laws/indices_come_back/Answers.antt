use Rattle.index_remap.proofs.Mapped.{unmapped}
use Rattle.index_remap.proofs.laws.indices_come_back.Goals as goal

pub returns : goal.returns
returns c = unmapped
