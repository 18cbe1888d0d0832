use Rattle.std.proofs.Common.{rules}
use Rattle.name_map.proofs.entry.LocalsEntry.copy_at.Goals as goal

pub returns : goal.returns
returns c = search rules
