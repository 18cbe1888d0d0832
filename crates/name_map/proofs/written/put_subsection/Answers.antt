use Rattle.std.proofs.Common.{rules}
use Rattle.name_map.proofs.written.put_subsection.Goals as goal

pub returns : goal.returns
returns g c = search rules
