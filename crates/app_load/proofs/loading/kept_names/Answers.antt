-- The file of a module is a header and sections.
use Rattle.std.proofs.Common.{rules}
use Rattle.name_map.proofs.OneNames.{modules_are_files}
use Rattle.app_load.proofs.loading.kept_names.Goals as goal

pub read_names-requires : goal.read_names-requires
read_names-requires c = modules_are_files c.args.bytes.now c.args.m.now c.requires.file

pub returns : goal.returns
returns c = search rules
