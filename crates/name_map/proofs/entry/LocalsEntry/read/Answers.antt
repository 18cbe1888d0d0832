use Rattle.std.proofs.Common.{rules}
use Rattle.leb_binary.proofs.Fronts.{one_unsigned}
use Rattle.module_ast.specs.Binary.{IsU32}
use Rattle.module_ast.proofs.Compose.{both_some, both_none_first, both_none_second}
use Rattle.name_map.specs.declared.Locals.{Locals}
use Rattle.name_map.specs.NameMaps.{IsNameMap}
use Rattle.name_map.proofs.Forms.{one_named}
use Rattle.name_map.proofs.entry.LocalsEntry.read.Goals as goal

pub returns-in_err-func-clause-malformed : goal.returns-in_err-func-clause-malformed
returns-in_err-func-clause-malformed c = λ e. both_none_first IsU32 IsNameMap (λ (l : Locals). l.func) (λ (l : Locals). l.names) _ c.in_err-func.ensures.bad.1

pub returns-in_err-names-clause-malformed : goal.returns-in_err-names-clause-malformed
returns-in_err-names-clause-malformed c = λ e.
    both_none_second IsU32 IsNameMap (λ (l : Locals). l.func) (λ (l : Locals). l.names) _ _ _ (one_unsigned 32) c.in_ok-func.ensures.ok.1 (c.in_err-names.ensures.malformed (search rules))

pub returns-clause-ok : goal.returns-clause-ok
returns-clause-ok c = both_some IsU32 IsNameMap _ _ _ _ c.from_vec.result c.in_ok-func.ensures.ok.1 (rw c.from_vec.ensures c.in_ok-names.ensures.ok)

pub read_entries-requires : goal.read_entries-requires
read_entries-requires c = record { one = one_named }
