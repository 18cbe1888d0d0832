use Rattle.std.proofs.Common.{rules}
use Rattle.leb_binary.specs.Leb.{IsName}
use Rattle.leb_binary.proofs.Fronts.{one_unsigned}
use Rattle.module_ast.specs.Binary.{IsU32}
use Rattle.module_ast.proofs.Compose.{both_some, both_none_first, both_none_second}
use Rattle.name_map.specs.declared.Named.{Named}
use Rattle.name_map.proofs.entry.NamedEntry.read.Goals as goal

pub returns-in_err-index-clause-malformed : goal.returns-in_err-index-clause-malformed
returns-in_err-index-clause-malformed c = λ e. both_none_first IsU32 IsName (λ (n : Named). n.index) (λ (n : Named). n.name) _ c.in_err-index.ensures.bad.1

pub returns-in_err-name-clause-malformed : goal.returns-in_err-name-clause-malformed
returns-in_err-name-clause-malformed c = λ e.
    both_none_second IsU32 IsName (λ (n : Named). n.index) (λ (n : Named). n.name) _ _ _ (one_unsigned 32) c.in_ok-index.ensures.ok.1 (c.in_err-name.ensures.malformed (search rules))

pub returns-clause-ok : goal.returns-clause-ok
returns-clause-ok c = both_some IsU32 IsName _ _ _ _ c.in_ok-name.name c.in_ok-index.ensures.ok.1 c.in_ok-name.ensures.ok
