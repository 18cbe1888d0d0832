-- How the hook calls of an output are read, and which events are chosen.
use Rattle.std.proofs.Common.{List, Option, Bool}
use Rattle.wasm_sem.specs.Types.{Selection}
use Rattle.static_info.specs.declared.Info.{Info}

-- the information, which has the groups, and which functions get their hooks
pub record View : Type 0 where
  pub info : Info
  pub functions : Option (List Bool)

-- the selection that the output is made with
abbrev pub selection : View → Selection
selection view = record { groups = view.info.groups; functions = view.functions }
