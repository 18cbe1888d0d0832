use Rattle.std.proofs.Common.{◌↔◌, drop}
use Rattle.static_info.specs.Belongs.{func_imports}
use Rattle.static_info.specs.Following.{HooksFollow}
use Rattle.static_info.proofs.owner.belongs.Given as goal

abbrev pub invariant-loop-import : goal.invariant-loop-import
invariant-loop-import l =
    HooksFollow l.m l.info.imports l.info.hooks (func_imports l.m.imports)
    ↔ HooksFollow l.m l.following.own l.following.hooks.now (func_imports (drop l.import-index l.import-items))
