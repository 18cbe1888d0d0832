use Rattle.std.proofs.Common.{◌≡◌, ◌++◌, drop, map}
use Rattle.instrument.specs.Output.{hook_import}
use Rattle.instrument.proofs.parts.hook_imports.Given as goal

abbrev pub invariant-loop-key : goal.invariant-loop-key
invariant-loop-key l = l.imports.items ++ map (hook_import l.m l.types) (drop l.key-index l.keys) ≡ map (hook_import l.m l.types) l.keys
