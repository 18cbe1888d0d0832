use Rattle.std.proofs.Common.{◌≡◌, ◌++◌, drop}
use Rattle.static_info.specs.Info.{defined_infos}
use Rattle.static_info.proofs.gather.add_defined.Given as goal

abbrev pub invariant-loop-defined : goal.invariant-loop-defined
invariant-loop-defined l =
    l.functions.items ++ defined_infos l.m (drop l.defined l.types) (drop l.defined l.bodies)
    ≡ l.initial.functions.items ++ defined_infos l.m l.m.funcs l.m.bodies
