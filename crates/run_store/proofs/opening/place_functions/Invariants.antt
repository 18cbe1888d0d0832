use Rattle.std.proofs.Common.{◌≡◌, ◌++◌, drop, map, Some}
use Rattle.run_store.proofs.opening.place_functions.Given as goal

abbrev pub invariant-loop-func : goal.invariant-loop-func
invariant-loop-func l = l.placed.items ++ map Some (drop l.func-index l.funcs) ≡ map Some l.funcs
