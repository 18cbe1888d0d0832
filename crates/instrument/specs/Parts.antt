-- The parts of a module with hooks, outside its bodies, that differ from those of the original.
use Rattle.std.specs.Prelude.{map, option_map}
use Rattle.index_remap.specs.Remap.{map_index, map_export, map_element}
use Rattle.instrument.specs.declared.parts.Parts.{Parts}
use Rattle.instrument.specs.Output.{hook_types, hook_imports}
use Rattle.instrument.specs.Plan.{HookPlan, plan_keys, plan_remap}

-- the types and imports come after those of the original, the other parts replace those of the original
abbrev pub parts_of : HookPlan → Parts
parts_of p = record {
  types = hook_types (plan_keys p);
  imports = hook_imports p.module (plan_keys p);
  exports = map (map_export (plan_remap p)) p.module.exports;
  start = option_map (map_index (plan_remap p)) p.module.start;
  elements = map (map_element (plan_remap p)) p.module.elements;
}
