-- The mode `tree`.
use Rattle.std.specs.Prelude.{ℕ, List, ◌++◌, codes, Bool, true, false, Option, Some, None}
use Rattle.wasm_sem.specs.Types.{Loc, Module}
use Rattle.module_ast.specs.Validation.{wide, longest_file}
use Rattle.wasm_sem.specs.declared.Script.{Script}
use Rattle.static_info.specs.declared.Info.{Info}
use Rattle.app_load.specs.Plans.{few_groups, not_nested, Plan, reads, refusing, printing}
use Rattle.app_load.specs.Texts.{few_groups_text, not_nested_text}
use Rattle.app_load.specs.Wants.{module_read, info_read}
use Rattle.call_tree.specs.Unnested.{first_unnested}
use Rattle.app_runs.specs.Treeing.{tells_brackets, tree_nodes, nodes_text, tree_items}
use Rattle.wasabi_app.specs.Playing.{played, ending_text, ending_finish}
use Rattle.wasabi_app.specs.ToldRuns.{scripted, with_both}
use Rattle.wasabi_app.specs.Words.{Given}
use Rattle.wasabi_app.specs.Mode.{Mode}

-- the text of the run, and after that the text of its tree
abbrev pub tree_text : Module → Info → Script → List ℕ
tree_text m info s = ending_text m s ++ nodes_text (tree_nodes (tree_items m info s))

-- this plan, if each end closes the latest begin; otherwise the refusal of status 22
abbrev pub where_nested : (unnested : Option Loc) → Plan → Plan
where_nested None plan = plan
where_nested (Some p) plan = refusing not_nested (not_nested_text p)

-- a module is run by a script, and its hook calls are read with the information
abbrev pub treed_plan : Module → Info → Script → Plan
treed_plan m info s = played m s (where_nested (first_unnested (tree_items m info s)) (printing (tree_text m info s) (ending_finish m s)))

-- this plan, if the information tells of begins and ends; otherwise the refusal of status 21
abbrev pub where_told : (told : Bool) → Plan → Plan
where_told true plan = plan
where_told false plan = refusing few_groups few_groups_text

-- the script is read after the information, if the information tells of begins and ends
abbrev pub tree_scripted : (script : List ℕ) → Module → Info → Plan
tree_scripted script m info = where_told (tells_brackets info) (scripted script treed_plan m info)

abbrev pub tree_informed : (info script : List ℕ) → Module → Plan
tree_informed info script m = reads (info_read info m) (tree_scripted script m)

abbrev pub tree_plan : (subject info script : List ℕ) → Plan
tree_plan subject info script = reads (module_read subject longest_file wide) (tree_informed info script)

abbrev pub tree_mode : Mode
tree_mode = record { name = codes "tree"; plan = λ (g : Given). with_both (tree_plan g.subject) g.info g.script }
