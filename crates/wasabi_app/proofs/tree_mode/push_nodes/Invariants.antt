use Rattle.std.proofs.Common.{◌≡◌, ◌++◌, drop}
use Rattle.std.specs.Prelude.{flat_map, string_bytes}
use Rattle.app_runs.specs.Treeing.{node_text}
use Rattle.wasabi_app.proofs.tree_mode.push_nodes.Given as goal

-- the lines so far, and those to come
abbrev pub invariant-loop-node : goal.invariant-loop-node
invariant-loop-node l = string_bytes l.text ++ flat_map node_text (drop l.node-index l.nodes) ≡ string_bytes l.fn.text ++ flat_map node_text l.nodes
