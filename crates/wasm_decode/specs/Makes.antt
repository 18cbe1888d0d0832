-- Items of the grammar, made from their parts.
use Rattle.std.specs.Prelude.{ℕ, List}
use Rattle.module_ast.specs.Binary.{GlobalTypeNode, GlobalNode, ElementNode, SegmentNode, GroupNode, BodyNode, CodeNode}

abbrev pub global_by : GlobalTypeNode → CodeNode → GlobalNode
global_by g t = record { ty = g; init = t }

abbrev pub element_by : ℕ → CodeNode → List ℕ → ElementNode
element_by n t fs = record { table = n; offset = t; funcs = fs }

abbrev pub segment_by : ℕ → CodeNode → List ℕ → SegmentNode
segment_by n t bs = record { memory = n; offset = t; bytes = bs }

abbrev pub body_by : List GroupNode → CodeNode → BodyNode
body_by gs t = record { groups = gs; code = t }
