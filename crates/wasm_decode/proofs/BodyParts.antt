-- Bodies: their locals, and the parts of what a reader hands on.
use Rattle.std.proofs.Common.{◌≡◌, ℕ, List, [], ◌∷◌}
use Rattle.std.specs.Prelude.{Bool, true, false, Option}
use Rattle.module_ast.specs.Binary.Grammar as grammar
use Rattle.module_ast.specs.Binary.{IsSized, IsBody, AreItems, local_count, some_in}
use Rattle.wasm_decode.specs.Forms.{Form, ItemsStandFor}
use Rattle.wasm_decode.specs.Drafts.{HaveFewLocals}

-- bodies behind their sizes have fewer than 2 ^ 32 locals
pub few_locals : (bytes : List ℕ) (bs : List grammar.BodyNode) → AreItems (IsSized IsBody) bytes bs → HaveFewLocals bs
few_locals bytes [] p = tt
few_locals bytes (b ∷ bs) (front, rest, e, (size, content, d, n, i), more) = (i.0, few_locals rest bs more)

-- where a part floats, an item does
pub part_floats : {T G : Type 0} (f : Form T G) (bound : ℕ) (a : Bool) (xs : List T) (d : Option ℕ) (gs : List G) → ItemsStandFor f bound a xs d gs → a ≡ true → some_in f.floats gs ≡ true
part_floats f bound true xs d gs p h = p
part_floats f bound false xs d gs p h = cc
