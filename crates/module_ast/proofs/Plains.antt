-- Instructions of the program before a sequence, and of these the ones with no sequence in them.
use Rattle.std.proofs.Common.{◌≡◌, ℕ, ◌+◌, ◌<◌, List, [], ◌∷◌, ◌++◌, length, drop, get_or, Option, Some, None, refl, sym, ap, ◌∙◌, arith}
use Rattle.std.proofs.lemmas.List.{at_drop_more}
use Rattle.module_ast.specs.declared.code.Instr.{Instr}
use Rattle.module_ast.specs.declared.code.Instr.TheVariants.{Block, Loop, If, IfElse}
use Rattle.module_ast.specs.Structure.{Tree, done, plain, Plain, unreachable, weight, instr_of, plain_of, IsPlainInstr, before, onto, code_of}
use Rattle.module_ast.specs.Places.{code_size}

-- the plain instruction that this one is, where it is one
abbrev pub the_plain : Instr → Plain
the_plain i = or_any (plain_of i)
  where
    or_any : Option Plain → Plain
    or_any None = unreachable
    or_any (Some p) = p

-- an instruction with no sequence in it is a plain one
pub by_plain : (i : Instr) → IsPlainInstr i → (p : Plain) × (plain_of i ≡ Some p) × ((t : Tree) → before i t ≡ plain p t)
by_plain (Block b a) h = absurd h
by_plain (Loop b a) h = absurd h
by_plain (If b a) h = absurd h
by_plain (IfElse b a e) h = absurd h
by_plain i h = (the_plain i, refl, λ t. refl)

-- and a plain one has no sequence in it
pub is_plain : (p : Plain) → IsPlainInstr (instr_of p)
is_plain unreachable = tt
is_plain p = tt

pub before_plain : (p : Plain) (t : Tree) → before (instr_of p) t ≡ plain p t
before_plain unreachable t = refl
before_plain p t = refl

-- ---- a place in a sequence

pub next_instr : (is : List Instr) (k : ℕ) (i : Instr) → k < length is → i ≡ get_or is k i → code_of (drop k is) ≡ before i (code_of (drop (k + 1) is))
next_instr is k i h e = at_drop_more code_of is k i h ∙ ap (λ j. before j (code_of (drop (k + 1) is))) (sym e)

pub weight_before : (i : Instr) (t : Tree) → weight (before i t) ≡ weight (before i done) + weight t
weight_before (If b a) t = omega arith
weight_before i t = omega arith

pub size_before : (i : Instr) (t : Tree) → code_size (before i t) ≡ code_size (before i done) + code_size t
size_before (If b a) t = omega arith
size_before i t = omega arith

pub onto_append : (is js : List Instr) (t : Tree) → onto (is ++ js) t ≡ onto is (onto js t)
onto_append [] js t = refl
onto_append (i ∷ is) js t = ap (before i) (onto_append is js t)
