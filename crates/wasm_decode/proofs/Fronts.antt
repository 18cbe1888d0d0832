-- Expressions at the front of bytes, and how many bytes are left.
use Rattle.std.proofs.Common.{◌≡◌, ℕ, suc, ◌+◌, ◌<◌, ◌≤◌, List, ◌++◌, length, refl, sym, ap, ◌∙◌, subst, length-append, arith}
use Rattle.std.proofs.lemmas.List.{nil_from_length}
use Rattle.leb_binary.specs.Leb.{IsFront, HasNoFront}
use Rattle.leb_binary.specs.Reading.{IsByte}
use Rattle.leb_binary.specs.Fronts.{OneFront}
use Rattle.module_ast.specs.Binary.Grammar as grammar
use Rattle.module_ast.specs.Binary.{IsExpr, code_node}
use Rattle.code_decode.specs.Answers.{IsExprAnswer}
use Rattle.code_decode.specs.declared.expr.Expr.{Expr}
use Rattle.code_decode.specs.declared.expr.Expr.TheVariants.{Built, Floats, Deep}
use Rattle.module_ast.proofs.Compose.{whole_none, whole_missing, whole_some}
use Rattle.wasm_decode.specs.Built.{IsBuilt}

-- the tree of an expression that was read
pub expr_front : (bound : ℕ) (e : Expr) (bytes rest : List ℕ) → IsExprAnswer bound e bytes rest → (t : grammar.CodeNode) × IsFront IsExpr bytes rest t × IsBuilt bound e t
expr_front bound (Built c) bytes rest a = (code_node c, a.0, (refl, a.1))
expr_front bound Floats bytes rest a = a
expr_front bound (Deep found) bytes rest (t, f, e, l) = (code_node t, f, (t, refl, e, l))

-- no more bytes are left behind an item than before it
pub front_shorter : {A : Type 0} (item : List ℕ → A → Type 0) (bytes rest : List ℕ) (x : A) → IsFront item bytes rest x → length rest ≤ length bytes
front_shorter item bytes rest x (f, e, p) = let h : length bytes ≡ length f + length rest = ap length e ∙ length-append f rest in omega arith

-- fewer are left behind a byte
pub byte_shorter : (bytes rest : List ℕ) (b : ℕ) → IsFront IsByte bytes rest b → length rest < length bytes
byte_shorter bytes rest b (f, e, (p, q)) = let h : length bytes ≡ suc (length rest) = ap length (e ∙ ap (λ l. l ++ rest) p) in omega arith

-- an item that fills all the bytes
module _ {A : Type 0} (item : List ℕ → A → Type 0) (start bytes : List ℕ) (same : start ≡ bytes) where
  pub whole_lacks : HasNoFront item start → (y : A) → item bytes y → ⊥
  whole_lacks h y p = whole_missing item start h y (subst (λ l. item l y) (sym same) p)

  pub whole_left : OneFront item → (left : List ℕ) (x : A) → IsFront item start left x → (length left ≡ 0 → ⊥) → (y : A) → item bytes y → ⊥
  whole_left o left x f h y p = whole_none item o start left x f (λ e. h (ap length e)) y (subst (λ l. item l y) (sym same) p)

  pub whole_fills : (left : List ℕ) (x : A) → IsFront item start left x → length left ≡ 0 → item bytes x
  whole_fills left x f h = subst (λ l. item l x) same (whole_some item start left x f (nil_from_length left h))
