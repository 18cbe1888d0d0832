-- A body is locals and an expression that fill its bytes.
use Rattle.std.proofs.Common.{◌≡◌, ℕ, ◌+◌, ◌^◌, ◌<◌, ◌≤◌, List, [], ◌∷◌, ◌++◌, sym, ap, ◌∙◌, subst, append-nil, arith}
use Rattle.std.specs.Prelude.{true, map}
use Rattle.std.proofs.lemmas.Bool.{or_left, or_right}
use Rattle.leb_binary.specs.Leb.{IsFront, HasNoFront}
use Rattle.leb_binary.specs.Fronts.{OneFront}
use Rattle.leb_binary.proofs.Fronts.{front_one}
use Rattle.module_ast.specs.Binary.{CodeNode, GroupNode, BodyNode, IsVec, IsGroup, IsExpr, IsBody, local_count, IsNoBody, GramBody, BodyFloats, BodyExceeds, code_node, code_floats, some_in, is_floating, group_node}
use Rattle.module_ast.specs.Places.{code_nesting}
use Rattle.module_ast.specs.Structure.Trees as ast
use Rattle.module_ast.specs.declared.module.Group as kept
use Rattle.module_ast.specs.declared.module.Body as kept_body
use Rattle.module_ast.proofs.Compose.{one_vec}
use Rattle.code_decode.specs.Answers.{IsExprAnswer}
use Rattle.code_decode.specs.Locals.{AreLocals, group_floats}
use Rattle.code_decode.specs.declared.expr.Expr.{Expr}
use Rattle.code_decode.specs.declared.expr.Expr.TheVariants.{Built, Floats, Deep}
use Rattle.code_decode.proofs.Items.{one_group}
use Rattle.code_decode.proofs.Unique.{one_expr}

-- one group more
pub local_count_push : (gs : List GroupNode) (g : GroupNode) → local_count (gs ++ g ∷ []) ≡ local_count gs + g.count
local_count_push [] g = omega arith
local_count_push (k ∷ ks) g = omega (arith, local_count_push ks g)

-- bytes have one vector of groups at their front
one_groups : OneFront (IsVec IsGroup)
one_groups = one_vec IsGroup one_group

-- and one list of locals
one_locals : OneFront AreLocals
one_locals = record { one = λ a b x y m n p q e. one_groups.one a b x y m n p.1 q.1 e }

-- locals are a vector of groups that are not too many
pub locals_some : (bytes rest : List ℕ) (gs : List GroupNode) → IsFront (IsVec IsGroup) bytes rest gs → local_count gs < 2 ^ 32 → IsFront AreLocals bytes rest gs
locals_some bytes rest gs (front, e, h) l = (front, e, (l, h))

pub locals_none : (bytes : List ℕ) → HasNoFront (IsVec IsGroup) bytes → HasNoFront AreLocals bytes
locals_none bytes h rest gs (front, e, k) = h rest gs (front, e, k.1)

pub locals_many : (bytes rest : List ℕ) (gs : List GroupNode) → IsFront (IsVec IsGroup) bytes rest gs → 2 ^ 32 ≤ local_count gs → HasNoFront AreLocals bytes
locals_many bytes rest gs f l after ks (front, e, k) =
    let o = front_one (IsVec IsGroup) one_groups bytes rest after gs ks f (front, e, k.1) in
    omega (arith, l, k.0, ap local_count o.1)

-- the parts of a body
body_parts : (bytes : List ℕ) (b : BodyNode) → IsBody bytes b → (mid : List ℕ) × IsFront AreLocals bytes mid b.groups × IsFront IsExpr mid [] b.code
body_parts bytes b (l, (f, r, e, v, x)) = (r, (f, e, (l, v)), (r, sym (append-nil r), x))

-- where there are no locals, or no expression, or more bytes, there is no body
pub no_locals : (bytes : List ℕ) → HasNoFront AreLocals bytes → IsNoBody bytes
no_locals bytes h b p = let r = body_parts bytes b p in h r.0 b.groups r.1

pub no_expr : (bytes mid : List ℕ) (gs : List GroupNode) → IsFront AreLocals bytes mid gs → HasNoFront IsExpr mid → IsNoBody bytes
no_expr bytes mid gs f h b p =
    let r = body_parts bytes b p in
    let o = front_one AreLocals one_locals bytes mid r.0 gs b.groups f r.1 in
    h [] b.code (subst (λ m. IsFront IsExpr m [] b.code) (sym o.0) r.2)

pub no_end : (bytes mid left : List ℕ) (gs : List GroupNode) (t : CodeNode) → IsFront AreLocals bytes mid gs → IsFront IsExpr mid left t → (left ≡ [] → ⊥) → IsNoBody bytes
no_end bytes mid left gs t f g h b p =
    let r = body_parts bytes b p in
    let o = front_one AreLocals one_locals bytes mid r.0 gs b.groups f r.1 in
    let x = front_one IsExpr one_expr mid left [] t b.code g (subst (λ m. IsFront IsExpr m [] b.code) (sym o.0) r.2) in
    h x.0

-- a body of the grammar
abbrev body_by : List GroupNode → CodeNode → BodyNode
body_by gs t = record { groups = gs; code = t }

-- a body
pub body_some : (bytes mid left : List ℕ) (gs : List GroupNode) (t : CodeNode) → IsFront AreLocals bytes mid gs → IsFront IsExpr mid left t → left ≡ [] → IsBody bytes (body_by gs t)
body_some bytes mid left gs t (f, e, (l, v)) (g, d, x) h =
    (l, (f, g, e ∙ ap (λ m. f ++ m) (d ∙ ap (λ r. g ++ r) h ∙ append-nil g), v, x))

-- each answer is of an expression
pub answer_tree : (bound : ℕ) (e : Expr) (bytes rest : List ℕ) → IsExprAnswer bound e bytes rest → (t : CodeNode) × IsFront IsExpr bytes rest t
answer_tree bound (Built c) bytes rest h = (code_node c, h.0)
answer_tree bound Floats bytes rest h = (h.0, h.1)
answer_tree bound (Deep found) bytes rest h = (code_node h.0, h.1)

-- locals and an expression that end where the bytes do
module _ (bytes mid left : List ℕ) (gs : List GroupNode) (f : IsFront AreLocals bytes mid gs) (e : left ≡ []) where
  pub float_groups : (t : CodeNode) → some_in group_floats gs ≡ true → IsFront IsExpr mid left t → BodyFloats bytes
  float_groups t h g = (body_by gs t, body_some bytes mid left gs t f g e, or_left (some_in (λ (k : GroupNode). is_floating k.ty) gs) (code_floats t) h)

  pub float_code : (t : CodeNode) → code_floats t ≡ true → IsFront IsExpr mid left t → BodyFloats bytes
  float_code t h g = (body_by gs t, body_some bytes mid left gs t f g e, or_right (some_in (λ (k : GroupNode). is_floating k.ty) gs) (code_floats t) h)

  abbrev kept_by : List kept.Group → ast.Tree → kept_body.Body
  kept_by ks c = record { groups = ks; code = c }

  pub body_kept : (ks : List kept.Group) (c : ast.Tree) → gs ≡ map group_node ks → IsFront IsExpr mid left (code_node c) → GramBody bytes (kept_by ks c)
  body_kept ks c h g = subst (λ (l : List GroupNode). IsBody bytes (body_by l (code_node c))) h (body_some bytes mid left gs (code_node c) f g e)

  pub body_deep : (ks : List kept.Group) (c : ast.Tree) (bound found : ℕ) → gs ≡ map group_node ks → IsFront IsExpr mid left (code_node c) → found ≡ code_nesting c → bound < found → BodyExceeds bound bytes found
  body_deep ks c bound found h g n l = (kept_by ks c, body_kept ks c h g, n, l)
