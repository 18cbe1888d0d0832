-- The bytes of a tree that is being built.
use Rattle.std.proofs.Common.{◌≡◌, ℕ, List, [], ◌∷◌, ◌++◌, refl, sym, ap, ◌∙◌, subst, append_assoc, append-nil}
use Rattle.leb_binary.specs.Leb.{IsFront}
use Rattle.module_ast.specs.Binary.Grammar as grammar
use Rattle.module_ast.specs.Binary.{IsBlockType, IsCode, IsExpr, IsPlain, code_node, block_type_node, Token, IsToken, plain_t, else_t, end_t}
use Rattle.module_ast.specs.Structure.{instr_of, before, onto, code_of, onto_push, Tree, done, Plain}
use Rattle.module_ast.specs.declared.code.BlockType.{BlockType}
use Rattle.module_ast.specs.declared.code.Instr.{Instr}
use Rattle.module_ast.specs.declared.code.Instr.TheVariants.{Block, Loop, If, IfElse}
use Rattle.module_ast.proofs.Plains.{the_plain, before_plain}
use Rattle.code_decode.specs.Opened.{closed_instr}
use Rattle.code_decode.specs.Steps.{IsKind}
use Rattle.code_decode.specs.declared.token.Kind.{Kind}
use Rattle.code_decode.specs.declared.token.Kind.TheVariants as kinds
use Rattle.code_decode.proofs.Layers.{Layer}

-- one sequence behind another
abbrev join : grammar.CodeNode → grammar.CodeNode → grammar.CodeNode
join grammar.done t = t
join (grammar.plain p k) t = grammar.plain p (join k t)
join (grammar.floating k) t = grammar.floating (join k t)
join (grammar.block ty b k) t = grammar.block ty b (join k t)
join (grammar.loop ty b k) t = grammar.loop ty b (join k t)
join (grammar.if_then ty b k) t = grammar.if_then ty b (join k t)
join (grammar.if_else ty b o k) t = grammar.if_else ty b o (join k t)

-- their bytes
join_code : (s t : grammar.CodeNode) (a b : List ℕ) → IsCode a s → IsCode b t → IsCode (a ++ b) (join s t)
join_code grammar.done t a b e h = subst (λ l. IsCode (l ++ b) t) (sym e) h
join_code (grammar.plain p k) t a b (front, rest, q, i, j) h = (front, rest ++ b, ap (λ l. l ++ b) q ∙ append_assoc front rest b, i, join_code k t rest b j h)
join_code (grammar.floating k) t a b (front, rest, q, i, j) h = (front, rest ++ b, ap (λ l. l ++ b) q ∙ append_assoc front rest b, i, join_code k t rest b j h)
join_code (grammar.block ty c k) t a b (front, rest, q, i, j) h = (front, rest ++ b, ap (λ l. l ++ b) q ∙ append_assoc front rest b, i, join_code k t rest b j h)
join_code (grammar.loop ty c k) t a b (front, rest, q, i, j) h = (front, rest ++ b, ap (λ l. l ++ b) q ∙ append_assoc front rest b, i, join_code k t rest b j h)
join_code (grammar.if_then ty c k) t a b (front, rest, q, i, j) h = (front, rest ++ b, ap (λ l. l ++ b) q ∙ append_assoc front rest b, i, join_code k t rest b j h)
join_code (grammar.if_else ty c o k) t a b (front, rest, q, i, j) h = (front, rest ++ b, ap (λ l. l ++ b) q ∙ append_assoc front rest b, i, join_code k t rest b j h)

-- instructions before a sequence are one sequence behind another
instrs_join : (is : List Instr) (t : Tree) → code_node (onto is t) ≡ join (code_node (code_of is)) (code_node t)
instrs_join [] t = refl
instrs_join (Block ty a ∷ is) t = ap (grammar.block (block_type_node ty) (code_node a)) (instrs_join is t)
instrs_join (Loop ty a ∷ is) t = ap (grammar.loop (block_type_node ty) (code_node a)) (instrs_join is t)
instrs_join (If ty a ∷ is) t = ap (grammar.if_then (block_type_node ty) (code_node a)) (instrs_join is t)
instrs_join (IfElse ty a e ∷ is) t = ap (grammar.if_else (block_type_node ty) (code_node a) (code_node e)) (instrs_join is t)
instrs_join (i ∷ is) t = ap (grammar.plain (the_plain i)) (instrs_join is t)

-- these instructions have these bytes
abbrev AreInstrs : List ℕ → List Instr → Type 0
AreInstrs bytes is = IsCode bytes (code_node (code_of is))

-- one instruction more
instrs_push : (is : List Instr) (i : Instr) (a b : List ℕ) → AreInstrs a is → IsCode b (code_node (before i done)) → AreInstrs (a ++ b) (is ++ i ∷ [])
instrs_push is i a b h k =
    subst (IsCode (a ++ b)) (sym (ap code_node (onto_push is i done) ∙ instrs_join is (before i done)))
    (join_code (code_node (code_of is)) (code_node (before i done)) a b h k)

-- the bytes of a plain instruction
plain_code : (p : Plain) (i : Instr) (b : List ℕ) → i ≡ instr_of p → IsPlain b p → IsCode b (code_node (before i done))
plain_code p i b e h = subst (λ t. IsCode b (code_node t)) (sym (ap (λ j. before j done) e ∙ before_plain p done)) (b, [], sym (append-nil b), h, refl)

-- how a sequence begins that is open
abbrev Begun : List ℕ → Kind → Type 0
Begun b (kinds.Block ty) = (t : List ℕ) × (b ≡ 0x02 ∷ t) × IsBlockType t (block_type_node ty)
Begun b (kinds.Loop ty) = (t : List ℕ) × (b ≡ 0x03 ∷ t) × IsBlockType t (block_type_node ty)
Begun b (kinds.Then ty) = (t : List ℕ) × (b ≡ 0x04 ∷ t) × IsBlockType t (block_type_node ty)
Begun b (kinds.Else ty c) = (t x : List ℕ) × (b ≡ 0x04 ∷ (t ++ (x ++ 0x05 ∷ []))) × IsBlockType t (block_type_node ty) × IsCode x (code_node c)

-- a token that opens a sequence begins it
begun : (k : Kind) (t : Token) (b : List ℕ) → IsKind k t → IsToken b t → Begun b k
begun (kinds.Else ty c) t b e h = absurd e
begun k t b e h = subst (IsToken b) e h

-- with what stands in it and its end
closed_code : (k : Kind) (c : Tree) (y x : List ℕ) → Begun y k → IsCode x (code_node c) → IsCode (y ++ (x ++ 0x0B ∷ [])) (code_node (before (closed_instr k c) done))
closed_code (kinds.Block ty) c y x (t, e, h) i =
    (y ++ (x ++ 0x0B ∷ []), [], sym (append-nil (y ++ (x ++ 0x0B ∷ []))), (t ++ (x ++ 0x0B ∷ []), ap (λ l. l ++ (x ++ 0x0B ∷ [])) e, (t, x, sym (append_assoc t x (0x0B ∷ [])), h, i)), refl)
closed_code (kinds.Loop ty) c y x (t, e, h) i =
    (y ++ (x ++ 0x0B ∷ []), [], sym (append-nil (y ++ (x ++ 0x0B ∷ []))), (t ++ (x ++ 0x0B ∷ []), ap (λ l. l ++ (x ++ 0x0B ∷ [])) e, (t, x, sym (append_assoc t x (0x0B ∷ [])), h, i)), refl)
closed_code (kinds.Then ty) c y x (t, e, h) i =
    (y ++ (x ++ 0x0B ∷ []), [], sym (append-nil (y ++ (x ++ 0x0B ∷ []))), (t ++ (x ++ 0x0B ∷ []), ap (λ l. l ++ (x ++ 0x0B ∷ [])) e, (t, x, sym (append_assoc t x (0x0B ∷ [])), h, i)), refl)
closed_code (kinds.Else ty a) c y x (t, z, e, h, j) i =
    (y ++ (x ++ 0x0B ∷ []), [], sym (append-nil (y ++ (x ++ 0x0B ∷ []))), (t ++ ((z ++ 0x05 ∷ x) ++ 0x0B ∷ []), ap (λ l. l ++ (x ++ 0x0B ∷ [])) e ∙ simp append_assoc, (t, z ++ 0x05 ∷ x, sym (append_assoc t (z ++ 0x05 ∷ x) (0x0B ∷ [])), h, (z, x, refl, j, i))), refl)

-- sequences that are open, the outermost first, with what stands before each
Opened : List Layer → List ℕ → Type 0
Opened [] b = b ≡ []
Opened (f ∷ fs) b = (x y z : List ℕ) × (b ≡ x ++ (y ++ z)) × AreInstrs x f.before × Begun y f.kind × Opened fs z

-- the innermost of them
record Last (fs : List Layer) (f : Layer) (b : List ℕ) : Type 0 where
  outer : List ℕ
  front : List ℕ
  begin : List ℕ
  split : b ≡ outer ++ (front ++ begin)
  is_outer : Opened fs outer
  is_front : AreInstrs front f.before
  is_begin : Begun begin f.kind

-- one more
opened_push : (fs : List Layer) (f : Layer) (b : List ℕ) → Last fs f b → Opened (fs ++ f ∷ []) b
unfolding Opened
opened_push [] f b l = (l.front, l.begin, [], l.split ∙ ap (λ o. o ++ (l.front ++ l.begin)) l.is_outer ∙ ap (λ e. l.front ++ e) (sym (append-nil l.begin)), l.is_front, l.is_begin, refl)
opened_push (g ∷ fs) f b l =
    let (x, y, z, e, h, i, j) = l.is_outer in (
      x,
      y,
      z ++ (l.front ++ l.begin),
      l.split ∙ ap (λ o. o ++ (l.front ++ l.begin)) e ∙ simp append_assoc,
      h,
      i,
      opened_push fs f (z ++ (l.front ++ l.begin)) (record { outer = z; front = l.front; begin = l.begin; split = refl; is_outer = j; is_front = l.is_front; is_begin = l.is_begin }),
    )

-- and one less
opened_pop : (fs : List Layer) (f : Layer) (b : List ℕ) → Opened (fs ++ f ∷ []) b → Last fs f b
unfolding Opened
opened_pop [] f b (x, y, z, e, h, i, j) = record { outer = []; front = x; begin = y; split = e ∙ ap (λ l. x ++ (y ++ l)) j ∙ ap (λ l. x ++ l) (append-nil y); is_outer = refl; is_front = h; is_begin = i }
opened_pop (g ∷ fs) f b (x, y, z, e, h, i, j) =
    let r = opened_pop fs f z j in
    record {
      outer = x ++ (y ++ r.outer);
      front = r.front;
      begin = r.begin;
      split = e ∙ ap (λ l. x ++ (y ++ l)) r.split ∙ simp append_assoc;
      is_outer = (x, y, r.outer, refl, h, i, r.is_outer);
      is_front = r.is_front;
      is_begin = r.is_begin;
    }

-- ---- what was read so far is what is open, and the instructions in it

-- all bytes are what is open, the instructions in it, and what is left
pub record Built (all : List ℕ) (fs : List Layer) (is : List Instr) (left : List ℕ) : Type 0 where
  outer : List ℕ
  inner : List ℕ
  split : all ≡ outer ++ (inner ++ left)
  is_outer : Opened fs outer
  is_inner : AreInstrs inner is

-- at the start
pub built_nothing : (all : List ℕ) → Built all [] [] all
unfolding Opened
built_nothing all = record { outer = []; inner = []; split = refl; is_outer = refl; is_inner = refl }

module _ (all left rest : List ℕ) (fs : List Layer) (is : List Instr) where
  -- a plain instruction
  pub built_plain : (p : Plain) (i : Instr) → i ≡ instr_of p → IsFront IsToken left rest (plain_t p) → Built all fs is left → Built all fs (is ++ i ∷ []) rest
  built_plain p i e (t, q, h) b = record {
    outer = b.outer;
    inner = b.inner ++ t;
    split = b.split ∙ ap (λ l. b.outer ++ (b.inner ++ l)) q ∙ simp append_assoc;
    is_outer = b.is_outer;
    is_inner = instrs_push is i b.inner t b.is_inner (plain_code p i t e h);
  }

  -- a sequence opens
  pub built_open : (k : Kind) (t : Token) (f : Layer) → f.before ≡ is → f.kind ≡ k → IsKind k t → IsFront IsToken left rest t → Built all fs is left → Built all (fs ++ f ∷ []) [] rest
  built_open k t f e d h (front, q, i) b = record {
    outer = b.outer ++ (b.inner ++ front);
    inner = [];
    split = b.split ∙ ap (λ l. b.outer ++ (b.inner ++ l)) q ∙ simp append_assoc;
    is_outer = opened_push fs f (b.outer ++ (b.inner ++ front)) (record {
      outer = b.outer;
      front = b.inner;
      begin = front;
      split = refl;
      is_outer = b.is_outer;
      is_front = subst (AreInstrs b.inner) (sym e) b.is_inner;
      is_begin = subst (Begun front) (sym d) (begun k t front h i);
    });
    is_inner = refl;
  }

  -- `end` closes one
  pub built_end : (f : Layer) (i : Instr) → i ≡ closed_instr f.kind (code_of is) → IsFront IsToken left rest end_t → Built all (fs ++ f ∷ []) is left → Built all fs (f.before ++ i ∷ []) rest
  built_end f i e (t, q, h) b =
      let l = opened_pop fs f b.outer b.is_outer in
      let c = closed_code f.kind (code_of is) l.begin b.inner l.is_begin b.is_inner in
      record {
        outer = l.outer;
        inner = l.front ++ (l.begin ++ (b.inner ++ 0x0B ∷ []));
        split = b.split ∙ ap (λ o. o ++ (b.inner ++ left)) l.split ∙ ap (λ r. (l.outer ++ (l.front ++ l.begin)) ++ (b.inner ++ r)) (q ∙ ap (λ t. t ++ rest) h) ∙ simp append_assoc;
        is_outer = l.is_outer;
        is_inner = instrs_push f.before i l.front (l.begin ++ (b.inner ++ 0x0B ∷ [])) l.is_front (subst (λ j. IsCode (l.begin ++ (b.inner ++ 0x0B ∷ [])) (code_node (before j done))) (sym e) c);
      }

  -- the first part of an `if` becomes a part of the open second one
  pub built_else : (ty : BlockType) (f g : Layer) → f.kind ≡ kinds.Then ty → g.before ≡ f.before → g.kind ≡ kinds.Else ty (code_of is) → IsFront IsToken left rest else_t → Built all (fs ++ f ∷ []) is left → Built all (fs ++ g ∷ []) [] rest
  built_else ty f g d e k (t, q, h) b =
      let l = opened_pop fs f b.outer b.is_outer in
      let n : Begun l.begin (kinds.Then ty) = subst (Begun l.begin) d l.is_begin in
      let begin = l.begin ++ (b.inner ++ 0x05 ∷ []) in
      let m : Begun begin (kinds.Else ty (code_of is)) = (n.0, b.inner, ap (λ o. o ++ (b.inner ++ 0x05 ∷ [])) n.1, n.2, b.is_inner) in
      record {
        outer = l.outer ++ (l.front ++ begin);
        inner = [];
        split = b.split ∙ ap (λ o. o ++ (b.inner ++ left)) l.split ∙ ap (λ r. (l.outer ++ (l.front ++ l.begin)) ++ (b.inner ++ r)) (q ∙ ap (λ t. t ++ rest) h) ∙ simp append_assoc;
        is_outer = opened_push fs g (l.outer ++ (l.front ++ begin)) (record {
          outer = l.outer;
          front = l.front;
          begin = begin;
          split = refl;
          is_outer = l.is_outer;
          is_front = subst (AreInstrs l.front) (sym e) l.is_front;
          is_begin = subst (Begun begin) (sym k) m;
        });
        is_inner = refl;
      }

-- the whole expression
pub built_whole : (all left rest : List ℕ) (is : List Instr) → IsFront IsToken left rest end_t → Built all [] is left → IsFront IsExpr all rest (code_node (code_of is))
unfolding Opened
built_whole all left rest is (t, q, h) b =
    (b.inner ++ 0x0B ∷ [], b.split ∙ ap (λ o. o ++ (b.inner ++ left)) b.is_outer ∙ ap (λ r. b.inner ++ r) (q ∙ ap (λ t. t ++ rest) h) ∙ sym (append_assoc b.inner (0x0B ∷ []) rest), (b.inner, refl, b.is_inner))
