-- What is known between two tokens of an expression: what may follow, and what was built.
use Rattle.std.proofs.Common.{◌≡◌, ℕ, suc, ◌+◌, ◌<◌, ◌≤◌, List, [], ◌∷◌, ◌++◌, length, refl, sym, ap, ◌∙◌, subst, arith, length-append, append-nil, inl, inr}
use Rattle.std.specs.Prelude.{Bool, true, false, ◌||◌, max, map, take, drop}
use Rattle.std.proofs.lemmas.Bool.{cases_lt, or_parts}
use Rattle.leb_binary.specs.Leb.{IsFront, HasNoFront}
use Rattle.module_ast.specs.Binary.Grammar as grammar
use Rattle.module_ast.specs.Binary.{IsExpr, code_node, code_floats, IsToken}
use Rattle.module_ast.specs.Structure.{code_of}
use Rattle.module_ast.specs.declared.code.BlockType.{BlockType}
use Rattle.module_ast.specs.declared.code.Instr.{Instr}
use Rattle.module_ast.proofs.SpelledTokens.{token_shorter}
use Rattle.leb_binary.proofs.Fronts.{front_one}
use Rattle.code_decode.specs.Answers.{IsExprAnswer}
use Rattle.code_decode.specs.Nesting.{tree_nesting}
use Rattle.code_decode.specs.Opened.{closed_instr}
use Rattle.code_decode.specs.Scans.{IsNoThen, OpensSequence, TurnsToElse, ClosesSequence}
use Rattle.code_decode.specs.Steps.{Open, then, open_of}
use Rattle.code_decode.specs.declared.token.Kind.{Kind}
use Rattle.code_decode.specs.declared.token.Kind.TheVariants as kinds
use Rattle.code_decode.specs.declared.token.Read.TheVariants as reads
use Rattle.code_decode.specs.declared.expr.Frame.{Frame}
use Rattle.code_decode.specs.declared.expr.Scan.{Scan}
use Rattle.code_decode.specs.declared.expr.Expr.{Expr}
use Rattle.code_decode.specs.declared.expr.Expr.TheVariants as exprs
use Rattle.code_decode.proofs.Bridges.{nesting_same, unfloated}
use Rattle.code_decode.proofs.Built.{Built, built_nothing, built_plain, built_open, built_else, built_end, built_whole}
use Rattle.code_decode.proofs.Layers.{Layer, layer, frame, frames, stack_of, stack_push, stack_more, frames_last, frames_length, no_layers, Top, top, top_within, top_take, top_drop}
use Rattle.code_decode.proofs.Known.{Known, Reads, start, nothing_fails, plain_at, float_at, opens_at, end_at, else_at, else_fails_at, top_else_at, top_found_at}
use Rattle.code_decode.proofs.Unique.{one_expr}

-- the open sequences
abbrev opens : List Layer → List Open
opens fs = map (λ (f : Layer). open_of f.kind) fs

opens_push : (fs : List Layer) (f : Layer) → opens (fs ++ f ∷ []) ≡ opens fs ++ open_of f.kind ∷ []
opens_push [] f = refl
opens_push (g ∷ fs) f = ap (λ l. open_of g.kind ∷ l) (opens_push fs f)

opens_length : (fs : List Layer) → length (opens fs) ≡ length fs
opens_length [] = refl
opens_length (g ∷ fs) = ap suc (opens_length fs)

-- what is known: the tree exists exactly where the rest completes it, and what was built is what was read
record State (bound : ℕ) (all : List ℕ) (fs : List Layer) (is : List Instr) (floats : Bool) (nesting : ℕ) (left : List ℕ) : Type 0 where
  known : Known all (opens fs) floats nesting left
  built : floats ≡ false → nesting ≤ bound → Built all fs is left
  room : length fs + length left ≤ length all
  pub deep : nesting ≤ length all

-- at the start
state_start : (bound : ℕ) (all : List ℕ) → State bound all [] [] false 0 all
state_start bound all = record { known = start all; built = λ e l. built_nothing all; room = omega arith; deep = omega arith }

module _ (bound : ℕ) (all left rest : List ℕ) (fs : List Layer) (is : List Instr) (floats : Bool) (nesting : ℕ) where
  -- a plain instruction
  on_plain : (i : Instr) → Reads left rest (reads.Plain i) → State bound all fs is floats nesting left → State bound all fs (is ++ i ∷ []) floats nesting rest
  on_plain i (t, q, (p, e, h)) s =
      let l = token_shorter left rest t q in
      record {
        known = plain_at all left rest (opens fs) floats nesting i (t, q, (p, e, h)) s.known;
        built = λ f n. built_plain all left rest fs is p i h (subst (IsFront IsToken left rest) e q) (s.built f n);
        room = omega (arith, s.room);
        deep = s.deep;
      }

  -- a floating one
  on_float : Reads left rest reads.Float → State bound all fs is floats nesting left → State bound all fs is true nesting rest
  on_float (t, q, e) s =
      let l = token_shorter left rest t q in
      record {
        known = float_at all left rest (opens fs) floats nesting (t, q, e) s.known;
        built = λ f n. cc;
        room = omega (arith, s.room);
        deep = s.deep;
      }

  -- a sequence opens
  on_opens : (kind : Kind) (floating after : Bool) (f : Layer) → after ≡ (floats || floating) → f.before ≡ is → f.kind ≡ kind → Reads left rest (reads.Opens kind floating) → State bound all fs is floats nesting left → State bound all (fs ++ f ∷ []) [] after nesting rest
  on_opens kind floating after f a e d (t, q, (ty, i, g, h)) s =
      let l = token_shorter left rest t q in
      let k = opens_at all left rest (opens fs) floats nesting kind floating (t, q, (ty, i, g, h)) s.known in
      record {
        known = subst (λ o. Known all o after nesting rest) (ap (λ j. opens fs ++ open_of j ∷ []) (sym d) ∙ sym (opens_push fs f)) (subst (λ b. Known all (opens fs ++ open_of kind ∷ []) b nesting rest) (sym a) k);
        built = λ n m. built_open all left rest fs is kind t f e d (h (or_parts floats floating (sym a ∙ n)).1) q (s.built (or_parts floats floating (sym a ∙ n)).0 m);
        room = omega (arith, s.room, length-append fs (f ∷ []));
        deep = s.deep;
      }

  module _ (stack : List Layer) (f : Layer) (depth : ℕ) (e : stack ≡ fs ++ f ∷ []) (d : depth ≡ suc (length fs)) where
    last_open : opens stack ≡ opens fs ++ open_of f.kind ∷ []
    last_open = ap opens e ∙ opens_push fs f

    depth_is : depth ≡ suc (length (opens fs))
    depth_is = d ∙ ap suc (sym (opens_length fs))

    -- `else` closes the first part of an `if`
    on_else : (ty : BlockType) (g : Layer) → f.kind ≡ kinds.Then ty → g.before ≡ f.before → g.kind ≡ kinds.Else ty (code_of is) → Reads left rest reads.Else → State bound all stack is floats nesting left → State bound all (fs ++ g ∷ []) [] floats (max nesting depth) rest
    on_else ty g h i j (t, q, k) s =
        let l = token_shorter left rest t q in
        let w = else_at all left rest (opens fs) floats nesting (opens stack) (open_of f.kind) depth last_open (ap open_of h) depth_is (t, q, k) s.known in
        record {
          known = subst (λ o. Known all o floats (max nesting depth) rest) (ap (λ j. opens fs ++ open_of j ∷ []) (sym j) ∙ sym (opens_push fs g)) w;
          built = λ n m. built_else all left rest fs is ty f g h i j (subst (IsFront IsToken left rest) k q) (subst (λ v. Built all v is left) e (s.built n (omega arith)));
          room = omega (arith, s.room, ap length e, length-append fs (f ∷ []), length-append fs (g ∷ []));
          deep = omega (arith, s.room, s.deep, ap length e, length-append fs (f ∷ []));
        }

    -- `end` closes a sequence
    on_end : (i : Instr) → i ≡ closed_instr f.kind (code_of is) → Reads left rest reads.End → State bound all stack is floats nesting left → State bound all fs (f.before ++ i ∷ []) floats (max nesting depth) rest
    on_end i h (t, q, k) s =
        let l = token_shorter left rest t q in
        record {
          known = end_at all left rest (opens fs) floats nesting (opens stack) (open_of f.kind) depth last_open depth_is (t, q, k) s.known;
          built = λ n m. built_end all left rest fs is f i h (subst (IsFront IsToken left rest) k q) (subst (λ v. Built all v is left) e (s.built n (omega arith)));
          room = omega (arith, s.room, ap length e, length-append fs (f ∷ []));
          deep = omega (arith, s.room, s.deep, ap length e, length-append fs (f ∷ []));
        }

    -- above the bound nothing more is built
    on_end_deep : (js : List Instr) → bound < max nesting depth → Reads left rest reads.End → State bound all stack is floats nesting left → State bound all fs js floats (max nesting depth) rest
    on_end_deep js h (t, q, k) s =
        let l = token_shorter left rest t q in
        record {
          known = end_at all left rest (opens fs) floats nesting (opens stack) (open_of f.kind) depth last_open depth_is (t, q, k) s.known;
          built = λ n m. absurd (omega (arith, h, m));
          room = omega (arith, s.room, ap length e, length-append fs (f ∷ []));
          deep = omega (arith, s.room, s.deep, ap length e, length-append fs (f ∷ []));
        }

    -- an `else` in another sequence than the first part of an `if`
    else_stops : ((ty : BlockType) → f.kind ≡ kinds.Then ty → ⊥) → Reads left rest reads.Else → State bound all stack is floats nesting left → HasNoFront IsExpr all
    else_stops h r s = else_fails_at all left rest (opens fs) floats nesting (opens stack) (open_of f.kind) last_open (not_then f.kind h) r s.known
      where
        not_then : (k : Kind) → ((ty : BlockType) → k ≡ kinds.Then ty → ⊥) → open_of k ≡ then → ⊥
        not_then (kinds.Then ty) h e = h ty refl
        not_then (kinds.Block ty) h e = cc
        not_then (kinds.Loop ty) h e = cc
        not_then (kinds.Else ty c) h e = cc

  -- no token
  nothing_stops : HasNoFront IsToken left → State bound all fs is floats nesting left → HasNoFront IsExpr all
  nothing_stops h s = nothing_fails all left (opens fs) floats nesting h s.known

  -- an `else` in no sequence
  top_else_stops : fs ≡ [] → Reads left rest reads.Else → State bound all fs is floats nesting left → HasNoFront IsExpr all
  top_else_stops h r s = top_else_at all left rest (opens fs) floats nesting (ap opens h) r s.known

  -- the last `end`
  module _ (h : fs ≡ []) (r : Reads left rest reads.End) (s : State bound all fs is floats nesting left) where
    found : (t : grammar.CodeNode) × IsFront IsExpr all rest t × (floats ≡ code_floats t) × (nesting ≡ tree_nesting t)
    found = top_found_at all left rest (opens fs) floats nesting (ap opens h) r s.known

    end_floats : floats ≡ true → IsExprAnswer bound exprs.Floats all rest
    end_floats f = (found.0, found.1, sym found.2 ∙ f)

    end_deep : floats ≡ false → bound < nesting → IsExprAnswer bound (exprs.Deep nesting) all rest
    end_deep f n =
        let t = unfloated found.0 (sym found.2 ∙ f) in
        (t.0, subst (IsFront IsExpr all rest) t.1 found.1, found.3 ∙ ap tree_nesting t.1 ∙ nesting_same t.0, n)

    end_built : floats ≡ false → nesting ≤ bound → IsExprAnswer bound (exprs.Built (code_of is)) all rest
    end_built f n =
        let b = subst (λ v. Built all v is left) h (s.built f n) in
        let (t, q, k) = r in
        let w = built_whole all left rest is (subst (IsFront IsToken left rest) k q) b in
        let o = front_one IsExpr one_expr all rest rest found.0 (code_node (code_of is)) found.1 w in
        (w, omega (arith, n, found.3, ap tree_nesting o.1, nesting_same (code_of is)))

-- the answer at the last `end`
end_answer : (bound : ℕ) (all left rest : List ℕ) (fs : List Layer) (is : List Instr) (floats : Bool) (nesting : ℕ) → fs ≡ [] → Reads left rest reads.End → State bound all fs is floats nesting left → (answer : Expr) → (floats ≡ true → answer ≡ exprs.Floats) → (floats ≡ false → bound < nesting → answer ≡ exprs.Deep nesting) → (floats ≡ false → nesting ≤ bound → answer ≡ exprs.Built (code_of is)) → IsExprAnswer bound answer all rest
end_answer bound all left rest fs is true nesting h r s answer a b c =
    subst (λ e. IsExprAnswer bound e all rest) (sym (a refl)) (end_floats bound all left rest fs is true nesting h r s refl)
end_answer bound all left rest fs is false nesting h r s answer a b c =
    elim (cases_lt bound nesting) [
      | inl l ↦ subst (λ e. IsExprAnswer bound e all rest) (sym (b refl l)) (end_deep bound all left rest fs is false nesting h r s refl l)
      | inr l ↦ subst (λ e. IsExprAnswer bound e all rest) (sym (c refl l)) (end_built bound all left rest fs is false nesting h r s refl l)
    ]

-- ---- the same of a scan, whose frames and stack are the open sequences

pub record IsScan (bound : ℕ) (all : List ℕ) (fs : List Frame) (xs : List Instr) (floats : Bool) (nesting : ℕ) (left : List ℕ) : Type 0 where
  layers : List Layer
  inner : List Instr
  is_frames : fs ≡ frames 0 layers
  is_stack : xs ≡ stack_of layers inner
  state : State bound all layers inner floats nesting left

-- of equal findings
state_as : (bound : ℕ) (all : List ℕ) (ls : List Layer) (is : List Instr) (f g : Bool) (n m : ℕ) (left : List ℕ) → g ≡ f → m ≡ n → State bound all ls is f n left → State bound all ls is g m left
state_as bound all ls is f g n m left e h s = rw (e, h) s

module _ (bound : ℕ) (all : List ℕ) where
  -- at the start
  pub scan_start : IsScan bound all [] [] false 0 all
  scan_start = record { layers = []; inner = []; is_frames = refl; is_stack = refl; state = state_start bound all }

  module _ (left rest : List ℕ) (fs : List Frame) (xs : List Instr) (floats : Bool) (nesting : ℕ) (s : IsScan bound all fs xs floats nesting left) where
    pub scan_deep : nesting ≤ length all
    scan_deep = s.state.deep

    -- the instructions of the innermost sequence are on the stack
    pub scan_within : (outer : List Frame) (f : Frame) → fs ≡ outer ++ f ∷ [] → f.start ≤ length xs
    scan_within outer f e = top_within s.layers outer f (top s.layers outer f (sym e ∙ s.is_frames)) s.inner xs s.is_stack

    -- a plain instruction
    pub scan_plain : (i : Instr) → Reads left rest (reads.Plain i) → IsScan bound all fs (xs ++ i ∷ []) floats nesting rest
    scan_plain i r = record {
      layers = s.layers;
      inner = s.inner ++ i ∷ [];
      is_frames = s.is_frames;
      is_stack = ap (λ l. l ++ i ∷ []) s.is_stack ∙ sym (stack_more s.layers s.inner (i ∷ []));
      state = on_plain bound all left rest s.layers s.inner floats nesting i r s.state;
    }

    -- a floating one
    pub scan_float : Reads left rest reads.Float → IsScan bound all fs xs true nesting rest
    scan_float r = record {
      layers = s.layers;
      inner = s.inner;
      is_frames = s.is_frames;
      is_stack = s.is_stack;
      state = on_float bound all left rest s.layers s.inner floats nesting r s.state;
    }

    -- no token
    pub scan_stops : HasNoFront IsToken left → HasNoFront IsExpr all
    scan_stops h = nothing_stops bound all left [] s.layers s.inner floats nesting h s.state

    -- an `else` in no sequence
    pub scan_top_else : fs ≡ [] → Reads left rest reads.Else → HasNoFront IsExpr all
    scan_top_else e r = top_else_stops bound all left rest s.layers s.inner floats nesting (no_layers s.layers (sym s.is_frames ∙ e)) r s.state

    -- an `else` in another sequence than the first part of an `if`
    pub scan_else_stops : (outer : List Frame) (f : Frame) → fs ≡ outer ++ f ∷ [] → IsNoThen f.kind → Reads left rest reads.Else → HasNoFront IsExpr all
    scan_else_stops outer f e h r =
        let t = top s.layers outer f (sym e ∙ s.is_frames) in
        else_stops bound all left rest t.outer s.inner floats nesting s.layers t.last (suc (length t.outer)) t.split refl (λ ty k. h ty (t.kind ∙ k)) r s.state

    -- the answer at the last `end`
    pub scan_answer : fs ≡ [] → Reads left rest reads.End → (answer : Expr) → (floats ≡ true → answer ≡ exprs.Floats) → (floats ≡ false → bound < nesting → answer ≡ exprs.Deep nesting) → (floats ≡ false → nesting ≤ bound → answer ≡ exprs.Built (code_of xs)) → IsExprAnswer bound answer all rest
    scan_answer e r answer a b c =
        let n = no_layers s.layers (sym s.is_frames ∙ e) in
        let q : xs ≡ s.inner = s.is_stack ∙ ap (λ l. stack_of l s.inner) n in
        end_answer bound all left rest s.layers s.inner floats nesting n r s.state answer a b (λ f m. c f m ∙ ap (λ l. exprs.Built (code_of l)) q)

  module _ (left rest : List ℕ) (old new : Scan) where
    -- a sequence opens
    pub scan_opens : (kind : Kind) (floating : Bool) → OpensSequence old new kind floating → Reads left rest (reads.Opens kind floating) → IsScan bound all old.stack.items old.items.items old.floats old.nesting left → IsScan bound all new.stack.items new.items.items new.floats new.nesting rest
    scan_opens kind floating o r s = record {
      layers = s.layers ++ layer s.inner kind ∷ [];
      inner = [];
      is_frames = o.stack ∙ ap (λ l. l ++ frame (length old.items.items) kind ∷ []) s.is_frames ∙ ap (λ l. frames 0 s.layers ++ frame (length l) kind ∷ []) s.is_stack ∙ sym (frames_last s.layers (layer s.inner kind));
      is_stack = ap (λ v. v.items) o.items ∙ s.is_stack ∙ sym (append-nil (stack_of s.layers s.inner)) ∙ sym (stack_push s.layers (layer s.inner kind) []);
      state = rw o.nesting (on_opens bound all left rest s.layers s.inner old.floats old.nesting kind floating new.floats (layer s.inner kind) o.floats refl refl r s.state);
    }

    -- the innermost was taken off
    module _ (f : Frame) (stack : List Frame) (d : stack ≡ old.stack.items ++ f ∷ []) (s : IsScan bound all stack old.items.items old.floats old.nesting left) where
      innermost : Top s.layers old.stack.items f
      innermost = top s.layers old.stack.items f (sym d ∙ s.is_frames)

      depth_of : length old.stack.items + 1 ≡ suc (length innermost.outer)
      depth_of = omega (arith, ap length innermost.is_outer, frames_length 0 innermost.outer)

      taken : take f.start old.items.items ≡ stack_of innermost.outer innermost.last.before
      taken = top_take s.layers old.stack.items f innermost s.inner old.items.items s.is_stack

      dropped : drop f.start old.items.items ≡ s.inner
      dropped = top_drop s.layers old.stack.items f innermost s.inner old.items.items s.is_stack

      -- `else` closes the first part of an `if`
      pub scan_else : TurnsToElse old new f → Reads left rest reads.Else → IsScan bound all new.stack.items new.items.items new.floats new.nesting rest
      scan_else t r =
          let o = innermost.outer in
          let g = layer innermost.last.before (kinds.Else t.ty (code_of s.inner)) in
          record {
            layers = o ++ g ∷ [];
            inner = [];
            is_frames = t.stack ∙ ap (λ l. l ++ frame f.start (kinds.Else t.ty (code_of (drop f.start old.items.items))) ∷ []) innermost.is_outer ∙ ap (λ c. frames 0 o ++ frame f.start (kinds.Else t.ty (code_of c)) ∷ []) dropped ∙ ap (λ n. frames 0 o ++ frame n g.kind ∷ []) innermost.start ∙ sym (frames_last o g);
            is_stack = t.items ∙ taken ∙ sym (append-nil (stack_of o g.before)) ∙ sym (stack_push o g []);
            state = state_as _ _ _ _ _ _ _ _ _ t.floats t.nesting (on_else bound all left rest o s.inner old.floats old.nesting s.layers innermost.last (length old.stack.items + 1) innermost.split depth_of t.ty g (sym innermost.kind ∙ t.first) refl refl r s.state);
          }

      -- `end` closes a sequence
      pub scan_ends : ClosesSequence old new f bound → Reads left rest reads.End → IsScan bound all new.stack.items new.items.items new.floats new.nesting rest
      scan_ends e r =
          let o = innermost.outer in
          let b = innermost.last.before in
          let i = closed_instr innermost.last.kind (code_of s.inner) in
          elim (cases_lt bound new.nesting) [
            | inl l ↦
                record {
                  layers = o;
                  inner = b;
                  is_frames = e.stack ∙ innermost.is_outer;
                  is_stack = e.beyond l ∙ taken;
                  state = state_as _ _ _ _ _ _ _ _ _ e.floats e.nesting (on_end_deep bound all left rest o s.inner old.floats old.nesting s.layers innermost.last (length old.stack.items + 1) innermost.split depth_of b (omega (arith, l, e.nesting)) r s.state);
                }
            | inr l ↦
                record {
                  layers = o;
                  inner = b ++ i ∷ [];
                  is_frames = e.stack ∙ innermost.is_outer;
                  is_stack = e.within l ∙ ap (λ x. x ++ closed_instr f.kind (code_of (drop f.start old.items.items)) ∷ []) taken ∙ ap (λ c. stack_of o b ++ closed_instr f.kind (code_of c) ∷ []) dropped ∙ ap (λ k. stack_of o b ++ closed_instr k (code_of s.inner) ∷ []) innermost.kind ∙ sym (stack_more o b (i ∷ []));
                  state = state_as _ _ _ _ _ _ _ _ _ e.floats e.nesting (on_end bound all left rest o s.inner old.floats old.nesting s.layers innermost.last (length old.stack.items + 1) innermost.split depth_of i refl r s.state);
                }
          ]
