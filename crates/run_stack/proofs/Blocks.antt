-- Blocks that are entered, on what the machine keeps.
use Rattle.std.proofs.Common.{◌≡◌, ◌≢◌, ℕ, zero, suc, ◌+◌, ◌-◌, ◌<◌, ◌≤◌, List, [], ◌∷◌, ◌++◌, length, Option, Some, None, refl, sym, ap, subst, ◌∙◌, arith, append_assoc, append-nil, length-append}
use Rattle.std.specs.Prelude.{reverse}
use Rattle.std.proofs.lemmas.List.{length-reverse}
use Rattle.wasm_sem.specs.Types.{Value, BlockType, Instr, FuncType}
use Rattle.wasm_num.specs.declared.Value.TheVariants.{I32, I64}
use Rattle.module_ast.specs.declared.code.Instr.TheVariants as instrs
use Rattle.module_ast.specs.Places.{Scope, block_scope, loop_scope, if_scope, then_scope, else_scope}
use Rattle.module_ast.specs.Structure.{before, Tree}
use Rattle.module_ast.specs.Validation.{block_type}
use Rattle.wasm_sem.specs.Execution.{Instance, Cont, behind, again, Label, Frame, Env, Next, at_zero, pop_values, arity_of, enter_popped_block, enter_block, frame_past, reduce_code}
use Rattle.run_stack.specs.Flat.{Flat, opened}
use Rattle.run_stack.specs.Kept.{ops_of, again_in, all_values, under, low_of, Lies}
use Rattle.run_stack.specs.Comes.{IsUnstuck, LiesNext, HasLabelRoom, IsMoving, next_of}
use Rattle.run_stack.proofs.Controls.{itself, on_top, takes}
use Rattle.run_stack.proofs.Popped.{parts}
use Rattle.run_stack.proofs.Lying.{with_values}
use Rattle.run_stack.proofs.Pushed.{push_reversed}
use Rattle.run_stack.proofs.Straights.{pushed}

-- a number that is not 0
at_some : (n : ℕ) (a b : Next) → n ≢ 0 → at_zero n a b ≡ b
at_some zero a b h = absurd (h refl)
at_some (suc n) a b h = refl

module _ (s : Flat) (place : Tree) (inst : Instance) (e : Env) (fr : Frame) (below : List Frame) (types : List FuncType) (same : inst.types ≡ types) where
  abbrev Moving : Instr → Type 0
  Moving i = IsMoving s place i inst e fr below

  -- it finds what it asks for, and room
  abbrev Ready : Next → Type 0
  Ready n = IsUnstuck n × HasLabelRoom s.spot_room n

  abbrev enters : Scope → Cont → (inside outside : ℕ) → Tree → Option FuncType → List Value → Next
  enters sc cont i j body t o = enter_block e fr below sc cont t i j body fr.top.rest o

  -- ---- a block that is entered with these operands

  module _ (sc : Scope) (cont : Cont) (i j : ℕ) (body : Tree) (ty : BlockType) (o : List Value) where
    abbrev the_next : Next
    the_next = enters sc cont i j body (block_type inst.types ty) o

    -- its type is there, and what it takes
    record Begins : Type 0 where
      type : FuncType
      at : block_type inst.types ty ≡ Some type
      taken : List Value
      left : List Value
      popped : pop_values (length type.params) o [] ≡ Some (taken, left)

    begins : IsUnstuck the_next → Begins
    begins r = go (block_type inst.types ty) refl r
      where
        taking : (t : FuncType) → block_type inst.types ty ≡ Some t → (p : Option (List Value × List Value)) → pop_values (length t.params) o [] ≡ p
            → IsUnstuck (enter_popped_block e fr below sc cont t i j body fr.top.rest p) → Begins
        taking t at None popped r = absurd r
        taking t at (Some p) popped r = record { type = t; at = at; taken = p.0; left = p.1; popped = popped }

        go : (t : Option FuncType) → block_type inst.types ty ≡ t → IsUnstuck (enters sc cont i j body t o) → Begins
        go None at r = absurd r
        go (Some t) at r = taking t at (pop_values (length t.params) o []) refl r

    module _ (b : Begins) where
      next_is : the_next ≡ enter_popped_block e fr below sc cont b.type i j body fr.top.rest (Some (b.taken, b.left))
      next_is = ap (λ t. enters sc cont i j body t o) b.at ∙ ap (enter_popped_block e fr below sc cont b.type i j body fr.top.rest) b.popped

      abbrev around : List Label
      around = record fr.top { ops = b.left; at = j; rest = fr.top.rest } ∷ fr.outer

      whole : o ≡ reverse b.taken ++ b.left
      whole = (parts (length b.type.params) o [] b.taken b.left b.popped).whole

      count : length b.taken ≡ length b.type.params
      count = (parts (length b.type.params) o [] b.taken b.left b.popped).count ∙ omega arith

      size : length (o ++ under fr below) ≡ length b.type.params + (length (ops_of around) + low_of fr below)
      size =
          omega (
            arith,
            length-append o (under fr below),
            ap length whole,
            length-append (reverse b.taken) b.left,
            length-reverse b.taken,
            count,
            length-append (ops_of fr.outer) (reverse fr.locals ++ all_values below),
            length-append (reverse fr.locals) (all_values below),
            length-reverse fr.locals,
            length-append b.left (ops_of fr.outer),
          )

    abbrev CanBegin : Flat → Type 0
    CanBegin t = (f : FuncType) × (block_type types ty ≡ Some f) × (length f.params ≤ length t.values)

    module _ (t : Flat) (lies : Lies s (fr ∷ below)) (is : t ≡ with_values s (o ++ under fr below)) where
      begin_can : Ready the_next → CanBegin t × (length t.spots < t.spot_room)
      begin_can (r, room) =
          let b = begins r in
          let spots = ap length lies.spots in
          let deep = subst (HasLabelRoom s.spot_room) (next_is b) room in
          subst (λ (t : Flat). CanBegin t × (length t.spots < t.spot_room)) (sym is)
          ((b.type, ap (λ ts. block_type ts ty) (sym same) ∙ b.at, omega (arith, size b)), omega (arith, spots, deep))

      begin_comes : (u : Flat) (loop : Option Tree) → ((left : List Value) → loop ≡ again_in cont (record fr.top { ops = left; at = j; rest = fr.top.rest } ∷ fr.outer)) → IsUnstuck the_next
          → ((f : FuncType) → block_type types ty ≡ Some f → u ≡ opened body loop (length f.params) (arity_of cont f) t) → LiesNext inst e the_next u
      begin_comes u loop again_is r h =
          let b = begins r in
          let u_is = h b.type (ap (λ ts. block_type ts ty) (sym same) ∙ b.at) ∙ ap (opened body loop (length b.type.params) (arity_of cont b.type)) is in
          let high : length (o ++ under fr below) - length b.type.params ≡ length (ops_of (around b)) + low_of fr below = omega (arith, size b) in
          subst (λ n. LiesNext inst e n u) (sym (next_is b)) (
            refl,
            record {
              values = ap (λ (u : Flat). u.values) u_is ∙ ap (λ o. o ++ under fr below) (whole b) ∙ append_assoc (reverse b.taken) b.left (under fr below)
                  ∙ ap (λ xs. reverse b.taken ++ xs) (sym (append_assoc b.left (ops_of fr.outer) (reverse fr.locals ++ all_values below)))
                  ∙ ap (λ xs. xs ++ (ops_of (around b) ++ (reverse fr.locals ++ all_values below))) (sym (push_reversed b.taken [] ∙ append-nil (reverse b.taken)));
              spots = ap (λ (u : Flat). u.spots) u_is
                  ∙ ap (λ n. record { rest = body; again = loop; height = n; arity = arity_of cont b.type } ∷ s.spots) high
                  ∙ ap (λ loop. record { rest = body; again = loop; height = length (ops_of (around b)) + low_of fr below; arity = arity_of cont b.type } ∷ s.spots) (again_is b.left)
                  ∙ ap (λ ss. record { rest = body; again = again_in cont (around b); height = length (ops_of (around b)) + low_of fr below; arity = arity_of cont b.type } ∷ ss) lies.spots;
              bases = ap (λ (u : Flat). u.bases) u_is ∙ lies.bases;
            },
          )

  -- ---- block and loop

  abbrev CanEnter : BlockType → Flat → Type 0
  CanEnter ty t = ((f : FuncType) × (block_type types ty ≡ Some f) × (length f.params ≤ length t.values)) × (length t.spots < t.spot_room)

  -- entered with these numbers of starts and results
  abbrev HasOpened : BlockType → Tree → (t u : Flat) → Type 0
  HasOpened ty body t u = (f : FuncType) → block_type types ty ≡ Some f → u ≡ opened body None (length f.params) (length f.results) t

  pub block_can : (ty : BlockType) (body : Tree) → Moving (instrs.Block ty body) → CanEnter ty s
  block_can ty body m =
      let sc = block_scope fr.top.at body in
      begin_can sc behind (fr.top.at + 1) (sc.end + 1) body ty fr.top.ops s m.lies (itself s place inst e fr below m.lies) (m.ready, m.room)

  pub block_comes : (ty : BlockType) (body : Tree) → Moving (instrs.Block ty body) → (u : Flat) → HasOpened ty body s u → LiesNext inst e (next_of inst e fr below (instrs.Block ty body)) u
  block_comes ty body m u h =
      let sc = block_scope fr.top.at body in
      begin_comes sc behind (fr.top.at + 1) (sc.end + 1) body ty fr.top.ops s m.lies (itself s place inst e fr below m.lies) u None (λ left. refl) m.ready h

  pub loop_can : (ty : BlockType) (body : Tree) → Moving (instrs.Loop ty body) → CanEnter ty s
  loop_can ty body m =
      let sc = loop_scope fr.top.at body in
      begin_can sc (again ty body) (fr.top.at + 1) (sc.end + 1) body ty fr.top.ops s m.lies (itself s place inst e fr below m.lies) (m.ready, m.room)

  pub loop_comes : (ty : BlockType) (body : Tree) → Moving (instrs.Loop ty body) → (u : Flat) → ((f : FuncType) → block_type types ty ≡ Some f → u ≡ opened body (Some place) (length f.params) (length f.params) s)
      → LiesNext inst e (next_of inst e fr below (instrs.Loop ty body)) u
  loop_comes ty body m u h =
      let sc = loop_scope fr.top.at body in
      begin_comes sc (again ty body) (fr.top.at + 1) (sc.end + 1) body ty fr.top.ops s m.lies (itself s place inst e fr below m.lies) u (Some place) (λ left. ap Some m.place_is) m.ready h

  -- ---- if

  abbrev code_next : Instr → List Value → Next
  code_next i o = reduce_code inst e fr below (before i fr.top.rest) o

  -- an `if` that has nothing to do is passed
  past : (t : Flat) (o : List Value) (end : ℕ) → Lies s (fr ∷ below) → t ≡ with_values s (o ++ under fr below) → Lies t (frame_past fr end fr.top.rest o ∷ below)
  past t o end lies is = subst (λ t. Lies t (frame_past fr end fr.top.rest o ∷ below)) (sym is) (record { values = refl; spots = lies.spots; bases = lies.bases })

  module _ (x : ℕ) (t : Flat) (h : s ≡ pushed (I32 x) t) where
    -- the number was taken, and is not 0
    on_some : (i : Instr) → (Ready (code_next i []) → ⊥) → ((n : ℕ) (o : List Value) → Ready (code_next i (I64 n ∷ o)) → ⊥) → (P : List Value → Type 0)
        → ((n : ℕ) (o : List Value) → t ≡ with_values s (o ++ under fr below) → x ≡ n → Ready (code_next i (I32 n ∷ o)) → P (I32 n ∷ o)) → Moving i → P fr.top.ops
    on_some i none long P f m =
        on_top s place inst e fr below (λ o. Ready (code_next i o)) none long P
        (λ n o q r. let z = takes s place inst e fr below x t n o m.lies h q in f n o z.left z.is r) (m.ready, m.room)

    pub if_can : (ty : BlockType) (body : Tree) → x ≢ 0 → Moving (instrs.If ty body) → CanEnter ty t
    if_can ty body some m = on_some (instrs.If ty body) (λ r. r.0) (λ n o r. r.0) (λ o. CanEnter ty t) (λ n o left is r.
        let sc = if_scope fr.top.at body in
        begin_can sc behind (fr.top.at + 1) (sc.end + 1) body ty o t m.lies left (subst Ready (at_some n _ _ (λ z. some (is ∙ z))) r)) m

    pub if_comes : (ty : BlockType) (body : Tree) → x ≢ 0 → Moving (instrs.If ty body) → (u : Flat) → HasOpened ty body t u → LiesNext inst e (next_of inst e fr below (instrs.If ty body)) u
    if_comes ty body some m u g = on_some (instrs.If ty body) (λ r. r.0) (λ n o r. r.0) (λ o. LiesNext inst e (code_next (instrs.If ty body) o) u) (λ n o left is r.
        let sc = if_scope fr.top.at body in
        let e1 = at_some n _ _ (λ z. some (is ∙ z)) in
        subst (λ c. LiesNext inst e c u) (sym e1) (begin_comes sc behind (fr.top.at + 1) (sc.end + 1) body ty o t m.lies left u None (λ left. refl) (subst Ready e1 r).0 g)) m

    pub past_comes : (ty : BlockType) (body : Tree) → x ≡ 0 → Moving (instrs.If ty body) → LiesNext inst e (next_of inst e fr below (instrs.If ty body)) t
    past_comes ty body none m = on_some (instrs.If ty body) (λ r. r.0) (λ n o r. r.0) (λ o. LiesNext inst e (code_next (instrs.If ty body) o) t) (λ n o left is r.
        let sc = if_scope fr.top.at body in
        subst (λ n. LiesNext inst e (code_next (instrs.If ty body) (I32 n ∷ o)) t) (sym none ∙ is) (refl, past t o sc.end m.lies left)) m

    pub then_can : (ty : BlockType) (body other : Tree) → x ≢ 0 → Moving (instrs.IfElse ty body other) → CanEnter ty t
    then_can ty body other some m = on_some (instrs.IfElse ty body other) (λ r. r.0) (λ n o r. r.0) (λ o. CanEnter ty t) (λ n o left is r.
        let a = then_scope fr.top.at body other in
        let b = else_scope fr.top.at body other in
        begin_can a behind (fr.top.at + 1) (b.end + 1) body ty o t m.lies left (subst Ready (at_some n _ _ (λ z. some (is ∙ z))) r)) m

    pub then_comes : (ty : BlockType) (body other : Tree) → x ≢ 0 → Moving (instrs.IfElse ty body other) → (u : Flat) → HasOpened ty body t u → LiesNext inst e (next_of inst e fr below (instrs.IfElse ty body other)) u
    then_comes ty body other some m u g = on_some (instrs.IfElse ty body other) (λ r. r.0) (λ n o r. r.0) (λ o. LiesNext inst e (code_next (instrs.IfElse ty body other) o) u) (λ n o left is r.
        let a = then_scope fr.top.at body other in
        let b = else_scope fr.top.at body other in
        let e1 = at_some n _ _ (λ z. some (is ∙ z)) in
        subst (λ c. LiesNext inst e c u) (sym e1) (begin_comes a behind (fr.top.at + 1) (b.end + 1) body ty o t m.lies left u None (λ left. refl) (subst Ready e1 r).0 g)) m

    pub else_can : (ty : BlockType) (body other : Tree) → x ≡ 0 → Moving (instrs.IfElse ty body other) → CanEnter ty t
    else_can ty body other none m = on_some (instrs.IfElse ty body other) (λ r. r.0) (λ n o r. r.0) (λ o. CanEnter ty t) (λ n o left is r.
        let a = then_scope fr.top.at body other in
        let b = else_scope fr.top.at body other in
        begin_can b behind (a.end + 1) (b.end + 1) other ty o t m.lies left (subst (λ n. Ready (code_next (instrs.IfElse ty body other) (I32 n ∷ o))) (sym is ∙ none) r)) m

    pub else_comes : (ty : BlockType) (body other : Tree) → x ≡ 0 → Moving (instrs.IfElse ty body other) → (u : Flat) → HasOpened ty other t u → LiesNext inst e (next_of inst e fr below (instrs.IfElse ty body other)) u
    else_comes ty body other none m u g = on_some (instrs.IfElse ty body other) (λ r. r.0) (λ n o r. r.0) (λ o. LiesNext inst e (code_next (instrs.IfElse ty body other) o) u) (λ n o left is r.
        let a = then_scope fr.top.at body other in
        let b = else_scope fr.top.at body other in
        let zero_is = sym is ∙ none in
        subst (λ n. LiesNext inst e (code_next (instrs.IfElse ty body other) (I32 n ∷ o)) u) (sym zero_is)
        (begin_comes b behind (a.end + 1) (b.end + 1) other ty o t m.lies left u None (λ left. refl) (subst (λ n. Ready (code_next (instrs.IfElse ty body other) (I32 n ∷ o))) zero_is r).0 g)) m
